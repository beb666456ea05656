-- The op is the slot's: the distance to it, round the ring.
use Rattle.std.proofs.Common.{◌≡◌, ◌+◌, ◌-◌, ◌%◌, ◌<◌, ◌∙◌, ap, arith, length, subst, ℕ}
use Rattle.df_journal.{specs.{Scan.{Scan}, Seen.{IsOpOf}}, proofs.Ops.{op_of_slot}}
use Rattle.df_journal.proofs.table.SlotTable.op_at.Goals as goal

pub returns : goal.returns
returns c = let scan : Scan = c.args.self.now in let same : length c.as_slice.result.now ≡ length scan.slots =
    ap length c.as_slice.ensures.value ∙ ap (λ (s : Scan). length s.slots) c.self.view_is in
    let op : c.self.inside.start.op ≡ scan.start.op = ap (λ (s : Scan). s.start.op) c.self.view_is in
    let slots : ℕ = length c.as_slice.result.now in let first : ℕ = c.self.inside.start.op + 1 in
    let o : ℕ = first + (c.from.result + slots - first % slots) % slots in
    let below : c.from.result < slots = omega (arith, same, c.requires, c.from.ensures) in
    let slot : IsOpOf slots c.self.inside.start.op c.args.slot o = subst (λ (k : ℕ). IsOpOf slots c.self.inside.start.op k o)
    c.from.ensures (op_of_slot slots c.self.inside.start.op c.from.result (omega (arith, below)) below) in
    subst (λ (n : ℕ). IsOpOf (length scan.slots) n c.args.slot o) op
    (subst (λ (n : ℕ). IsOpOf n c.self.inside.start.op c.args.slot o) same slot)
