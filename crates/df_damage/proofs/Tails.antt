-- Where the header ring is whole and unhurt, what an open finds has every prepare of the file's tail.
use Rattle.{std.proofs.{Common.{◌≡◌, ◌%◌, refl, sym, ◌∙◌, ap, arith}, lemmas.Nat.{mod_below}}, df_recovery.specs.Below.{shape}}
use Rattle.df_theory.{specs.{Tails.{In}, Units.{Header, Message, PreparePlace, PrepareUnit}, View.{Checkpoint}}, proofs.Laws.{chain_ops, read_law, pool_pools}}
use Rattle.df_damage.{specs.Openings.{WholeTailIsFound}, proofs.{Barriers.{log, rests, shown}, Files.{opened_found}, Opened.{headers_tell}}}

pub whole_tail_is_found : WholeTailIsFound
whole_tail_is_found version file view t s may whole headers copies is p there =
    let told = headers_tell version file view t s may headers is in let slot = p.header.op % file.layout.slots in
    let bears = (rests file view t may).holds.bears in
    let above = chain_ops file.layout.clients _ _ _ _ view.tail p bears.sound.chain there in
    let ring = whole.headers slot (mod_below p.header.op file.layout.slots (shape file).some) in
    let own : p.header ≡ ring.0 = ring.2 p there refl in
    let base : is.view.checkpoint.content.op ≡ view.checkpoint.content.op = ap (λ (c : Checkpoint). c.content.op) (told.1 copies) in
    let each = told.0 slot ring.0 ring.1 (omega (arith, above.0, base, ap (λ (h : Header). h.op) own)) in let q : Message = each.0 in
    let wrote = (rests file view t may).pooled
    (PreparePlace slot) (PrepareUnit p) (bears.needs (PreparePlace slot) (PrepareUnit p) (p, there, refl, refl)) in
    let same : p ≡ q = read_law (log file view t may) (shown file view t may)
    (PreparePlace slot) (PreparePlace (q.header.op % file.layout.slots)) (PrepareUnit p) (PrepareUnit q) may.no_chance
    (pool_pools (log file view t may).start (log file view t may).events (PreparePlace slot) (PrepareUnit p) wrote)
    ((opened_found file view t may s is).tail.takes q each.1).shown (ap (λ (h : Header). h.checksum) own ∙ sym each.3) in
    rw (sym same) at each.1
