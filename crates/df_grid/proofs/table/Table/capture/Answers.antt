-- All entries are captured, and the least free addresses taken.
use Rattle.std.proofs.{Common.{◌≡◌, List, [], length, take, map, ap, ◌∙◌, arith}, lemmas.List.{length-map}}
use Rattle.df_model.specs.Blocks.{blocks_captured}
use Rattle.df_grid.{specs.{declared.entry.Entry.{Entry}, Table.{AreCounts, IsGridTable, TableState, blocks_in, capturing, is_captured, open_from, picked, unheld}}, proofs.{Held.{unheld_open}, Free.{open_count}, Captures.{captured_blocks, captured_kept, no_pairs}, Groups.{all_counted}, Views.{viewed}}}
use Rattle.df_grid.proofs.table.Table.capture.Goals as goal

pub take_least-self-inside-requires-clause-enough : goal.take_least-self-inside-requires-clause-enough
take_least-self-inside-requires-clause-enough c = let s = c.self.inside in
    omega (arith, c.requires.free, ap (λ (v : TableState). length (unheld v.size v.blocks)) c.self.view_is, ap length (unheld_open s.entries s.free s.written.items s.left.items s.chain.items c.self.invariant.0), open_count 1 s.free)

pub count_captured-self-inside-requires : goal.count_captured-self-inside-requires
count_captured-self-inside-requires c =
    omega (arith, c.self.invariant.1.few, ap length c.capture_all.ensures, length-map c.self.inside.entries capturing)

pub invariant_of-self : goal.invariant_of-self
invariant_of-self c = let s = c.self.inside in
    let written = no_pairs s.entries s.written.items (ap (λ (v : TableState). v.blocks.written) c.self.view_is ∙ c.requires.idle.written) in
    let left : s.left.items ≡ [] = ap (λ (v : TableState). v.blocks.left) c.self.view_is ∙ c.requires.idle.left in
    let captured : picked is_captured 1 s.entries ≡ [] = ap (λ (v : TableState). v.blocks.captured) c.self.view_is ∙ c.requires.idle.captured in
    let idle : IsGridTable s.entries s.free [] [] s.chain.items = rw left at (rw written at c.self.invariant.0) in
    let counts = rw c.capture_all.ensures at c.count_captured-self-inside.ensures in rw (c.capture_all.ensures, written) (
      captured_kept s.entries s.free s.chain.items idle captured
          c.args.blocks c.requires.few c.take_least-self-inside.new.free c.take_least-self-inside.result.items c.take_least-self-inside.ensures,
      all_counted (map capturing s.entries) c.take_least-self-inside.result.items
          c.count_captured-self-inside.result.items (omega (arith, c.self.invariant.1.few, length-map s.entries capturing)) counts,
    )

pub returns : goal.returns
returns c = let s = c.self.inside in
    let written = no_pairs s.entries s.written.items (ap (λ (v : TableState). v.blocks.written) c.self.view_is ∙ c.requires.idle.written) in
    let left : s.left.items ≡ [] = ap (λ (v : TableState). v.blocks.left) c.self.view_is ∙ c.requires.idle.left in
    let captured : picked is_captured 1 s.entries ≡ [] = ap (λ (v : TableState). v.blocks.captured) c.self.view_is ∙ c.requires.idle.captured in
    let idle : IsGridTable s.entries s.free [] [] s.chain.items = rw left at (rw written at c.self.invariant.0) in
    let free = unheld_open s.entries s.free [] [] s.chain.items idle in rw (← c.self.view_is, c.capture_all.ensures, written, left, free)
    (viewed s.entries (map capturing s.entries) [] c.take_least-self-inside.result.items
    s.chain.items (blocks_captured (blocks_in s.entries [] [] s.chain.items) (take c.args.blocks (open_from 1 s.free)))
    (length-map s.entries capturing) (captured_blocks s.entries s.free s.chain.items idle captured
    c.args.blocks c.requires.few c.take_least-self-inside.new.free c.take_least-self-inside.result.items c.take_least-self-inside.ensures))
