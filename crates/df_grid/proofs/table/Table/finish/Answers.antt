-- All entries are finished.
use Rattle.std.{proofs.{Common.{◌≡◌, List, ℕ, suc, [], Some, length, refl, map, ap, ◌∙◌, arith}, lemmas.List.{length-map}, lemmas.Option.{slice_get_within}, Math.Bool.{or-false}}, specs.Prelude.{slice_get}}
use Rattle.df_model.specs.Blocks.{capture_finished}
use Rattle.df_grid.{specs.{declared.entry.Entry.{Entry}, Entries.{is_marked}, Table.{IsGridTable, TableState, blocks_in, finishing}}, proofs.{Captures.{finished_blocks, finished_kept}, Groups.{none_counted}, Turns.{part_all}, Views.{viewed}}}
use Rattle.df_grid.proofs.table.Table.finish.Goals as goal

pub finish_all-requires-clause-taken : goal.finish_all-requires-clause-taken
finish_all-requires-clause-taken c = let s = c.self.inside in
    let left : s.left.items ≡ [] = ap (λ (v : TableState). v.blocks.left) c.self.view_is ∙ c.requires in
    let ready : IsGridTable s.entries s.free s.written.items [] s.chain.items = rw left at c.self.invariant.0 in
    λ i e at. ready.holds (suc i) i e refl at ∙ ap Some (or-false (is_marked e))

pub invariant_of-self : goal.invariant_of-self
invariant_of-self c = let s = c.self.inside in
    let left : s.left.items ≡ [] = ap (λ (v : TableState). v.blocks.left) c.self.view_is ∙ c.requires in let done = c.finish_all.ensures in
    let all : c.finish_all.new.entries ≡ map finishing s.entries =
    done.entries ∙ part_all finishing (length s.entries) s.entries (omega arith) in
    let ready : IsGridTable s.entries s.free s.written.items [] s.chain.items = rw left at c.self.invariant.0 in
    let marks : (i : ℕ) (e : Entry) → slice_get (map finishing s.entries) i ≡ Some e → slice_get c.finish_all.new.free i ≡ Some (is_marked e) = λ i e at. done.holds i e (omega (arith, slice_get_within (map finishing s.entries) i e at, length-map s.entries finishing)) (ap (λ (l : List Entry). slice_get l i) all ∙ at) in
    rw (all, left, c.take-self-inside.ensures.value, c.take-self-inside.ensures.after, c.clear.ensures)
    (finished_kept s.entries s.free s.written.items s.chain.items ready c.finish_all.new.free done.size marks, none_counted (map finishing s.entries) (omega (arith, c.self.invariant.1.few, length-map s.entries finishing)))

pub returns : goal.returns
returns c = let s = c.self.inside in let left : s.left.items ≡ [] = ap (λ (v : TableState). v.blocks.left) c.self.view_is ∙ c.requires in
    let done = c.finish_all.ensures in let all : c.finish_all.new.entries ≡ map finishing s.entries =
    done.entries ∙ part_all finishing (length s.entries) s.entries (omega arith) in
    let ready : IsGridTable s.entries s.free s.written.items [] s.chain.items = rw left at c.self.invariant.0 in
    let marks : (i : ℕ) (e : Entry) → slice_get (map finishing s.entries) i ≡ Some e → slice_get c.finish_all.new.free i ≡ Some (is_marked e) = λ i e at. done.holds i e (omega (arith, slice_get_within (map finishing s.entries) i e at, length-map s.entries finishing)) (ap (λ (l : List Entry). slice_get l i) all ∙ at) in
    rw (← c.self.view_is, all, left, c.take-self-inside.ensures.value, c.take-self-inside.ensures.after)
    (viewed s.entries (map finishing s.entries) [] [] s.written.items (capture_finished (blocks_in s.entries s.written.items [] s.chain.items)) (length-map s.entries finishing) (finished_blocks s.entries s.free s.written.items s.chain.items ready c.finish_all.new.free done.size marks))
