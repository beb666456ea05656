-- A count of the table's is right, and there is one where all are kept.
use Rattle.std.{proofs.Common.{◌≡◌, ◌-◌, ◌*◌, ℕ, List, ap, sym, subst, ◌∙◌, arith}, specs.Prelude.{IfSome, slice_get}}
use Rattle.{df_model.specs.Blocks.{sum_at}, df_trailer.specs.Writing.{referenced_among}}
use Rattle.df_grid.{specs.Table.{TableState}, proofs.Groups.{copied_at, count_is, count_there}}
use Rattle.df_grid.proofs.table.Table.counted.Goals as goal

pub returns-clause-count : goal.returns-clause-count
returns-clause-count c = let s = c.self.inside in let read : c.copied.result ≡ slice_get c.deref.result.now (c.args.groups - 1) =
    c.copied.ensures ∙ copied_at c.deref.result.now (c.args.groups - 1) c.get.result c.get.ensures.lookup in
    let at : c.copied.result ≡ slice_get s.counts.items (c.args.groups - 1) =
    read ∙ ap (λ (l : List ℕ). slice_get l (c.args.groups - 1)) c.deref.ensures.0 in subst (λ (v : TableState).
    IfSome c.copied.result (λ count. count ≡ referenced_among (λ a. sum_at a v.blocks.captured) (256 * c.args.groups))) c.self.view_is
    (count_is s.entries s.left.items s.counts.items c.self.invariant.1 c.copied.result (c.args.groups - 1) c.args.groups at (omega arith))

pub returns-clause-kept : goal.returns-clause-kept
returns-clause-kept c some few = let s = c.self.inside in let read : c.copied.result ≡ slice_get c.deref.result.now (c.args.groups - 1) =
    c.copied.ensures ∙ copied_at c.deref.result.now (c.args.groups - 1) c.get.result c.get.ensures.lookup in
    let at : c.copied.result ≡ slice_get s.counts.items (c.args.groups - 1) =
    read ∙ ap (λ (l : List ℕ). slice_get l (c.args.groups - 1)) c.deref.ensures.0 in
    count_there s.entries s.left.items s.counts.items c.self.invariant.1 (λ none. some
    (ap (λ (v : TableState). v.blocks.left) (sym c.self.view_is) ∙ none)) c.copied.result (c.args.groups - 1) c.args.groups at (omega arith)
    (omega (arith, few, ap (λ (v : TableState). v.size) c.self.view_is))
