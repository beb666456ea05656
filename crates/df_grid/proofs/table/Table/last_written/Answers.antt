-- It is one of the table, with its checksum.
use Rattle.std.{proofs.Common.{◌≡◌, ◌-◌, List, ℕ, Some, sym, ap, ◌∙◌, arith}, specs.Prelude.{slice_get}}
use Rattle.df_grid.{specs.Table.{TableState}, proofs.Views.{written_first, written_inside}}
use Rattle.df_grid.proofs.table.Table.last_written.Goals as goal

pub get-requires : goal.get-requires
get-requires c = let s = c.self.inside in written_inside s.entries s.free s.written.items s.left.items s.chain.items c.in_ok-address.address c.self.invariant.0 (ap (λ (l : List ℕ). slice_get l 0) (sym c.deref.ensures.0) ∙ sym c.first.ensures.value ∙ sym c.in_ok-address.ensures)

pub returns-clause-pair : goal.returns-clause-pair
returns-clause-pair c = let s = c.self.inside in let a = c.in_ok-address.address in let first : slice_get s.written.items 0 ≡ Some a =
    (ap (λ (l : List ℕ). slice_get l 0) (sym c.deref.ensures.0) ∙ sym c.first.ensures.value ∙ sym c.in_ok-address.ensures) in
    let has = written_inside s.entries s.free s.written.items s.left.items s.chain.items a c.self.invariant.0 first in
    written_first s.entries s.written.items a (a - 1) c.get.result first (omega (arith, has.0)) c.get.ensures
    ∙ ap (λ (v : TableState). slice_get v.blocks.written 0) c.self.view_is

pub returns-clause-inside : goal.returns-clause-inside
returns-clause-inside c = let s = c.self.inside in (written_inside s.entries s.free s.written.items s.left.items s.chain.items c.in_ok-address.address c.self.invariant.0 (ap (λ (l : List ℕ). slice_get l 0) (sym c.deref.ensures.0) ∙ sym c.first.ensures.value ∙ sym c.in_ok-address.ensures)).0

pub returns-clause-within : goal.returns-clause-within
returns-clause-within c = let s = c.self.inside in
    let has = written_inside s.entries s.free s.written.items s.left.items s.chain.items c.in_ok-address.address c.self.invariant.0
    (ap (λ (l : List ℕ). slice_get l 0) (sym c.deref.ensures.0) ∙ sym c.first.ensures.value ∙ sym c.in_ok-address.ensures) in
    omega (arith, has.1, ap (λ (v : TableState). v.size) c.self.view_is)
