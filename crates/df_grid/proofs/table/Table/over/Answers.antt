-- No entry is marked, and no address is taken.
use Rattle.std.proofs.{Common.{ℕ, [], length, sym, ap, ◌∙◌, arith}, lemmas.Option.{get_or_from_slice_get, slice_get_within}}
use Rattle.df_grid.{specs.{Entries.{entries_of}, Table.{blocks_in}}, proofs.{Zips.{length_entries}, Groups.{none_counted}, Views.{new_blocks, new_table, state_of}}}
use Rattle.df_grid.proofs.table.Table.over.Goals as goal

pub invariant_of-result : goal.invariant_of-result
invariant_of-result c = rw (c.over.ensures, c.new.ensures, c.new-2.ensures, c.new-3.ensures, c.new-4.ensures, c.requires.free) (
  new_table c.args.checks.items c.args.marks.items c.requires.marks (λ i m at.
      sym (get_or_from_slice_get c.args.marks.items i m 0 at) ∙ c.requires.zero i 0 (slice_get_within c.args.marks.items i m at)),
  none_counted (entries_of c.args.checks.items c.args.marks.items)
      (omega (arith, c.requires.few, length_entries c.args.checks.items c.args.marks.items c.requires.marks)),
)

pub returns : goal.returns
returns c = rw (c.over.ensures, c.new.ensures, c.new-2.ensures, c.new-3.ensures)
    (ap (λ (n : ℕ). state_of n (blocks_in (entries_of c.args.checks.items c.args.marks.items) [] [] []))
    (length_entries c.args.checks.items c.args.marks.items c.requires.marks)
    ∙ ap (state_of (length c.args.checks.items)) (new_blocks c.args.checks.items c.args.marks.items c.requires.marks (λ i m at.
    sym (get_or_from_slice_get c.args.marks.items i m 0 at) ∙ c.requires.zero i 0 (slice_get_within c.args.marks.items i m at))))
