-- The marked ones above are those of the rest.
use Rattle.std.{proofs.Common.{◌≡◌, ◌+◌, ◌-◌, drop, length}, specs.{List.{filter}, Prelude.{nat_lt}}}
use Rattle.df_grid.specs.{Entries.{is_marked}, Table.{picked}}
use Rattle.df_grid.proofs.entry.first_marked.Given as goal

abbrev pub invariant-loop-place : goal.invariant-loop-place
invariant-loop-place l =
    filter (λ x. nat_lt l.above x.0) (picked is_marked 1 l.entries) ≡ picked is_marked (l.place + 1) (drop l.place l.entries)

abbrev pub decreases-loop-place : goal.decreases-loop-place
decreases-loop-place l = length l.entries - l.place
