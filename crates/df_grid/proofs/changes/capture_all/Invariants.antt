-- The first entries are captured.
use Rattle.{std.proofs.Common.{◌≡◌, ◌++◌, map, take, drop}, df_grid.specs.Table.{capturing}}
use Rattle.df_grid.proofs.changes.capture_all.Given as goal

abbrev pub invariant-loop-place : goal.invariant-loop-place
invariant-loop-place l = l.entries ≡ map capturing (take l.place l.fn.entries) ++ drop l.place l.fn.entries
