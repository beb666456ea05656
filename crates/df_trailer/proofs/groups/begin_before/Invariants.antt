use Rattle.{std.proofs.Common.{◌≡◌, ◌+◌, ◌*◌, ◌<◌, ◌≤◌}, df_trailer.specs.Writing.{referenced_among}}
use Rattle.df_trailer.proofs.groups.begin_before.Given as goal

abbrev pub invariant-loop-groups : goal.invariant-loop-groups
invariant-loop-groups g l = (l.begin.place ≤ l.blocks)
    × (l.begin.at ≡ l.fn.start + 16 * referenced_among (g.G.CapturedBlocks.captured l.grid) l.begin.place)
    × (0 < l.begin.place → l.begin.at ≤ l.fn.from)
