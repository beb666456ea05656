use Rattle.{std.proofs.Common.{◌+◌, ◌-◌, cond, length}, df_lines.proofs.Finding.{Searches}}
use Rattle.df_lines.proofs.window.Window.find.Given as goal

abbrev pub invariant-loop-at : goal.invariant-loop-at
invariant-loop-at g l = Searches l.initial.source l.source l.initial.self l.self
    (g.S.Source.left l.initial.source) (g.S.Source.left l.source) (g.S.Source.faults l.initial.source) (g.S.Source.faults l.source) l.seen

abbrev pub decreases-loop-at : goal.decreases-loop-at
decreases-loop-at g l = (l.self.size - length l.self.bytes) + cond l.self.ended 0 1
