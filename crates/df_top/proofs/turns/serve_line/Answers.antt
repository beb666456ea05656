-- A session that goes on has a replica that does.
use Rattle.{std.proofs.{Common.{◌+◌, ℕ, ap, arith}, lemmas.Grind.{common_steps}}, df_lines.specs.Grammar.{said_with}}
use Rattle.df_program.specs.declared.turn.Turn.TheVariants.{GoesOn, Ends}
use Rattle.df_top.{specs.{Outside.{Turn}, Turning.{OnGoing}}, proofs.LineEnds.{live_on}}
use Rattle.df_top.proofs.turns.serve_line.Goals as goal

-- what holds in any case holds where the session goes on
if_on : {P : Type 0} (turn : Turn) → P → OnGoing turn P
if_on GoesOn p = p
if_on (Ends status) p = tt

pub returns-clause-serves : goal.returns-clause-serves
returns-clause-serves g c = record {
  lines = c.execute-turn.ensures.leaves.lines;
  pace = c.execute-turn.ensures.leaves.pace;
  beat = grind (arith, common_steps);
  live =
      live_on (said_with c.args.session.now.lines.body c.args.line) c.args.session.now.replica c.execute-turn.new.session.replica (g.D.Disk.told c.args.disk.now) (g.D.Disk.told c.execute-turn.new.disk) (g.W.Sink.written c.args.sink.now) (g.W.Sink.written c.execute-turn.new.sink)
      c.execute-turn.result c.execute-turn.ensures.answers;
  count = if_on c.execute-turn.result (ap (λ (n : ℕ). n + 1) c.execute-turn.ensures.leaves.count);
}
