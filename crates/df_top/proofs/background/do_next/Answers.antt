-- What becomes of the session by the piece that is next.
use Rattle.{std.proofs.Common.{ap}, df_lines.specs.{Room.{ReaderParts}, Text.{unread}}, df_pace.specs.Beats.{command_of_piece}}
use Rattle.df_top.{specs.{Outside.{around}, Session.{SessionState, state}}, proofs.Passed.{fewer_behind, passes_turns}}
use Rattle.df_top.proofs.background.do_next.Goals as goal

pub returns-clause-turns : goal.returns-clause-turns
returns-clause-turns g c = λ left bound.
    let old : SessionState = state (around (g.D.Disk.told c.args.disk.now) left (g.W.Sink.written c.args.sink.now)) c.args.session.now in
    let new : SessionState = state (around (g.D.Disk.told c.pass.new.disk) left (g.W.Sink.written c.pass.new.sink)) c.pass.new.session in
    passes_turns c.args.session.now.pace
    bound old new c.args.piece (ap (λ (r : ReaderParts). unread r.reading.held left) c.pass.ensures.leaves.lines) (ap (λ (r : ReaderParts).
    r.reading.budget) c.pass.ensures.leaves.lines) c.pass.ensures.leaves.count c.requires.next c.pass.result c.pass.ensures.passes

pub returns-clause-does : goal.returns-clause-does
returns-clause-does g c = record {
  leaves = c.pass.ensures.leaves;
  live = c.pass.ensures.live;
  fewer =
      fewer_behind
      c.args.piece (command_of_piece c.args.piece c.args.session.now.replica.root) c.args.session.now.replica c.pass.new.session.replica
      (g.D.Disk.told c.args.disk.now) (g.D.Disk.told c.pass.new.disk) (g.W.Sink.written c.args.sink.now) (g.W.Sink.written c.pass.new.sink)
      c.args.session.now.beat c.pass.new.session.beat c.pass.result c.requires.next c.pass.ensures.passes;
}
