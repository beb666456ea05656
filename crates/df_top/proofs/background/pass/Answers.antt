-- A piece goes on, or ends the session by why it has no answer.
use Rattle.{std.proofs.Common.{refl, ◌∙◌}, df_pace.specs.Beats.{beat_after_piece, command_of_piece}}
use Rattle.{df_program.specs.declared.turn.Turn.TheVariants.{Ends}, df_top.proofs.Passed.{fault_passes, passes_unread}}
use Rattle.df_top.proofs.background.pass.Goals as goal

pub returns-in-Ok-clause-passes : goal.returns-in-Ok-clause-passes
returns-in-Ok-clause-passes g c = let does = c.in-Ok.ensures.does in
    (does.0, does.1, refl, c.behind_piece-session.ensures ∙ (λ i. beat_after_piece c.args.piece (does.2 i) c.args.session.now.beat (c.summary-head.ensures i).head))

pub returns-in-Ok-clause-live : goal.returns-in-Ok-clause-live
returns-in-Ok-clause-live g c = c.in-Ok.ensures.does.1.calls.call.live

pub returns-in-Err : goal.returns-in-Err
returns-in-Err g c = let comes =
    fault_passes c.args.piece (command_of_piece c.args.piece c.args.session.now.replica.root)
    c.args.session.now.replica c.do_piece.new.replica (g.D.Disk.told c.args.disk.now)
    (g.D.Disk.told c.do_piece.new.disk) (g.W.Sink.written c.args.sink.now) (g.W.Sink.written c.tell_fault.new.sink)
    c.args.session.now.beat c.args.session.now.beat (g.D.Disk.faults c.args.disk.now) (g.D.Disk.faults c.do_piece.new.disk)
    c.in-Err.fault c.tell_fault.result c.in-Err.ensures.does c.in-Err.ensures.disk c.tell_fault.ensures.prints in
    record { passes = comes.0; live = tt; leaves = record { lines = refl; count = refl; pace = refl }; disk = comes.1; source = passes_unread c.args.piece (command_of_piece c.args.piece c.args.session.now.replica.root) c.args.session.now.replica c.do_piece.new.replica (g.D.Disk.told c.args.disk.now) (g.D.Disk.told c.do_piece.new.disk) (g.W.Sink.written c.args.sink.now) (g.W.Sink.written c.tell_fault.new.sink) c.args.session.now.beat c.args.session.now.beat (Ends c.tell_fault.result) comes.0; sink = c.tell_fault.ensures.sink }
