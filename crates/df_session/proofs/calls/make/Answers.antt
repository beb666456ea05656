-- Each call is exact, and what is heard of its answer is what it came to.
use Rattle.{std.proofs.Common.{subst, sym}, df_model.specs.{Called.{command_of}, declared.commands.Command.{Command}}}
use Rattle.df_session.{specs.Endings.{KeepsTour, MakesTo}, proofs.{Exact.{append_called, begin_called, flush_called, release_called, reply_called, stage_called, step_called, write_called}, InWords.{heard_so}}}
use Rattle.df_session.proofs.calls.make.Goals as goal

pub returns-in-Append : goal.returns-in-Append
returns-in-Append g c =
    let made = heard_so c.in-Append.is (append_called c.args.replica.now c.append.new.self (g.D.Disk.told c.args.disk.now) (g.D.Disk.told c.append.new.disk) (g.D.Disk.faults c.args.disk.now) (g.D.Disk.faults c.append.new.disk) c.in-Append.client c.in-Append.request c.in-Append.body.now c.append.result c.append.ensures.exact c.append.ensures.call c.append.ensures.own c.append.ensures.cause) c.hear.ensures in
    record { makes = made.makes; tour = made.tour; live = made.live; disk = made.disk }

pub returns-in-Stage : goal.returns-in-Stage
returns-in-Stage g c =
    let made = heard_so c.in-Stage.is (stage_called c.args.replica.now c.stage.new.self (g.D.Disk.told c.args.disk.now) (g.D.Disk.faults c.args.disk.now) c.in-Stage.client c.in-Stage.request c.in-Stage.body.now c.stage.result c.stage.ensures.exact (c.stage.ensures.call (g.D.Disk.told c.args.disk.now))) c.hear-in-Stage.ensures in
    record { makes = made.makes; tour = made.tour; live = made.live; disk = made.disk }

pub returns-in-Flush : goal.returns-in-Flush
returns-in-Flush g c =
    let made = heard_so c.in-Flush.is (flush_called c.args.replica.now c.flush.new.self (g.D.Disk.told c.args.disk.now) (g.D.Disk.told c.flush.new.disk) (g.D.Disk.faults c.args.disk.now) (g.D.Disk.faults c.flush.new.disk) c.flush.result c.flush.ensures.exact c.flush.ensures.call c.flush.ensures.own c.flush.ensures.cause) c.hear-in-Flush.ensures in
    record { makes = made.makes; tour = made.tour; live = made.live; disk = made.disk }

pub returns-in-Reply : goal.returns-in-Reply
returns-in-Reply g c =
    let made = heard_so c.in-Reply.is (reply_called c.args.replica.now c.reply.new.self (g.D.Disk.told c.args.disk.now) (g.D.Disk.told c.reply.new.disk) (g.D.Disk.faults c.args.disk.now) (g.D.Disk.faults c.reply.new.disk) c.in-Reply.op c.in-Reply.body.now c.reply.result c.reply.ensures.exact c.reply.ensures.call c.reply.ensures.own c.reply.ensures.cause) c.hear-in-Reply.ensures in
    record { makes = made.makes; tour = made.tour; live = made.live; disk = made.disk }

pub returns-in-WriteBlock : goal.returns-in-WriteBlock
returns-in-WriteBlock g c =
    let made = heard_so c.in-WriteBlock.is (write_called c.args.replica.now c.write_block.new.self (g.D.Disk.told c.args.disk.now) (g.D.Disk.told c.write_block.new.disk) (g.D.Disk.faults c.args.disk.now) (g.D.Disk.faults c.write_block.new.disk) c.in-WriteBlock.kind c.in-WriteBlock.body.now c.write_block.result c.write_block.ensures.exact c.write_block.ensures.call c.write_block.ensures.own c.write_block.ensures.cause) c.hear-in-WriteBlock.ensures in
    record { makes = made.makes; tour = made.tour; live = made.live; disk = made.disk }

pub returns-in-Advance : goal.returns-in-Advance
returns-in-Advance g c =
    let made = heard_so c.in-Advance.is (step_called c.args.replica.now c.checkpoint_step.new.self (g.D.Disk.told c.args.disk.now) (g.D.Disk.told c.checkpoint_step.new.disk) (g.D.Disk.faults c.args.disk.now) (g.D.Disk.faults c.checkpoint_step.new.disk) c.checkpoint_step.result c.checkpoint_step.ensures.exact c.checkpoint_step.ensures.call c.checkpoint_step.ensures.own c.checkpoint_step.ensures.cause) c.hear-in-Advance.ensures in
    record { makes = made.makes; tour = made.tour; live = made.live; disk = made.disk }

pub returns-in-Release : goal.returns-in-Release
returns-in-Release g c =
    let made = heard_so c.in-Release.is (release_called c.args.replica.now c.release.new.self (g.D.Disk.told c.args.disk.now) (g.D.Disk.faults c.args.disk.now) c.in-Release.address c.release.result c.release.ensures.exact (c.release.ensures.call (g.D.Disk.told c.args.disk.now))) c.hear-in-Release.ensures in
    record { makes = made.makes; tour = made.tour; live = made.live; disk = made.disk }

pub returns-in-Begin : goal.returns-in-Begin
returns-in-Begin g c =
    let made = heard_so c.in-Begin.is (begin_called c.args.replica.now c.checkpoint_begin.new.self (g.D.Disk.told c.args.disk.now) (g.D.Disk.faults c.args.disk.now) c.in-Begin.root.now c.checkpoint_begin.result c.checkpoint_begin.ensures.exact (c.checkpoint_begin.ensures.call (g.D.Disk.told c.args.disk.now))) c.hear-in-Begin.ensures in
    record { makes = made.makes; tour = made.tour; live = made.live; disk = made.disk }

pub returns-in-Scrub-clause-makes : goal.returns-in-Scrub-clause-makes
returns-in-Scrub-clause-makes g c = subst (λ (x : Command). MakesTo (command_of x) c.args.replica.now c.check.new.replica
    (g.D.Disk.told c.args.disk.now) (g.D.Disk.told c.check.new.disk) c.check.result) (sym c.in-Scrub.is) c.check.ensures.makes

pub returns-in-Scrub-clause-tour : goal.returns-in-Scrub-clause-tour
returns-in-Scrub-clause-tour g c = rw c.in-Scrub.is c.check.ensures.tour
