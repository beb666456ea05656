-- A read comes to a turn by what was found and by what was printed of it.
use Rattle.{std.{proofs.Common.{ap, Err, Ok}, specs.Prelude.{codes}}, df_inspect.specs.Answers.{command_of}}
use Rattle.df_model.specs.{Commands.{ReadBlock, ReadPrepare, ReadReply}, Faults.{is_lookup_fault, is_prepare_fault, is_read_fault}}
use Rattle.df_model.specs.declared.commands.Answer.TheVariants as answers
use Rattle.df_session.specs.Endings.{heard}
use Rattle.df_top.proofs.{BlockReadTurns.{block_refused, block_shown}, ReadTurns.{came_as, prepare_refused, prepare_shown, reply_refused, reply_shown, shown_turn, tells_as}}
use Rattle.df_top.proofs.BlockReadTurns as block
use Rattle.df_top.proofs.reads.read.Goals as goal

pub returns-in-Ok-clause-answers : goal.returns-in-Ok-clause-answers
returns-in-Ok-clause-answers g c =
    (came_as (command_of c.args.command) (ReadPrepare c.in-ReadPrepare.op) is_prepare_fault c.args.replica.now c.read_prepare.follows.lender-at-none c.read_prepare.result (Ok c.in-Ok.unit) (g.D.Disk.told c.args.disk.now) (g.D.Disk.told c.read_prepare.new.disk) (g.W.Sink.written c.args.sink.now) (g.W.Sink.written c.print_prepare.new.sink) (g.D.Disk.faults c.args.disk.now) (g.D.Disk.faults c.read_prepare.new.disk) c.printed.result (ap command_of c.in-ReadPrepare.is) c.read_prepare.follows.holds-at-none c.in-Ok.is
    (prepare_shown c.args.replica.now c.args.replica.now (g.D.Disk.told c.args.disk.now) (g.D.Disk.told c.read_prepare.new.disk)
    c.in-Ok.ensures.same (g.W.Sink.written c.args.sink.now) (g.W.Sink.written c.print_prepare.new.sink) (g.D.Disk.faults c.args.disk.now)
    (g.D.Disk.faults c.read_prepare.new.disk) c.printed.result c.in-ReadPrepare.op _ c.in-Ok.ensures.call c.in-Ok.ensures.cause
    (shown_turn (codes "prepare") c.in-Ok.unit.now.unit
    c.header.result.now c.body.result.now (g.W.Sink.written c.args.sink.now) (g.W.Sink.written c.print_prepare.new.sink)
    c.print_prepare.result c.printed.result c.header.ensures.header c.body.ensures c.printed.ensures.is c.print_prepare.ensures.prints))).0

pub returns-in-Err-clause-answers : goal.returns-in-Err-clause-answers
returns-in-Err-clause-answers g c =
    (came_as (command_of c.args.command) (ReadPrepare c.in-ReadPrepare.op) is_prepare_fault c.args.replica.now c.read_prepare.follows.lender-at-none c.read_prepare.result (Err c.in-Err.error) (g.D.Disk.told c.args.disk.now) (g.D.Disk.told c.read_prepare.new.disk) (g.W.Sink.written c.args.sink.now) (g.W.Sink.written c.tell.new.sink) (g.D.Disk.faults c.args.disk.now) (g.D.Disk.faults c.read_prepare.new.disk) c.tell.result (ap command_of c.in-ReadPrepare.is) c.read_prepare.follows.holds-at-none c.in-Err.is
    (prepare_refused c.args.replica.now _ (g.D.Disk.told c.args.disk.now) (g.D.Disk.told c.read_prepare.new.disk)
    c.in-Err.ensures.same (g.W.Sink.written c.args.sink.now) (g.W.Sink.written c.tell.new.sink) (g.D.Disk.faults c.args.disk.now)
    (g.D.Disk.faults c.read_prepare.new.disk) c.tell.result c.in-ReadPrepare.op c.in-Err.error c.in-Err.ensures.call c.in-Err.ensures.cause
    (tells_as (command_of c.args.command)
    (ReadPrepare c.in-ReadPrepare.op) (heard (answers.ReadPrepare (Err c.in-Err.error))) c.hear.result (g.W.Sink.written c.args.sink.now)
    (g.W.Sink.written c.tell.new.sink) c.tell.result (ap command_of c.in-ReadPrepare.is) c.hear.ensures c.tell.ensures.told))).0

pub returns-in-Ok-read_reply-clause-answers : goal.returns-in-Ok-read_reply-clause-answers
returns-in-Ok-read_reply-clause-answers g c =
    (came_as (command_of c.args.command) (ReadReply c.in-ReadReply.client) is_lookup_fault c.args.replica.now c.read_reply.follows.lender-at-none c.read_reply.result (Ok c.in-Ok-read_reply.unit) (g.D.Disk.told c.args.disk.now) (g.D.Disk.told c.read_reply.new.disk) (g.W.Sink.written c.args.sink.now) (g.W.Sink.written c.print_reply.new.sink) (g.D.Disk.faults c.args.disk.now) (g.D.Disk.faults c.read_reply.new.disk) c.printed-in-Ok-read_reply.result (ap command_of c.in-ReadReply.is) c.read_reply.follows.holds-at-none c.in-Ok-read_reply.is
    (reply_shown c.args.replica.now c.args.replica.now (g.D.Disk.told c.args.disk.now) (g.D.Disk.told c.read_reply.new.disk) c.in-Ok-read_reply.ensures.same (g.W.Sink.written c.args.sink.now) (g.W.Sink.written c.print_reply.new.sink) (g.D.Disk.faults c.args.disk.now) (g.D.Disk.faults c.read_reply.new.disk) c.printed-in-Ok-read_reply.result c.in-ReadReply.client _ c.in-Ok-read_reply.ensures.call c.in-Ok-read_reply.ensures.cause
    (shown_turn (codes "reply") c.in-Ok-read_reply.unit.now.unit c.header-in-Ok-read_reply.result.now c.body-in-Ok-read_reply.result.now (g.W.Sink.written c.args.sink.now) (g.W.Sink.written c.print_reply.new.sink) c.print_reply.result c.printed-in-Ok-read_reply.result c.header-in-Ok-read_reply.ensures.header c.body-in-Ok-read_reply.ensures c.printed-in-Ok-read_reply.ensures.is c.print_reply.ensures.prints))).0

pub returns-in-Err-read_reply-clause-answers : goal.returns-in-Err-read_reply-clause-answers
returns-in-Err-read_reply-clause-answers g c =
    (came_as (command_of c.args.command) (ReadReply c.in-ReadReply.client) is_lookup_fault c.args.replica.now c.read_reply.follows.lender-at-none c.read_reply.result (Err c.in-Err-read_reply.error) (g.D.Disk.told c.args.disk.now) (g.D.Disk.told c.read_reply.new.disk) (g.W.Sink.written c.args.sink.now) (g.W.Sink.written c.tell-in-Err-read_reply.new.sink) (g.D.Disk.faults c.args.disk.now) (g.D.Disk.faults c.read_reply.new.disk) c.tell-in-Err-read_reply.result (ap command_of c.in-ReadReply.is) c.read_reply.follows.holds-at-none c.in-Err-read_reply.is
    (reply_refused c.args.replica.now _ (g.D.Disk.told c.args.disk.now) (g.D.Disk.told c.read_reply.new.disk) c.in-Err-read_reply.ensures.same (g.W.Sink.written c.args.sink.now) (g.W.Sink.written c.tell-in-Err-read_reply.new.sink) (g.D.Disk.faults c.args.disk.now) (g.D.Disk.faults c.read_reply.new.disk) c.tell-in-Err-read_reply.result c.in-ReadReply.client c.in-Err-read_reply.error c.in-Err-read_reply.ensures.call c.in-Err-read_reply.ensures.cause
    (tells_as (command_of c.args.command) (ReadReply c.in-ReadReply.client) (heard (answers.ReadReply (Err c.in-Err-read_reply.error))) c.hear-in-Err-read_reply.result (g.W.Sink.written c.args.sink.now) (g.W.Sink.written c.tell-in-Err-read_reply.new.sink) c.tell-in-Err-read_reply.result (ap command_of c.in-ReadReply.is) c.hear-in-Err-read_reply.ensures c.tell-in-Err-read_reply.ensures.told))).0

pub returns-in-Ok-read_block-clause-answers : goal.returns-in-Ok-read_block-clause-answers
returns-in-Ok-read_block-clause-answers g c =
    (came_as (command_of c.args.command) (ReadBlock c.in-ReadBlock.address) is_read_fault c.args.replica.now c.read_block.follows.lender-at-none c.read_block.result (Ok c.in-Ok-read_block.unit) (g.D.Disk.told c.args.disk.now) (g.D.Disk.told c.read_block.new.disk) (g.W.Sink.written c.args.sink.now) (g.W.Sink.written c.print_block.new.sink) (g.D.Disk.faults c.args.disk.now) (g.D.Disk.faults c.read_block.new.disk) c.printed-in-Ok-read_block.result (ap command_of c.in-ReadBlock.is) c.read_block.follows.holds-at-none c.in-Ok-read_block.is
    (block_shown c.in-ReadBlock.address c.args.replica.now c.args.replica.now (g.D.Disk.told c.args.disk.now) (g.D.Disk.told c.read_block.new.disk) c.in-Ok-read_block.ensures.same (g.W.Sink.written c.args.sink.now) (g.W.Sink.written c.print_block.new.sink) (g.D.Disk.faults c.args.disk.now) (g.D.Disk.faults c.read_block.new.disk) c.printed-in-Ok-read_block.result _ c.in-Ok-read_block.ensures.call c.in-Ok-read_block.ensures.cause
    (block.shown_turn c.in-ReadBlock.address c.in-Ok-read_block.unit.now.unit c.header-in-Ok-read_block.result.now c.body-in-Ok-read_block.result.now (g.W.Sink.written c.args.sink.now) (g.W.Sink.written c.print_block.new.sink) c.print_block.result c.printed-in-Ok-read_block.result c.header-in-Ok-read_block.ensures.header c.body-in-Ok-read_block.ensures c.printed-in-Ok-read_block.ensures.is c.print_block.ensures.prints))).0

pub returns-in-Err-read_block-clause-answers : goal.returns-in-Err-read_block-clause-answers
returns-in-Err-read_block-clause-answers g c =
    (came_as (command_of c.args.command) (ReadBlock c.in-ReadBlock.address) is_read_fault c.args.replica.now c.read_block.follows.lender-at-none c.read_block.result (Err c.in-Err-read_block.error) (g.D.Disk.told c.args.disk.now) (g.D.Disk.told c.read_block.new.disk) (g.W.Sink.written c.args.sink.now) (g.W.Sink.written c.tell-in-Err-read_block.new.sink) (g.D.Disk.faults c.args.disk.now) (g.D.Disk.faults c.read_block.new.disk) c.tell-in-Err-read_block.result (ap command_of c.in-ReadBlock.is) c.read_block.follows.holds-at-none c.in-Err-read_block.is
    (block_refused c.in-ReadBlock.address c.args.replica.now _ (g.D.Disk.told c.args.disk.now) (g.D.Disk.told c.read_block.new.disk) c.in-Err-read_block.ensures.same (g.W.Sink.written c.args.sink.now) (g.W.Sink.written c.tell-in-Err-read_block.new.sink) (g.D.Disk.faults c.args.disk.now) (g.D.Disk.faults c.read_block.new.disk) c.tell-in-Err-read_block.result c.in-Err-read_block.error c.in-Err-read_block.ensures.call c.in-Err-read_block.ensures.cause
    (tells_as (command_of c.args.command) (ReadBlock c.in-ReadBlock.address) (heard (answers.ReadBlock (Err c.in-Err-read_block.error))) c.hear-in-Err-read_block.result (g.W.Sink.written c.args.sink.now) (g.W.Sink.written c.tell-in-Err-read_block.new.sink) c.tell-in-Err-read_block.result (ap command_of c.in-ReadBlock.is) c.hear-in-Err-read_block.ensures c.tell-in-Err-read_block.ensures.told))).0
