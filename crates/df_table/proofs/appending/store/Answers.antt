-- The append isn't refused but for want of ops, and the reply to it not at all.
use Rattle.{std.proofs.Common.{◌∙◌, [], ap}, df_session.specs.{Below.{State as Replica, memory}, Replying.{next_reply}}}
use Rattle.df_table.{proofs.{Changed.{append_ends, both_made, reply_ends}, Fine.{may_answer, may_store}, Stored.{ready_stored}}, specs.Policy.{request}}
use Rattle.df_table.proofs.appending.store.Goals as goal

pub append-requires : goal.append-requires
append-requires g c = record { live = c.requires.live }

pub reply-requires : goal.reply-requires
reply-requires g c = record { live = c.in-Ok.ensures.live }

pub returns-in-Ok-reply-clause-makes : goal.returns-in-Ok-reply-clause-makes
returns-in-Ok-reply-clause-makes g c = λ layout ready room.
    both_made c.args.command.now c.args.replica.now c.next_request-number.result c.as_slice.result.now (c.next_request-number.ensures layout ready) (c.as_slice.ensures.value ∙ c.encode-body.ensures) c.append.new.replica c.reply.new.replica (g.D.Disk.told c.args.disk.now) (g.D.Disk.told c.append.new.disk) (g.D.Disk.told c.reply.new.disk)
    (c.in-Ok.ensures.makes (may_store layout c.args.replica.now ready room c.args.command.now c.requires.fits c.next_request-number.result c.as_slice.result.now (c.next_request-number.ensures layout ready) (c.as_slice.ensures.value ∙ c.encode-body.ensures))) c.in-Ok.op c.in-Ok.ensures.op (c.in-Ok-reply.ensures.makes (may_answer layout c.args.replica.now c.append.new.replica ready c.next_request-number.result c.as_slice.result.now c.in-Ok.op c.in-Ok.ensures.op c.in-Ok.ensures.state))

pub returns-in-Err-reply-clause-makes : goal.returns-in-Err-reply-clause-makes
returns-in-Err-reply-clause-makes g c = λ layout ready room.
    reply_ends c.args.command.now c.args.replica.now c.next_request-number.result c.as_slice.result.now (c.next_request-number.ensures layout ready) (c.as_slice.ensures.value ∙ c.encode-body.ensures) c.append.new.replica c.reply.new.replica (g.D.Disk.told c.args.disk.now) (g.D.Disk.told c.append.new.disk) (g.D.Disk.told c.reply.new.disk)
    (c.in-Ok.ensures.makes (may_store layout c.args.replica.now ready room c.args.command.now c.requires.fits c.next_request-number.result c.as_slice.result.now (c.next_request-number.ensures layout ready) (c.as_slice.ensures.value ∙ c.encode-body.ensures))) c.in-Ok.op c.in-Ok.ensures.op c.in-Err-reply.ending (c.in-Err-reply.ensures.makes (may_answer layout c.args.replica.now c.append.new.replica ready c.next_request-number.result c.as_slice.result.now c.in-Ok.op c.in-Ok.ensures.op c.in-Ok.ensures.state))

pub returns-in-Err-clause-makes : goal.returns-in-Err-clause-makes
returns-in-Err-clause-makes g c = λ layout ready room.
    append_ends c.args.command.now c.args.replica.now c.next_request-number.result c.as_slice.result.now (c.next_request-number.ensures layout ready) (c.as_slice.ensures.value ∙ c.encode-body.ensures) c.append.new.replica (g.D.Disk.told c.args.disk.now) (g.D.Disk.told c.append.new.disk) c.in-Err.ending (c.in-Err.ensures.makes (may_store layout c.args.replica.now ready room c.args.command.now c.requires.fits c.next_request-number.result c.as_slice.result.now (c.next_request-number.ensures layout ready) (c.as_slice.ensures.value ∙ c.encode-body.ensures)))

pub returns-in-Ok-reply-clause-head : goal.returns-in-Ok-reply-clause-head
returns-in-Ok-reply-clause-head g c =
    ap (λ (v : Replica). v.head) c.in-Ok-reply.ensures.state ∙ ap (λ (v : Replica). v.head) c.in-Ok.ensures.state

pub returns-in-Ok-reply-clause-ready : goal.returns-in-Ok-reply-clause-ready
returns-in-Ok-reply-clause-ready g c = λ layout ready room.
    ready_stored layout c.args.replica.now ready c.next_request-number.result c.as_slice.result.now (next_reply c.append.new.replica []).header
    c.append.new.replica c.reply.new.replica (g.D.Disk.told c.args.disk.now) (g.D.Disk.told c.reply.new.disk)
    (request (memory c.args.replica.now) c.args.command.now) c.in-Ok.ensures.state c.in-Ok-reply.ensures.state
    (returns-in-Ok-reply-clause-makes g c layout ready room)
