-- What is written is the reply that was made in the room.
use Rattle.{std.proofs.Common.{◌∙◌, ap, subst}, df_format.specs.Message.{Message}, df_replies.specs.Slots.{IsInReplySlot}}
use Rattle.df_replica.proofs.MadeUnits.{is_made}
use Rattle.df_replica.proofs.reply.reply_in.Goals as goal

pub write_reply-requires : goal.write_reply-requires
write_reply-requires g c = record { layout = (is_made c.args.room.now.layout c.args.header c.args.body.now _ c.unit-unit.result.now c.unit-unit.ensures c.make.ensures.made).layout_is ∙ c.requires.room }

pub returns-in-Ok-clause-made : goal.returns-in-Ok-clause-made
returns-in-Ok-clause-made g c =
    let is = is_made c.args.room.now.layout c.args.header c.args.body.now _ c.unit-unit.result.now c.unit-unit.ensures c.make.ensures.made in
    record { header = c.header-made.ensures.header ∙ ap (λ (u : Message). u.header) is.unit; own = subst (IsInReplySlot c.args.file.now.layout) is.unit c.write_reply.ensures.own }

pub returns-in-Err-clause-made : goal.returns-in-Err-clause-made
returns-in-Err-clause-made g c =
    let is = is_made c.args.room.now.layout c.args.header c.args.body.now _ c.unit-unit.result.now c.unit-unit.ensures c.make.ensures.made in
    record { header = tt; own = subst (IsInReplySlot c.args.file.now.layout) is.unit c.write_reply.ensures.own }
