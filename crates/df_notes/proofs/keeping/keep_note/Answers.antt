-- Where the reply isn't stored, or the line isn't printed.
use Rattle.{std.proofs.Common.{Result, refl, subst, sym}, df_base.specs.Causes.{IsBlamed}}
use Rattle.df_notes.{specs.{Keeping.{InLine}, Ending.{is_sink}, declared.ended.Ended.{Ended}}, proofs.{Steps.{in_reply}, Blame.{handed_on, ends_calm}}}
use Rattle.df_notes.proofs.keeping.keep_note.Goals as goal

pub returns-in_err-reply_to-clause-keeps : goal.returns-in_err-reply_to-clause-keeps
returns-in_err-reply_to-clause-keeps g c = in_reply c.args.note.now _ _ c.in_ok-receipt.receipt _ _ c.in_err-reply_to.field-0.0
    _ (handed_on _ _ c.from_residual-in_err-reply_to.ensures) c.in_ok-receipt.ensures.appends c.in_err-reply_to.ensures.stores refl

pub returns-in-Err-clause-keeps : goal.returns-in-Err-clause-keeps
returns-in-Err-clause-keeps g c =
    InLine c.in_ok-receipt.receipt _ _ c.in_ok-receipt.ensures.appends c.in_ok-reply_to.ensures.stores c.in-Err.ensures.prints.part refl

pub returns-in_err-reply_to-clause-sink : goal.returns-in_err-reply_to-clause-sink
returns-in_err-reply_to-clause-sink g c = let n = g.W.Sink.faults c.args.sink.now in
    subst (λ (r : Result (Unit {0}) Ended). IsBlamed is_sink n n r) (sym (handed_on _ _ c.from_residual-in_err-reply_to.ensures))
    (ends_calm _ _ _ _ _ c.in_err-reply_to.field-0.0 n c.in_err-reply_to.ensures.stores)
