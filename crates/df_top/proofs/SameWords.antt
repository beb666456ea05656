-- An answer and the machine's have one line, and a generated run hears the same of both.
use Rattle.std.proofs.{Common.{◌≡◌, Bool, true, false, Some, None, if◌then◌else◌, refl, subst, Ok, Err}, lemmas.Option.{none-some}}
use Rattle.{df_inspect.specs.Answers.{line_of_answer}, df_script_model.specs.Script.{answer_text}}
use Rattle.df_model.specs.{Commands.{Answer as Answered, Command, ToAppend, ToFlush, ToReadBlock, ToReadPrepare, ToReadReply, ToReply, ToWriteBlock}, declared.answers.Progress.TheVariants.{Done, Working}, declared.commands.Answer.{Answer}, Faults.{is_append_fault, is_block_fault, is_flush_fault, is_lookup_fault, is_prepare_fault, is_read_fault, is_reply_fault}}
use Rattle.df_model.specs.declared.commands.Answer.TheVariants as answers
use Rattle.df_model.specs.declared.errors.StepError.TheVariants as step
use Rattle.{df_workload.specs.Hearing.{outcome_in, outcome_of}, df_session.specs.Calls.{machine_answer}}

abbrev pub SameWords : Command → Answer → Answered → Type 0
SameWords c a x = (line_of_answer c a ≡ answer_text c x) × (outcome_in a ≡ outcome_of x)

module _ (c : Command) (x : Answered) where
  said : (a : Answer) {y : Answered} → SameWords c a y → Some y ≡ Some x → SameWords c a x
  said a {y = y} same is = let one : y ≡ x = cc is in subst (λ (z : Answered). SameWords c a z) one same

  refused : (fault : Bool) (a : Answer) (y : Answered) → SameWords c a y → (if fault then None else Some y) ≡ Some x → SameWords c a x
  refused true a y same is = absurd (none-some x is)
  refused false a y same is = said a same is

  pub same_words : (a : Answer) → machine_answer a ≡ Some x → SameWords c a x
  same_words (answers.Append (Ok receipt)) is = said (answers.Append (Ok receipt)) (refl, refl) is
  same_words (answers.Append (Err e)) is = refused (is_append_fault e) (answers.Append (Err e)) (ToAppend (Err e)) (refl, refl) is
  same_words (answers.Stage (Ok op)) is = said (answers.Stage (Ok op)) (refl, refl) is
  same_words (answers.Stage (Err e)) is = said (answers.Stage (Err e)) (refl, refl) is
  same_words (answers.Flush (Ok count)) is = said (answers.Flush (Ok count)) (refl, refl) is
  same_words (answers.Flush (Err e)) is = refused (is_flush_fault e) (answers.Flush (Err e)) (ToFlush (Err e)) (refl, refl) is
  same_words (answers.Reply (Ok check)) is = said (answers.Reply (Ok check)) (refl, refl) is
  same_words (answers.Reply (Err e)) is = refused (is_reply_fault e) (answers.Reply (Err e)) (ToReply (Err e)) (refl, refl) is
  same_words (answers.WriteBlock (Ok reference)) is = said (answers.WriteBlock (Ok reference)) (refl, refl) is
  same_words (answers.WriteBlock (Err e)) is = refused (is_block_fault e) (answers.WriteBlock (Err e)) (ToWriteBlock (Err e)) (refl, refl) is
  same_words (answers.Release (Ok done)) is = said (answers.Release (Ok done)) (refl, refl) is
  same_words (answers.Release (Err e)) is = said (answers.Release (Err e)) (refl, refl) is
  same_words (answers.Begin (Ok blocks)) is = said (answers.Begin (Ok blocks)) (refl, refl) is
  same_words (answers.Begin (Err e)) is = said (answers.Begin (Err e)) (refl, refl) is
  same_words (answers.Advance (Ok (Working left))) is = said (answers.Advance (Ok (Working left))) (refl, refl) is
  same_words (answers.Advance (Ok (Done sequence))) is = said (answers.Advance (Ok (Done sequence))) (refl, refl) is
  same_words (answers.Advance (Err step.NotRunning)) is = said (answers.Advance (Err step.NotRunning)) (refl, refl) is
  same_words (answers.ReadPrepare (Err e)) is = refused (is_prepare_fault e) (answers.ReadPrepare (Err e)) (ToReadPrepare (Err e)) (refl, refl) is
  same_words (answers.ReadReply (Err e)) is = refused (is_lookup_fault e) (answers.ReadReply (Err e)) (ToReadReply (Err e)) (refl, refl) is
  same_words (answers.ReadBlock (Err e)) is = refused (is_read_fault e) (answers.ReadBlock (Err e)) (ToReadBlock (Err e)) (refl, refl) is
  same_words (answers.Scrub scrubbed) is = said (answers.Scrub scrubbed) (refl, refl) is
  same_words case is = absurd (none-some x is)
