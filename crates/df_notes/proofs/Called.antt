-- What each call comes to, by what is heard of its answer.
use Rattle.std.{proofs.Common.{◌≡◌, ℕ, Bool, true, false, List, [], Option, Some, None, Result, Ok, Err, refl, sym, subst}, specs.Prelude.{if◌then◌else◌}}
use Rattle.{df_base.specs.Causes.{IsBlamed}, df_disk.specs.Told.{Told}, df_theory.specs.Units.{Message}}
use Rattle.df_model.specs.{Commands.{Advance, Answer as Answered, Append, Command, ReadPrepare, Reply, ToAppend, ToReadPrepare, ToReply}, Faults.{is_append_fault, is_reply_fault}, declared.answers.Receipt.{Receipt}, declared.commands.Answer.{Answer}, declared.errors.AppendError.{AppendError}, declared.errors.ReplyError.{ReplyError}}
use Rattle.df_model.specs.declared.commands.Answer.TheVariants as answers
use Rattle.df_session.{specs.{Answering.{ServesRead, as_append, as_reply}, Below.{State as Replica}, Calls.{machine_answer}, Endings.{EndsBy, GivesAnswer}, Links.{Makes}, Reading.{IsReadPrepare}, declared.hearing.Fault.{Fault}}, proofs.Laws.{reads_prepare}}
use Rattle.df_notes.specs.{Showing.{IsNoteRead}, Calling.{EndsIn, Fails, IsRefusal, IsRefused}, Ending.{ended_at, ended_by, is_disk_at_fault}, Keeping.{AppendsNote, StoresReply, receipt_in, stored_in}}
use Rattle.df_session.specs.declared.hearing.Fault.TheVariants as faults

-- what is told of an answer, where the disk didn't fail
told_if : (b : Bool) (x y : Answered) → (if b then None else Some x) ≡ Some y → x ≡ y
told_if true x y is = absurd (let apart : None ≡ Some y = is in cc)
told_if false x y is = let same : Some x ≡ Some y = is in cc

-- what is refused, or an answer that isn't there, ends the program
pub ended_so : (command : Command) (s t : Replica) (old new : Option Told) (b : Bool) (x : Answered)
    → IsRefused x → Makes command s t old new (if b then None else Some x) → EndsIn command s t old new (ended_by b)
ended_so command s t old new true x refused makes = Fails makes
ended_so command s t old new false x refused makes = IsRefusal x refused makes

-- a call that isn't heard ends it
pub ended_here : (command : Command) (s t : Replica) (old new : Option Told) (fault : Fault)
    → (command ≡ Advance → ⊥) → Makes command s t old new None → EndsBy fault command new → EndsIn command s t old new (ended_at fault)
ended_here command s t old new faults.Disk other makes by = Fails makes
ended_here command s t old new (faults.Damaged place class) other makes by = absurd (other by.step)

module _ (s t : Replica) (old new : Option Told) where
  -- the answer in the words of the machine
  told_of : (command : Command) (a b : Answer) (gives : GivesAnswer command s t old new a) → a ≡ b → machine_answer b ≡ Some gives.told
  told_of command a b gives is = subst (λ (y : Answer). machine_answer y ≡ Some gives.told) is gives.in_words

  makes_so : (command : Command) (a : Answer) (x : Answered) (gives : GivesAnswer command s t old new a)
      → x ≡ gives.told → Makes command s t old new (Some x)
  makes_so command a x gives is = subst (λ (y : Answered). Makes command s t old new (Some y)) (sym is) gives.makes

  -- ---- an append

  appended_by : (request : ℕ) (note : List ℕ) (a : Answer) (gives : GivesAnswer (Append 1 request note) s t old new a)
      (r : Result Receipt AppendError) → a ≡ answers.Append r → AppendsNote note s t old new (receipt_in (answers.Append r))
  appended_by request note a gives (Ok receipt) is =
      (request, makes_so (Append 1 request note) a (as_append (Ok receipt)) gives (told_if false (as_append (Ok receipt)) gives.told (told_of (Append 1 request note) a (answers.Append (Ok receipt)) gives is)))
  appended_by request note a gives (Err e) is =
      (request, IsRefusal (ToAppend (Err e)) tt (makes_so (Append 1 request note) a (ToAppend (Err e)) gives (told_if (is_append_fault e) (ToAppend (Err e)) gives.told (told_of (Append 1 request note) a (answers.Append (Err e)) gives is))))

  pub appended : (request : ℕ) (note : List ℕ) (a : Answer)
      → GivesAnswer (Append 1 request note) s t old new a → AppendsNote note s t old new (receipt_in a)
  appended request note a gives = subst (λ (y : Answer).
      AppendsNote note s t old new (receipt_in y)) (sym gives.exact.1) (appended_by request note a gives gives.exact.0 gives.exact.1)

  -- ---- a reply

  stored_by : (op : ℕ) (a : Answer) (gives : GivesAnswer (Reply op []) s t old new a) (r : Result (List ℕ) ReplyError)
      → a ≡ answers.Reply r → StoresReply op s t old new (stored_in (answers.Reply r))
  stored_by op a gives (Ok check) is = (check, makes_so (Reply op []) a (as_reply (Ok check)) gives (told_if false (as_reply (Ok check)) gives.told (told_of (Reply op []) a (answers.Reply (Ok check)) gives is)))
  stored_by op a gives (Err e) is = IsRefusal (ToReply (Err e)) tt (makes_so (Reply op []) a (ToReply (Err e))
      gives (told_if (is_reply_fault e) (ToReply (Err e)) gives.told (told_of (Reply op []) a (answers.Reply (Err e)) gives is)))

  pub stored : (op : ℕ) (a : Answer) → GivesAnswer (Reply op []) s t old new a → StoresReply op s t old new (stored_in a)
  stored op a gives = subst (λ (y : Answer).
      StoresReply op s t old new (stored_in y)) (sym gives.exact.1) (stored_by op a gives gives.exact.0 gives.exact.1)

-- ---- what they blame, where the disk didn't fail

pub receipt_blames : (a : Answer) (before now : ℕ) → now ≡ before → IsBlamed is_disk_at_fault before now (receipt_in a)
receipt_blames (answers.Append (Ok receipt)) before now same = same
receipt_blames a before now same = same

pub stored_blames : (a : Answer) (before now : ℕ) → now ≡ before → IsBlamed is_disk_at_fault before now (stored_in a)
stored_blames (answers.Reply (Ok check)) before now same = same
stored_blames a before now same = same

-- ---- a read

-- a prepare that was read
abbrev pub note_read : (op : ℕ) (s : Replica) (told : Option Told) (message : Message) → IsReadPrepare op s told (Ok message)
    → ServesRead (ReadPrepare op) s s told (Some (Ok message)) (Some (ToReadPrepare (Ok message))) → IsNoteRead op s told
note_read op s told message exact serves = record { message = message; read = exact; call = reads_prepare s s told told refl op (Some (Ok message)) (Some (ToReadPrepare (Ok message))) serves }
