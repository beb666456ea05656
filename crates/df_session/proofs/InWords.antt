-- What an answer is in the machine's words, and what a call comes to, by what is heard of it.
use Rattle.std.{proofs.Common.{◌≡◌, ℕ, Bool, true, false, Option, Some, None, if◌then◌else◌, refl, sym, ◌∙◌, ap, Result, Ok, Err}, specs.Prelude.{OnOk}}
use Rattle.{df_base.specs.Causes.{Blamed, IsBlamed}, df_disk.specs.Told.{Told}, df_replica.specs.Below.{State as Replica}}
use Rattle.df_model.specs.{Commands.{Answer as Answered, Command, ToAdvance, ToAppend, ToBegin, ToFlush, ToReadBlock, ToReadPrepare, ToReadReply, ToRelease, ToReply, ToScrub, ToStage, ToWriteBlock}, declared.answers.Progress.TheVariants.{Done, Working}, Called.{command_of}, declared.commands.Answer.{Answer}, declared.commands.Command.{Command as Asked}, Faults.{is_append_fault, is_block_fault, is_flush_fault, is_lookup_fault, is_prepare_fault, is_read_fault, is_reply_fault}}
use Rattle.df_model.specs.declared.commands.Answer.TheVariants as answers
use Rattle.df_model.specs.declared.errors.StepError.TheVariants as step
use Rattle.df_units.specs.Meaning.{number_of}
use Rattle.df_session.{specs.{Calls.{IsExact, LendsNothing, is_fault, machine_answer}, Endings.{KeepsTour, MakesTo, heard, is_disk_fault, unless_damaged}, Links.{Makes}, declared.hearing.Fault.{Fault}, declared.hearing.Fault.TheVariants.{Disk, Damaged}}, proofs.Exact.{Called, exact_damaged, exact_lends}}

-- ---- in the machine's words

-- the answer is heard, and the machine has one; or the machine has none
abbrev InWords : Answer → Result Answer Fault → Type 0
InWords a (Ok b) = (b ≡ a) × (x : Answered) × (machine_answer a ≡ Some x)
InWords a (Err Disk) = machine_answer a ≡ None
InWords a (Err (Damaged place class)) = (a ≡ answers.Advance (Err (step.Damaged place class))) × (machine_answer a ≡ None)

refused : (fault : Bool) (a : Answer) (x : Answered)
    → machine_answer a ≡ (if fault then None else Some x) → InWords a (if fault then Err Disk else Ok a)
refused true a x is = is
refused false a x is = (refl, x, is)

in_words : (a : Answer) → LendsNothing a → InWords a (heard a)
in_words (answers.Append (Ok receipt)) lends = (refl, ToAppend (Ok (receipt.op, number_of receipt.checksum)), refl)
in_words (answers.Append (Err e)) lends = refused (is_append_fault e) (answers.Append (Err e)) (ToAppend (Err e)) refl
in_words (answers.Stage r) lends = (refl, ToStage r, refl)
in_words (answers.Flush (Ok count)) lends = (refl, ToFlush (Ok count), refl)
in_words (answers.Flush (Err e)) lends = refused (is_flush_fault e) (answers.Flush (Err e)) (ToFlush (Err e)) refl
in_words (answers.Reply (Ok check)) lends = (refl, ToReply (Ok (number_of check)), refl)
in_words (answers.Reply (Err e)) lends = refused (is_reply_fault e) (answers.Reply (Err e)) (ToReply (Err e)) refl
in_words (answers.WriteBlock (Ok reference)) lends = (refl, ToWriteBlock (Ok (reference.address, number_of reference.checksum)), refl)
in_words (answers.WriteBlock (Err e)) lends = refused (is_block_fault e) (answers.WriteBlock (Err e)) (ToWriteBlock (Err e)) refl
in_words (answers.Release (Ok done)) lends = (refl, ToRelease (Ok tt), refl)
in_words (answers.Release (Err e)) lends = (refl, ToRelease (Err e), refl)
in_words (answers.Begin (Ok blocks)) lends = (refl, ToBegin (Ok blocks), refl)
in_words (answers.Begin (Err e)) lends = (refl, ToBegin (Err e), refl)
in_words (answers.Advance (Ok (Working left))) lends = (refl, ToAdvance (Ok (Working left)), refl)
in_words (answers.Advance (Ok (Done sequence))) lends = (refl, ToAdvance (Ok (Done sequence)), refl)
in_words (answers.Advance (Err step.NotRunning)) lends = (refl, ToAdvance (Err step.NotRunning), refl)
in_words (answers.Advance (Err (step.Damaged place class))) lends = (refl, refl)
in_words (answers.Advance (Err step.DiskFault)) lends = refl
in_words (answers.ReadPrepare (Err e)) lends = refused (is_prepare_fault e) (answers.ReadPrepare (Err e)) (ToReadPrepare (Err e)) refl
in_words (answers.ReadReply (Err e)) lends = refused (is_lookup_fault e) (answers.ReadReply (Err e)) (ToReadReply (Err e)) refl
in_words (answers.ReadBlock (Err e)) lends = refused (is_read_fault e) (answers.ReadBlock (Err e)) (ToReadBlock (Err e)) refl
in_words (answers.Scrub scrubbed) lends = (refl, ToScrub scrubbed, refl)
in_words case lends = absurd lends

-- ---- who is to blame

module _ (before now : ℕ) where
  -- no count rose where the disk didn't fail
  still : (a : Answer) → now ≡ before → IsBlamed is_disk_fault before now (unless_damaged a)
  still (answers.Advance (Ok progress)) same = same
  still (answers.Advance (Err step.NotRunning)) same = same
  still (answers.Advance (Err (step.Damaged place class))) same = same
  still (answers.Advance (Err step.DiskFault)) same = same
  still case same = same

  blamed_as : (a : Answer) (fault : Bool)
      → Blamed fault before now → IsBlamed {T = Answer} is_disk_fault before now (if fault then Err Disk else unless_damaged a)
  blamed_as a true blamed = blamed
  blamed_as a false same = still a same

-- ---- what a call comes to

pub record Made (command : Command) (s t : Replica) (old new : Option Told) (before now : ℕ) (r : Result Answer Fault) : Type 0 where
  pub makes : MakesTo command s t old new r
  pub live : OnOk r (t.live ≡ true)
  pub tour : KeepsTour command s t r
  pub disk : IsBlamed is_disk_fault before now r

module _ (command : Command) (s t : Replica) (old new : Option Told) where
  makes_to : (a : Answer) → IsExact command s t old new a
      → Makes command s t old new (machine_answer a) → (r : Result Answer Fault) → InWords a r → MakesTo command s t old new r
  makes_to a exact makes (Ok b) is = record {
    exact = rw (sym is.0) at exact;
    told = is.1;
    in_words = ap machine_answer is.0 ∙ is.2;
    makes = rw is.2 at makes;
  }
  makes_to a exact makes (Err Disk) none = (rw none at makes, tt)
  makes_to a exact makes (Err (Damaged place class)) is = (rw is.1 at makes, exact_damaged s t old new a command exact place class is.0)

  -- a replica that answered lives on
  pub lives : (r : Result Answer Fault) → MakesTo command s t old new r → OnOk r (t.live ≡ true)
  lives (Ok a) made = made.makes.calls.call.live
  lives (Err fault) made = tt

  pub heard_made : (before now : ℕ) (a : Answer) → Called command s t old new before now a → Made command s t old new before now (heard a)
  heard_made before now a called =
      let made = makes_to a called.exact called.makes (heard a) (in_words a (exact_lends s t old new a command called.exact)) in
      record { makes = made; live = lives (heard a) made; tour = called.no_check (heard a); disk = blamed_as before now a (is_fault a) called.cause }

-- of a command that was asked in other words
pub heard_so : {x y : Asked} {s t : Replica} {old new : Option Told} {before now : ℕ} {a : Answer} {r : Result Answer Fault}
    → x ≡ y → Called (command_of y) s t old new before now a → r ≡ heard a → Made (command_of x) s t old new before now r
heard_so {x} {y} {s} {t} {old} {new} {before} {now} {a} {r} is called heard_is = rw (sym is) at
    (rw (sym heard_is) at (heard_made (command_of y) s t old new before now a called))
