-- What a piece of the loop's work comes to, by its answer.
use Rattle.std.proofs.{Common.{◌≡◌, ◌<◌, ℕ, Bool, true, false, if◌then◌else◌, List, Option, Some, None, Ok, Err, IsTrue, inl, inr, refl, sym, ◌∙◌, ap, subst, arith}, lemmas.Option.{none-some}}
use Rattle.{df_base.specs.Causes.{IsBlamed}, df_disk.specs.Told.{Told}, df_units.specs.Meaning.{number_of}}
use Rattle.df_model.specs.{Commands.{Answer as Said, Command, ToAdvance, ToAppend, ToBegin, ToFlush, ToReadBlock, ToReadPrepare, ToReadReply, ToRelease, ToReply, ToScrub, ToStage, ToWriteBlock}, declared.answers.Progress.TheVariants.{Working}, declared.commands.Answer.{Answer}, Faults.{is_append_fault, is_block_fault, is_flush_fault, is_lookup_fault, is_prepare_fault, is_read_fault, is_reply_fault}}
use Rattle.df_model.specs.declared.answers.Progress.TheVariants as progress
use Rattle.df_model.specs.declared.commands.Answer.TheVariants as answers
use Rattle.df_model.specs.declared.errors.StepError.TheVariants as step
use Rattle.df_session.specs.{Calls.{machine_answer}, Below.{State as Replica}, Endings.{GivesAnswer, is_disk_fault}, Links.{Makes}, declared.hearing.Fault.{Fault}, declared.hearing.Fault.TheVariants.{Disk, Damaged}}
use Rattle.{df_lines.specs.Room.{ReaderParts}, df_script_model.specs.Texts.{damaged_text}}
use Rattle.df_pace.{specs.{Beats.{command_of_piece, is_begun, next_piece, pieces_left}, declared.beat.Beat.{Beat}, declared.beat.Piece.{Piece}, declared.pace.Pace.{Pace}}, proofs.Laws.{fewer_due}}
use Rattle.df_top.{specs.{Lines.{ByLoop}, Outside.{PrintsLine, Turn}, Pacing.{IsNextCommand, runs}, Refusing.{PrintsFault}, Session.{IsDamagedLine, SessionState}, Step.{Passes, Turns}, Turning.{BlamesIfEnds, DoesPiece, IsReadySession, LeavesReader, OnGoing, has_begun_in}, declared.session.Session.{Session}, declared.status.Status.{Status}, declared.status.Status.TheVariants.{Done, Found, Words, Script, Refused, DiskFault, ReadFault, WriteFault, Memory}}, proofs.{Answered.{damaged_line, disk_rose, disk_same}, Progress.{ends_damaged, ends_damaged_fault, ends_disk, works_on}}}
use Rattle.df_program.specs.declared.turn.Turn.TheVariants.{GoesOn, Ends}

-- ---- whether a checkpoint was begun

begun_if : (fault : Bool) (x y : Said) → is_begun y ≡ false → (if fault then None else Some y) ≡ Some x → false ≡ is_begun x
begun_if true x y plain is = absurd (none-some x is)
begun_if false x y plain is = let one : y ≡ x = cc is in sym plain ∙ ap is_begun one

begun_of : (x y : Said) (b : Bool) → b ≡ is_begun y → Some y ≡ Some x → b ≡ is_begun x
begun_of x y b so is = let one : y ≡ x = cc is in so ∙ ap is_begun one

-- an answer and the machine's say the same of it
begun_same : (x : Said) (a : Answer) → machine_answer a ≡ Some x → has_begun_in a ≡ is_begun x
begun_same x (answers.Begin (Ok blocks)) is = begun_of x (ToBegin (Ok blocks)) true refl is
begun_same x (answers.Begin (Err e)) is = begun_of x (ToBegin (Err e)) false refl is
begun_same x (answers.Append (Ok receipt)) is = begun_of x (ToAppend (Ok (receipt.op, number_of receipt.checksum))) false refl is
begun_same x (answers.Append (Err e)) is = begun_if (is_append_fault e) x (ToAppend (Err e)) refl is
begun_same x (answers.Stage r) is = begun_of x (ToStage r) false refl is
begun_same x (answers.Flush (Ok count)) is = begun_of x (ToFlush (Ok count)) false refl is
begun_same x (answers.Flush (Err e)) is = begun_if (is_flush_fault e) x (ToFlush (Err e)) refl is
begun_same x (answers.Reply (Ok check)) is = begun_of x (ToReply (Ok (number_of check))) false refl is
begun_same x (answers.Reply (Err e)) is = begun_if (is_reply_fault e) x (ToReply (Err e)) refl is
begun_same x (answers.WriteBlock (Ok reference)) is =
    begun_of x (ToWriteBlock (Ok (reference.address, number_of reference.checksum))) false refl is
begun_same x (answers.WriteBlock (Err e)) is = begun_if (is_block_fault e) x (ToWriteBlock (Err e)) refl is
begun_same x (answers.Release (Ok done)) is = begun_of x (ToRelease (Ok tt)) false refl is
begun_same x (answers.Release (Err e)) is = begun_of x (ToRelease (Err e)) false refl is
begun_same x (answers.Advance (Ok (Working left))) is = begun_of x (ToAdvance (Ok (Working left))) false refl is
begun_same x (answers.Advance (Ok (progress.Done sequence))) is = begun_of x (ToAdvance (Ok (progress.Done sequence))) false refl is
begun_same x (answers.Advance (Err step.NotRunning)) is = begun_of x (ToAdvance (Err step.NotRunning)) false refl is
begun_same x (answers.ReadPrepare (Err e)) is = begun_if (is_prepare_fault e) x (ToReadPrepare (Err e)) refl is
begun_same x (answers.ReadReply (Err e)) is = begun_if (is_lookup_fault e) x (ToReadReply (Err e)) refl is
begun_same x (answers.ReadBlock (Err e)) is = begun_if (is_read_fault e) x (ToReadBlock (Err e)) refl is
begun_same x (answers.Scrub scrubbed) is = begun_of x (ToScrub scrubbed) false refl is
begun_same x case is = absurd (none-some x is)

pub does_answered : (command : Command) (s t : Replica) (old new : Option Told) (a : Answer) (begun : Bool)
    → GivesAnswer command s t old new a → begun ≡ has_begun_in a → DoesPiece command s t old new (Ok begun)
does_answered command s t old new a begun gives is = (gives.told, gives.makes, is ∙ begun_same gives.told a gives.in_words)

-- ---- what a piece leaves as it is

pub leaves_on : {r s t : Session} → LeavesReader r s → LeavesReader s t → LeavesReader r t
leaves_on one more = record { lines = more.lines ∙ one.lines; count = more.count ∙ one.count; pace = more.pace ∙ one.pace }

-- so a session that was ready still is, where calls may go on
pub worked_ready : {s t : Session} {left : Option (List ℕ)}
    → IsReadySession s left → LeavesReader s t → t.replica.live ≡ true → IsReadySession t left
worked_ready ready leaves live = record {
  live = live;
  count = omega (arith, ready.count, leaves.count, ap (λ (r : ReaderParts). r.reading.budget) leaves.lines);
  at_end = λ ended. ready.at_end (rw leaves.lines at ended);
}

-- ---- a piece that ends the session

module _ (p : Piece)
    (command : Command) (s t : Replica) (old new : Option Told) (written took : Option (List ℕ)) (b c : Beat) (before now : ℕ) where
  abbrev pub Comes : Turn → Type 0
  Comes turn = Passes p command s t old new written took b c turn × BlamesIfEnds DiskFault before now turn

  line_passes : (line : List ℕ) (status : Status) → Makes command s t old new None
      → (IsDamagedLine command new line) → now ≡ before → PrintsLine line Refused written took status → Comes (Ends status)
  line_passes line status makes damaged same (inl printed) = subst (λ (q : Status).
      Comes (Ends q)) (sym printed.0) ((line, makes, damaged, printed.1), disk_same before now (Ends Refused) same (λ no. cc))
  line_passes line status makes damaged same (inr printed) = subst (λ (q : Status).
      Comes (Ends q)) (sym printed.0) ((line, makes, damaged, printed.1), disk_same before now (Ends WriteFault) same (λ no. cc))

  -- the disk failed in it, or its step is damaged, and the line that says so was printed
  pub fault_passes : (fault : Fault) (status : Status) → DoesPiece command s t old new (Err fault)
      → IsBlamed {T = Bool} is_disk_fault before now (Err fault) → PrintsFault fault written took status → Comes (Ends status)
  fault_passes Disk status does blamed printed =
      subst (λ (q : Status). Comes (Ends q)) (sym printed.0) ((does.0, printed.1), disk_rose before now (Ends DiskFault) refl blamed.1)
  fault_passes (Damaged place class) status does same printed =
      line_passes (damaged_text place class) status does.0 (damaged_line command new place class does.1) same printed

-- nothing is read for it
pub passes_unread : (p : Piece) (asked : Command) (s t : Replica) (old new : Option Told) (written took : Option (List ℕ))
    (b c : Beat) (turn : Turn) → Passes p asked s t old new written took b c turn → (faults : ℕ) → BlamesIfEnds ReadFault faults faults turn
passes_unread p asked s t old new written took b c GoesOn did = λ faults. refl
passes_unread p asked s t old new written took b c (Ends DiskFault) did = λ faults. record { rose = λ is. absurd (cc); same = λ other. refl }
passes_unread p asked s t old new written took b c (Ends Refused) did = λ faults. record { rose = λ is. absurd (cc); same = λ other. refl }
passes_unread p asked s t old new written took b c (Ends WriteFault) did = λ faults. record { rose = λ is. absurd (cc); same = λ other. refl }
passes_unread p asked s t old new written took b c case did = absurd did

-- ---- what it does to a session

module _ (pace : Pace) (bound : ℕ) (old new : SessionState) (p : Piece) (text : new.text ≡ old.text)
    (budget : new.budget ≡ old.budget) (lines : new.lines ≡ old.lines) (due : next_piece old.beat.due (runs old.replica) ≡ Some p) where
  abbrev command : Command
  command = command_of_piece p old.replica.root

  next : (c : Command) → c ≡ command → IsNextCommand old.beat old.replica (ByLoop p) c
  next c is = (is, due)

  pub passes_turns : (turn : Turn) → Passes p command old.replica new.replica
      old.outside.told new.outside.told old.outside.written new.outside.written old.beat new.beat turn → Turns pace bound old new turn
  passes_turns GoesOn did = works_on pace bound old new p text budget due did.0 did.1 did.2 lines did.3
  passes_turns (Ends DiskFault) did = ends_disk pace bound old new (ByLoop p) command (text, budget) next did
  passes_turns (Ends Refused) did = ends_damaged pace bound old new (ByLoop p) command (text, budget) next did
  passes_turns (Ends WriteFault) did = ends_damaged_fault pace bound old new (ByLoop p) command (text, budget) next did
  passes_turns case did = absurd did

-- ---- and to what is left

pub fewer_behind : (p : Piece) (command : Command) (s t : Replica) (old new : Option Told) (written took : Option (List ℕ))
    (b c : Beat) (turn : Turn) → next_piece b.due (runs s) ≡ Some p → Passes p command s t old new written took b c turn
    → OnGoing turn (pieces_left c.due < pieces_left b.due)
fewer_behind p asked s t old new written took b c GoesOn due did =
    subst (λ (x : Beat). pieces_left x.due < pieces_left b.due) (sym did.3) (fewer_due b.due (runs s) p due)
fewer_behind p asked s t old new written took b c (Ends status) due did = tt
