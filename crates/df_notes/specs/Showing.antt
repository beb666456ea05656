-- What is printed of the notes that stand in the file.
use Rattle.std.specs.Prelude.{◌≡◌, ◌+◌, ◌-◌, ℕ, List, [], ◌∷◌, ◌++◌, Option, Some, Result, Ok, Err}
use Rattle.df_base.specs.Streams.{Appends, AppendsPart}
use Rattle.df_disk.specs.Told.{Told}
use Rattle.df_model.specs.Commands.{ReadPrepare, ToReadPrepare}
use Rattle.df_script_model.specs.Texts.{line_of}
use Rattle.df_session.specs.{Below.{State as Replica}, Links.{Makes}, Reading.{IsReadPrepare}, Session.{Exchange}}
use Rattle.df_theory.specs.Units.{Message}
use Rattle.df_notes.specs.{Calling.{EndsIn, Made, answered, exchange, made_in, then_made}, declared.ended.Ended.{Ended}, declared.ended.Ended.TheVariants.{WriteFault}}

-- the prepare of this op was read, which changed nothing
pub record IsNoteRead (op : ℕ) (s : Replica) (told : Option Told) : Type 0 where
  pub message : Message
  pub read : IsReadPrepare op s told (Ok message)
  pub call : Makes (ReadPrepare op) s s told told (Some (ToReadPrepare (Ok message)))

-- and its body was printed as a line
pub record IsNoteShown (op : ℕ) (s : Replica) (told : Option Told) (old new : Option (List ℕ)) : Type 0 where
  pub is : IsNoteRead op s told
  pub printed : Appends old new (line_of is.message.body)

-- it isn't read, and nothing is printed; or its line isn't printed whole
pub data NoteHides (op : ℕ) (s t : Replica) (told : Option Told) (old new : Option (List ℕ)) (ended : Ended) : Type 0 where
  InRead : EndsIn (ReadPrepare op) s t told told ended → new ≡ old → NoteHides op s t told old new ended
  InPrint : (is : IsNoteRead op s told) → AppendsPart old new (line_of is.message.body) → t ≡ s → ended ≡ WriteFault → NoteHides op s t told old new ended

abbrev pub ShowsNote : (op : ℕ) → (s t : Replica) → Option Told → (old new : Option (List ℕ)) → Result (Unit {0}) Ended → Type 0
ShowsNote op s t told old new (Ok done) = IsNoteShown op s told old new × (t ≡ s)
ShowsNote op s t told old new (Err ended) = NoteHides op s t told old new ended

-- this many were printed, in order of op, from the first one after the checkpoint on
pub data AreNotesShown (s : Replica) (told : Option Told) (old : Option (List ℕ)) : (count : ℕ) → Option (List ℕ) → Type 0 where
  Begun : AreNotesShown s told old 0 old
  Shown : (count op : ℕ) (mid new : Option (List ℕ)) → AreNotesShown s told old count mid → op ≡ s.fields.op + count + 1 → IsNoteShown op s told mid new → AreNotesShown s told old (count + 1) new

-- some were, and the next one isn't
pub record ShowsSome (s t : Replica) (told : Option Told) (old new : Option (List ℕ)) (ended : Ended) : Type 0 where
  pub count : ℕ
  pub mid : Option (List ℕ)
  pub shown : AreNotesShown s told old count mid
  pub hides : NoteHides (s.fields.op + count + 1) s t told mid new ended

-- all up to the head were printed, or some
abbrev pub ShowsNotes : (s t : Replica) → Option Told → (old new : Option (List ℕ)) → Result (Unit {0}) Ended → Type 0
ShowsNotes s t told old new (Ok done) = AreNotesShown s told old (s.head - s.fields.op) new × (t ≡ s)
ShowsNotes s t told old new (Err ended) = ShowsSome s t told old new ended

-- ---- the calls that were made

abbrev pub read_exchange : {op : ℕ} {s : Replica} {told : Option Told} → IsNoteRead op s told → Exchange
read_exchange is = exchange (ToReadPrepare (Ok is.message)) is.call

abbrev pub shown_exchanges : {s : Replica} {told : Option Told} {old new : Option (List ℕ)} {count : ℕ} → AreNotesShown s told old count new → List Exchange
shown_exchanges Begun = []
shown_exchanges (Shown count op mid new shown at is) = shown_exchanges shown ++ read_exchange is.is ∷ []

abbrev pub made_hiding : {op : ℕ} {s t : Replica} {told : Option Told} {old new : Option (List ℕ)} {ended : Ended} → NoteHides op s t told old new ended → Made
made_hiding (InRead ends same) = made_in ends
made_hiding (InPrint is part rests ends) = answered (read_exchange is ∷ [])

abbrev pub made_showing : (s t : Replica) (told : Option Told) (old new : Option (List ℕ)) (result : Result (Unit {0}) Ended) → ShowsNotes s t told old new result → Made
made_showing s t told old new (Ok done) shows = answered (shown_exchanges shows.0)
made_showing s t told old new (Err ended) shows = then_made (shown_exchanges shows.shown) (made_hiding shows.hides)
