-- What was printed is there: the notes that were kept are calls of the replica that were served, and a stop after them, before the next call, loses none.
use Rattle.std.specs.Prelude.{◌≡◌, ℕ, true, List, [], ◌∷◌, ◌++◌, Option}
use Rattle.df_base.specs.Log.{Event}
use Rattle.df_disk.specs.{Adds.{after_all}, Told.{Told}}
use Rattle.df_model.specs.{Commands.{Append, Command}, Work.{Work}}
use Rattle.df_session.specs.{Serving.{Grade, Keeps}, Session.{Act, LeavesView, work_after}}
use Rattle.df_notes.specs.Keeping.{AreKept, Moment}

-- the note of an append; no other call has one
abbrev pub note_in : Command → List (List ℕ)
note_in (Append client request body) = body ∷ []
note_in command = []

-- the notes that these acts append, in order
abbrev pub notes_in : List Act → List (List ℕ)
notes_in [] = []
notes_in (a ∷ acts) = note_in a.command ++ notes_in acts

-- by each log by which the file was kept at first, whatever a stop leaves now, under no chance, has the state after the appends of all these notes
pub record AreNotesThere (notes : List (List ℕ)) (m n : Moment) : Type 0 where
  pub acts : List Act
  pub events : List Event
  pub are : notes_in acts ≡ notes
  pub told : n.told ≡ after_all events m.told
  pub left : (g : Grade) (w : Work) (base : Option Told) → Keeps g m.replica w base → LeavesView m.replica.file g (work_after m.replica.file w acts) (after_all events base)

abbrev pub KeptNotesStay : Type 0
KeptNotesStay = (m n : Moment) (notes : List (List ℕ)) → m.replica.live ≡ true → AreKept m notes n → AreNotesThere notes m n
