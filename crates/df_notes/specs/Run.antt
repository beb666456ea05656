-- What a run of the program promises of the file.
use Rattle.std.specs.Prelude.{◌≡◌, ◌≢◌, ◌⊎◌, ℕ, List, Some, Result, Ok, Err}
use Rattle.df_base.specs.{Image.{IsImage}, Log.{Sync}}
use Rattle.df_disk.specs.Told.{Told, did}
use Rattle.df_layout.specs.declared.layout.Layout.{Layout}
use Rattle.df_model.specs.declared.errors.FormatError.TheVariants as formats
use Rattle.df_model.specs.declared.errors.OpenError.{OpenError}
use Rattle.df_model.specs.declared.errors.OpenError.TheVariants as opens
use Rattle.df_session.specs.{Below.{IsUnformatted, Surveys}, Found.{FoundFile}, Laws.{CallsKeep}, Links.{CallsMade}, Making.{FormatsFile}, Opened.{StopsOpening}}
use Rattle.df_notes.specs.{Serving.{AreCallsOf, Outside, ServesNotes, around}, declared.ended.Ended.{Ended}, declared.ended.Ended.TheVariants.{DiskFault, Memory, Refused}}

-- the layout of a file of notes
pub record IsSmall (layout : Layout) : Type 0 where
  pub slots : layout.slots ≡ 32
  pub message_size : layout.message_size ≡ 8192
  pub clients : layout.clients ≡ 4
  pub block_size : layout.block_size ≡ 16384
  pub blocks : layout.blocks ≡ 64

-- its cluster
abbrev pub notes_cluster : ℕ
notes_cluster = 1

-- ---- an open

-- the file is refused after the barrier; nothing is written to it, and nothing is printed
pub record RefusesNotes (layout : Layout) (t : Told) (error : OpenError) (old new : Outside) (result : Result (Unit {0}) Ended) : Type 0 where
  pub is : Surveys layout t.shown (Err error)
  pub other : error ≢ opens.DiskFault
  pub barrier : new.told ≡ Some (did Sync t)
  pub silent : new.written ≡ old.written
  pub ended : result ≡ Err Refused

-- the disk failed before the file was found
pub record FailsToFindNotes (layout : Layout) (t : Told) (old new : Outside) (result : Result (Unit {0}) Ended) : Type 0 where
  pub disk : StopsOpening layout t new.told
  pub silent : new.written ≡ old.written
  pub ended : result ≡ Err DiskFault

-- The file was found, mended and raised, and then served. What of all its calls is kept is what calls on an open file keep.
pub record ServesFile (layout : Layout) (t : Told) (notes : List (List ℕ)) (old new : Outside) (result : Result (Unit {0}) Ended) : Type 0 where
  pub found : FoundFile layout t
  pub serves : ServesNotes notes found.replica (around found.mended old.written) new result
  pub made : CallsMade
  pub of : AreCallsOf serves made
  pub keep : CallsKeep t found.replica found.mended found.mending made

-- the file isn't refused
abbrev pub FindsNotes : Layout → Told → List (List ℕ) → (old new : Outside) → Result (Unit {0}) Ended → Type 0
FindsNotes layout t notes old new result = FailsToFindNotes layout t old new result ⊎ ServesFile layout t notes old new result

-- it is opened, or refused
abbrev pub OpensNotes : Layout → Told → List (List ℕ) → (old new : Outside) → Result (Unit {0}) Ended → Type 0
OpensNotes layout t notes old new result = ((error : OpenError) × RefusesNotes layout t error old new result) ⊎ FindsNotes layout t notes old new result

-- ---- a making

-- the disk failed in it
pub record FailsToMake (layout : Layout) (t : Told) (old new : Outside) (result : Result (Unit {0}) Ended) : Type 0 where
  pub formats : FormatsFile {T = Unit {0}} layout notes_cluster (Some t) new.told (Err formats.DiskFault)
  pub silent : new.written ≡ old.written
  pub ended : result ≡ Err DiskFault

-- the file was made, and then opened
pub record MakesAndOpens (layout : Layout) (t : Told) (notes : List (List ℕ)) (old new : Outside) (result : Result (Unit {0}) Ended) : Type 0 where
  pub made : Told
  pub formats : FormatsFile {T = Unit {0}} layout notes_cluster (Some t) (Some made) (Ok tt)
  pub whole : IsImage made.shown
  pub then_opens : OpensNotes layout made notes (around (Some made) old.written) new result

-- so it is where the disk was blank
abbrev pub MakesFirst : Layout → Told → List (List ℕ) → (old new : Outside) → Result (Unit {0}) Ended → Type 0
MakesFirst layout t notes old new result = FailsToMake layout t old new result ⊎ MakesAndOpens layout t notes old new result

-- ---- the program

-- memory was wanting, and nothing was done
pub record TookNoMemory (old new : Outside) (result : Result (Unit {0}) Ended) : Type 0 where
  pub same : new ≡ old
  pub ended : result ≡ Err Memory

-- the disk was blank: after the barrier of an open the file is made, and then opened
pub record MakesNotes (layout : Layout) (t : Told) (notes : List (List ℕ)) (old new : Outside) (result : Result (Unit {0}) Ended) : Type 0 where
  pub blank : IsUnformatted t.shown
  pub makes : MakesFirst layout (did Sync t) notes (around (Some (did Sync t)) old.written) new result

-- the file is refused by the first reason of an open, but not since the disk is blank
abbrev pub RefusesFile : Layout → Told → (old new : Outside) → Result (Unit {0}) Ended → Type 0
RefusesFile layout t old new result = (error : OpenError) × (error ≢ opens.NotFormatted) × RefusesNotes layout t error old new result

-- nothing was done for want of memory; the file is refused; it is made first; or it is found, unless the disk fails
abbrev pub NotesOutcome : Layout → Told → List (List ℕ) → (old new : Outside) → Result (Unit {0}) Ended → Type 0
NotesOutcome layout t notes old new result = TookNoMemory old new result ⊎ RefusesFile layout t old new result ⊎ MakesNotes layout t notes old new result ⊎ FindsNotes layout t notes old new result

-- so it is over a disk that tells what it shows, in rooms of the small layout
abbrev pub RunsNotes : List (List ℕ) → (old new : Outside) → Result (Unit {0}) Ended → Type 0
RunsNotes notes old new result = (t : Told) → old.told ≡ Some t → IsImage t.shown → (layout : Layout) × IsSmall layout × NotesOutcome layout t notes old new result
