-- What each program does to a file is a run over it: one of the table, a copy of which the file is the source, one of notes. And what makes a file.
use Rattle.std.specs.Prelude.{◌≡◌, ◌⊎◌, ℕ, List, Some, Result, Ok, Err}
use Rattle.std.proofs.Common.{inl, inr}
use Rattle.df_base.specs.{Image.{IsImage}, Log.{Sync}}
use Rattle.df_disk.specs.Told.{IsHonest, Told, did}
use Rattle.df_layout.specs.declared.layout.Layout.{Layout}
use Rattle.df_model.specs.{declared.errors.FormatError.{FormatError}, declared.errors.FormatError.TheVariants.{DiskFault}}
use Rattle.df_session.specs.{Below.{IsUnformatted}, Found.{FoundFile, no_calls}, Making.{FormatsFile, MayMakeOn}, Programs.{FileRun, IsSession}}
use Rattle.df_program.specs.Two as two
use Rattle.df_table.specs.Outside as table
use Rattle.df_table.specs.Run.{DoesTable, RunsTable, TableOutcome}
use Rattle.df_table.specs.declared.status.Status as table_status
use Rattle.df_notes.specs.{Run.{FindsNotes, MakesFirst, NotesOutcome, RunsNotes, notes_cluster}, declared.ended.Ended.{Ended}}
use Rattle.df_notes.specs.Serving as noted
use Rattle.df_copy.specs.Run.{CopyOutcome, DoesCopy, RunsCopy}
use Rattle.df_copy.specs.declared.status.Status as copy_status
use Rattle.df_top.specs.{declared.status.Status.{Status}, declared.status.Status.TheVariants.{Done, Memory}}
use Rattle.df_lifetime.specs.{Life.{MadeOn}, Words.{FormatWord, IsQuiet}}

-- ---- a table

-- the program of the table was run, with its word, over a disk that told this before and that after it, and did what it promises
pub record TableRun (t n : Told) : Type 0 where
  pub status : table_status.Status
  pub old : table.Outside
  pub new : table.Outside
  pub from : old.told ≡ Some t
  pub to : new.told ≡ Some n
  pub whole : IsImage t.shown
  pub runs : RunsTable old new status

-- it makes its calls on the file that it found
abbrev pub TableDoesAs : {t n : Told} → FileRun t n → (layout : Layout) → (old new : table.Outside) → (status : table_status.Status) → DoesTable layout t old new status → Type 0
TableDoesAs run layout old new status (inl refuses) = IsQuiet run
TableDoesAs run layout old new status (inr (inl fails)) = IsQuiet run
TableDoesAs run layout old new status (inr (inr serves)) = IsSession run layout serves.0 serves.1.made

abbrev pub TableGoesAs : {t n : Told} → FileRun t n → (old new : table.Outside) → (status : table_status.Status) → TableOutcome t old new status → Type 0
TableGoesAs run old new status (inl nothing) = IsQuiet run
TableGoesAs run old new status (inr (inl refuses)) = IsQuiet run
TableGoesAs run old new status (inr (inr own)) = TableDoesAs run own.layout old new status own.does

-- each run of `objecttable` is a run over its file
abbrev pub TableIsRun : Type 0
TableIsRun = (t n : Told) (ran : TableRun t n) → (run : FileRun t n) × TableGoesAs run ran.old ran.new ran.status (ran.runs t ran.from ran.whole)

-- ---- a copy

-- it makes no calls on the source that it found
abbrev pub CopyDoesAs : {t n : Told} → FileRun t n → (layout own : Layout) → (old new : two.Outside) → (status : copy_status.Status) → DoesCopy layout own t old new status → Type 0
CopyDoesAs run layout own old new status (inl refuses) = IsQuiet run
CopyDoesAs run layout own old new status (inr (inl fails)) = IsQuiet run
CopyDoesAs {t = t} run layout own old new status (inr (inr copies)) = (found : FoundFile copies.state.file.layout t) × (found.replica ≡ copies.state) × IsSession run copies.state.file.layout found (no_calls found)

abbrev pub CopyGoesAs : {t n : Told} → FileRun t n → (layout : Layout) → (old new : two.Outside) → (status : copy_status.Status) → CopyOutcome layout t old new status → Type 0
CopyGoesAs run layout old new status (inl nothing) = IsQuiet run
CopyGoesAs run layout old new status (inr (inl refuses)) = IsQuiet run
CopyGoesAs run layout old new status (inr (inr own)) = CopyDoesAs run layout own.own old new status own.does

-- each run of `filecopy` is a run over its source
abbrev pub SourceIsRun : Type 0
SourceIsRun =
    (layout : Layout) (t n : Told) (old new : two.Outside) (status : copy_status.Status) (runs : RunsCopy layout old new status) (from : old.first ≡ Some t) → new.first ≡ Some n → (whole : IsImage t.shown)
    → (run : FileRun t n) × CopyGoesAs run layout old new status (runs t from whole)

-- ---- notes

-- the program of notes was run over a disk that told this before and that after it, and did what it promises
pub record NotesRun (t n : Told) : Type 0 where
  pub notes : List (List ℕ)
  pub result : Result (Unit {0}) Ended
  pub old : noted.Outside
  pub new : noted.Outside
  pub from : old.told ≡ Some t
  pub to : new.told ≡ Some n
  pub whole : IsImage t.shown
  pub runs : RunsNotes notes old new result

-- it makes its calls on the file that it found; one that it made first is no file that was there
abbrev pub NotesFindAs : {t n : Told} → FileRun t n → (layout : Layout) → (notes : List (List ℕ)) → (old new : noted.Outside) → (result : Result (Unit {0}) Ended) → FindsNotes layout t notes old new result → Type 0
NotesFindAs run layout notes old new result (inl fails) = IsQuiet run
NotesFindAs run layout notes old new result (inr serves) = IsSession run layout serves.found serves.made

abbrev pub NotesGoAs : {t n : Told} → FileRun t n → (layout : Layout) → (notes : List (List ℕ)) → (old new : noted.Outside) → (result : Result (Unit {0}) Ended) → NotesOutcome layout t notes old new result → Type 0
NotesGoAs run layout notes old new result (inl nothing) = IsQuiet run
NotesGoAs run layout notes old new result (inr (inl refuses)) = IsQuiet run
NotesGoAs run layout notes old new result (inr (inr (inl makes))) = ⊥
NotesGoAs run layout notes old new result (inr (inr (inr finds))) = NotesFindAs run layout notes old new result finds

-- each run of `notes` is a run over its file, where the disk isn't blank
abbrev pub NotesIsRun : Type 0
NotesIsRun = (t n : Told) (ran : NotesRun t n) → (IsUnformatted t.shown → ⊥) → let all = ran.runs t ran.from ran.whole in (run : FileRun t n) × NotesGoAs run all.0 ran.notes ran.old ran.new ran.result all.2

-- and where it is blank it is a making after a barrier, and, where that made the file, a run over it
abbrev pub NotesBegin : Type 0
NotesBegin =
    (layout : Layout) (t n : Told) (notes : List (List ℕ)) (old new : noted.Outside) (result : Result (Unit {0}) Ended) → new.told ≡ Some n → (makable : MayMakeOn layout notes_cluster (did Sync t)) → IsHonest t
    → MakesFirst layout (did Sync t) notes old new result
    → MadeOn layout notes_cluster (did Sync t) n makable (Err DiskFault) ⊎ ((made : Told) × MadeOn layout notes_cluster (did Sync t) made makable (Ok tt) × FileRun made n)

-- ---- a making

-- the word `format` is one, unless memory was wanting; it made the file where it ended Done
abbrev pub WordIsMaking : Type 0
WordIsMaking =
    (layout : Layout) (cluster : ℕ) (t n : Told) (status : Status) (makable : MayMakeOn layout cluster t) → IsHonest t → FormatWord layout cluster t n status → (status ≡ Memory → ⊥)
    → (result : Result (Unit {0}) FormatError) × (status ≡ Done → result ≡ Ok tt) × MadeOn layout cluster t n makable result

-- and so is each call that makes a file
abbrev pub CallIsMaking : Type 0
CallIsMaking =
    (layout : Layout) (cluster : ℕ) (t n : Told) (result : Result (Unit {0}) FormatError) (makable : MayMakeOn layout cluster t) → IsHonest t → FormatsFile {T = Unit {0}} layout cluster (Some t) (Some n) result
    → MadeOn layout cluster t n makable result
