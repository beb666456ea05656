-- The table in the life of a file, whichever programs ran over it: what is kept of the puts and drops of each session, and that the table is the fold of all of them.
use Rattle.std.specs.Prelude.{◌≡◌, ◌⊎◌, ℕ, zero, suc, List, [], ◌∷◌, ◌++◌, take, drop, Ok, Err}
use Rattle.df_base.specs.Log.{now}
use Rattle.df_disk.specs.Told.{Told}
use Rattle.df_layout.specs.declared.layout.Layout.{Layout}
use Rattle.df_theory.specs.{Device.{NoChanceOf}, View.{View}}
use Rattle.df_units.specs.Bytes.{unit_at}
use Rattle.df_rows.specs.{declared.command.Command.{Command as Change}, Tables.{Table, with_commands}}
use Rattle.df_session.specs.{Below.{DataFile}, Following.{MayOpen}, Found.{FoundFile, no_calls}, Links.{CallsMade, list_of}, Programs.{FileRun, IsSession, LooksOnly, Serves, StopsInOpen}}
use Rattle.df_session.specs.{Serving.{format}, Session.{acts_in}}
use Rattle.df_program.specs.Two as two
use Rattle.df_copy.specs.Run.{CopyOutcome}
use Rattle.df_copy.specs.declared.status.Status as copy_status
use Rattle.df_top.specs.{declared.mode.Mode.{Mode}, declared.mode.Mode.TheVariants.{Inspect, Recover, Scrub}}
use Rattle.df_table.specs.{declared.ending.Ending.TheVariants.{Disk}, declared.status.Status.{Status}, Keeping.{AreChanges, KeepsTable, LeaveTable}, Laws.{FindsIn}, Outside.{Outside}}
use Rattle.df_table.specs.{Run.{ServesTable}, Table.{IsObjectTable, empty_table}}
use Rattle.df_lifetime.specs.{Life.{Chapter, Extent, Life, ToAMoment, ToItsEnd}, Life.Life.{Begun, Ended, Made, Opened, Ran, Spared, Stopped, Taken}, Programs.{CopyGoesAs, TableGoesAs, TableRun}}
use Rattle.df_lifetime.specs.Words.{GoesAs, IsQuiet, Word, outcome_of}

-- ---- what a session does to the table

-- the puts and drops that are surely kept of a session, and those of which perhaps some are, from the first on
pub record TableChapter : Type 0 where
  pub kept : List Change
  pub perhaps : List Change

abbrev pub no_changes : TableChapter
no_changes = record { kept = []; perhaps = [] }

-- a table that a file may have come to by these sessions, the newest first: the fold of all that is kept of them, from this table on
abbrev pub MayHaveTable : (start : Table) → List TableChapter → Table → Type 0
MayHaveTable start [] t = t ≡ start
MayHaveTable start (c ∷ chapters) t = (before : Table) × (n : ℕ) × MayHaveTable start chapters before × (t ≡ with_commands (c.kept ++ take n c.perhaps) before)

-- At the end what was answered is kept, and perhaps the call in which the disk failed. At a moment what was answered by then is, and perhaps some of what is after that.
abbrev pub KeepsChapter : Extent → CallsMade → (changes pending : List Change) → TableChapter → Type 0
KeepsChapter ToItsEnd c changes pending chapter = chapter ≡ record { kept = changes; perhaps = pending }
KeepsChapter (ToAMoment zero) c changes pending chapter = chapter ≡ record { kept = []; perhaps = changes ++ pending }
KeepsChapter (ToAMoment (suc k)) c changes pending chapter =
    (more : List Change) × AreChanges (take (suc k) c.exchanges) chapter.kept × AreChanges (drop (suc k) c.exchanges) more × (chapter.perhaps ≡ more ++ pending)

-- the calls that were made on a file which was found keep its table, and this is kept of them
pub record KeepsCalls (extent : Extent) {layout : Layout} {t : Told} (found : FoundFile layout t) (c : CallsMade) (chapters : List TableChapter) : Type 0 where
  pub keeps : KeepsTable t found.replica found.mending.events c
  pub chapter : TableChapter
  pub kept : KeepsChapter extent c keeps.changes keeps.pending chapter
  pub is : chapters ≡ chapter ∷ []

-- and so of a run, whichever program it is of; one that found no file has no session
abbrev pub KeepsOfRun : Extent → {t n : Told} → FileRun t n → List TableChapter → Type 0
KeepsOfRun extent (LooksOnly part) chapters = chapters ≡ []
KeepsOfRun extent (StopsInOpen layout stops) chapters = chapters ≡ []
KeepsOfRun extent (Serves served) chapters = KeepsCalls extent served.found served.made chapters

-- ---- a life in which each session keeps the table

-- It began with this table: the empty one where the file was made, the one that its opening finds where it was taken, or opened after damage; and this is kept of each session, the newest first.
abbrev pub IsTableLife : (start : Table) (file : DataFile) (first : View) (t : Told) (chapters : List Chapter) → Life file first t chapters → List TableChapter → Type 0
IsTableLife start _ _ _ _ (Made layout cluster t n makable made) tables = (start ≡ empty_table layout) × (tables ≡ [])
IsTableLife start _ _ _ _ (Begun layout cluster t n m result changes makable made moment honest loose chance held) tables = (start ≡ empty_table layout) × (tables ≡ [])
IsTableLife start _ _ _ _ (Taken file first t may) tables = FindsIn file t first start × (tables ≡ [])
IsTableLife start _ _ _ _ (Opened file first t m layout found c extent shows calls made) tables = FindsIn file t first start × KeepsCalls extent found c tables
IsTableLife start _ _ _ _ (Ran file first b m t n chapters run life chance along) tables =
    (newest before : List TableChapter) × KeepsOfRun ToItsEnd run newest × IsTableLife start file first b chapters life before × (tables ≡ newest ++ before)
IsTableLife start _ _ _ _ (Ended file first b m t p n chapters run answered life chance until along honest had) tables =
    (newest before : List TableChapter) × KeepsOfRun (ToAMoment answered) run newest × IsTableLife start file first b chapters life before × (tables ≡ newest ++ before)
IsTableLife start _ _ _ _ (Spared file first b m t p n chapters word life chance until along honest) tables = IsTableLife start file first b chapters life tables
IsTableLife start _ _ _ _ (Stopped file first b chapters changes life loose chance) tables = IsTableLife start file first b chapters life tables

-- ---- the laws

-- the file may be opened, and has a table that it may have come to; the opening finds it
pub record TableGoesOn (file : DataFile) (start : Table) (tables : List TableChapter) (t : Told) : Type 0 where
  pub view : View
  pub may : MayOpen file view t
  pub table : Table
  pub is : IsObjectTable file (unit_at file.layout file.cluster t.shown) view table
  pub had : MayHaveTable start tables table
  pub finds : FindsIn file t view table

-- so it is whatever life the file has had in which each session kept the table
abbrev pub EveryTableGoesOn : Type 0
EveryTableGoesOn =
    (file : DataFile) (first : View) (t : Told) (chapters : List Chapter) (start : Table) (tables : List TableChapter) (life : Life file first t chapters) → IsTableLife start file first t chapters life tables
    → NoChanceOf (format file) t.log (now t.log) → TableGoesOn file start tables t

-- and the next run of the table that serves the file, over a disk that shows what its log tells, serves the fold of all that was kept, unless the disk fails in the opening
abbrev pub NextRunServesIt : Type 0
NextRunServesIt =
    (file : DataFile) (first : View) (b : Told) (chapters : List Chapter) (start : Table) (tables : List TableChapter) (life : Life file first b chapters) → IsTableLife start file first b chapters life tables
    → NoChanceOf (format file) b.log (now b.log)
    → (t : Told) (layout : Layout) (old new : Outside) (status : Status) (found : FoundFile layout t) (serves : ServesTable layout t found old new status) → b.shown ≡ t.shown
    → (serves.opened ≡ Err Disk) ⊎ ((table : Table) × (serves.opened ≡ Ok table) × MayHaveTable start tables table)

-- ---- which runs keep it

-- each run of the table does
abbrev pub TableRunsKeepIt : Type 0
TableRunsKeepIt =
    (extent : Extent) (t n : Told) (ran : TableRun t n) (run : FileRun t n) → TableGoesAs run ran.old ran.new ran.status (ran.runs t ran.from ran.whole) → (chapters : List TableChapter) × KeepsOfRun extent run chapters

-- neither a prepare nor a step of a checkpoint comes of a run: it found no file, or made no calls, or read
abbrev pub LeavesIt : {t n : Told} → FileRun t n → Type 0
LeavesIt (LooksOnly part) = Unit {0}
LeavesIt (StopsInOpen layout stops) = Unit {0}
LeavesIt (Serves served) = LeaveTable (acts_in served.made.exchanges ++ list_of served.made.failed)

-- each such run keeps it, whichever program it is of: nothing of the table changes
abbrev pub LeavingRunsKeepIt : Type 0
LeavingRunsKeepIt = (extent : Extent) (t n : Told) (run : FileRun t n) → LeavesIt run → (chapters : List TableChapter) × KeepsOfRun extent run chapters × ((chapters ≡ []) ⊎ (chapters ≡ no_changes ∷ []))

-- so it is of a run that made no calls on a file, or none on the one that it found
abbrev pub QuietRunsLeaveIt : Type 0
QuietRunsLeaveIt = (t n : Told) (run : FileRun t n) → IsQuiet run ⊎ ((layout : Layout) × (found : FoundFile layout t) × IsSession run layout found (no_calls found)) → LeavesIt run

-- as is each of the words `recover`, `scrub` and `inspect`
abbrev pub AsksNothing : Mode → Type 0
AsksNothing Recover = Unit {0}
AsksNothing Scrub = Unit {0}
AsksNothing Inspect = Unit {0}
AsksNothing mode = ⊥

abbrev pub WordsLeaveIt : Type 0
WordsLeaveIt =
    (t n : Told) (word : Word t n) (run : FileRun t n) → AsksNothing word.mode → GoesAs run word.mode word.old word.new word.status (outcome_of word.mode t word.old word.new word.status word.carried word.from word.whole) → LeavesIt run

-- and each copy of which the file is the source
abbrev pub CopiesLeaveIt : Type 0
CopiesLeaveIt = (layout : Layout) (t n : Told) (old new : two.Outside) (status : copy_status.Status) (outcome : CopyOutcome layout t old new status) (run : FileRun t n) → CopyGoesAs run layout old new status outcome → LeavesIt run
