-- What the program promises of a table's file.
use Rattle.std.specs.Prelude.{◌≡◌, ◌≢◌, ◌⊎◌, ℕ, List, [], ◌∷◌, codes, Some, Result, Err}
use Rattle.df_base.specs.{Image.{IsImage}, Log.{Sync}}
use Rattle.df_disk.specs.Told.{Told, did}
use Rattle.df_inspect.specs.Opening.{open_refusal}
use Rattle.df_layout.specs.declared.layout.Layout.{Layout}
use Rattle.df_model.specs.declared.errors.OpenError.{OpenError}
use Rattle.df_model.specs.declared.errors.OpenError.TheVariants as opens
use Rattle.df_rows.specs.Tables.{Table}
use Rattle.df_session.specs.{Below.{IsLayoutShown, Refuses, Surveys, memory}, Found.{FoundFile}, Laws.{CallsKeep}, Links.{CallsMade}, Opened.{StopsOpening}, Reading.{shown_of}}
use Rattle.df_table.specs.{declared.ending.Ending.{Ending}, declared.status.Status.{Status}, Keeping.{KeepsTable}, Opening.{FindsOf}, Outside.{Outside, WritesTableText}}
use Rattle.df_table.specs.Session.{AreCallsOf, ServesFoundTable}
use Rattle.df_table.specs.declared.status.Status.TheVariants as ends

-- ---- words

abbrev pub table_usage : List ℕ
table_usage = codes "usage: objecttable FILE table\n"

-- the words are exactly this one
abbrev pub IsTableWord : List (List ℕ) → Type 0
IsTableWord words = words ≡ codes "table" ∷ []

-- ---- a file that isn't served

-- nothing is printed, and nothing is read of the source
pub record PrintsNothing (old new : Outside) : Type 0 where
  pub written : new.written ≡ old.written
  pub unread : new.left ≡ old.left

-- the line of a refusal is printed, and nothing is read of the source
pub record Refuse (error : OpenError) (old new : Outside) (status : Status) : Type 0 where
  pub prints : WritesTableText (open_refusal error) ends.Refused old.written new.written status
  pub unread : new.left ≡ old.left

-- the superblock that the disk shows can't be used; nothing is written to the disk
pub record RefusesTableSuperblock (t : Told) (old new : Outside) (status : Status) : Type 0 where
  pub error : OpenError
  pub is : Refuses t.shown error
  pub refuse : Refuse error old new status
  pub same : new.told ≡ old.told

-- the file is refused after the barrier, and nothing is written to it
pub record RefusesTableFile (layout : Layout) (t : Told) (old new : Outside) (status : Status) : Type 0 where
  pub error : OpenError
  pub is : Surveys layout t.shown (Err error)
  pub other : error ≢ opens.DiskFault
  pub refuse : Refuse error old new status
  pub barrier : new.told ≡ Some (did Sync t)

-- the disk failed before the file was found
pub record FailsToFindTable (layout : Layout) (t : Told) (old new : Outside) (status : Status) : Type 0 where
  pub fault : status ≡ ends.DiskFault
  pub silent : PrintsNothing old new
  pub disk : StopsOpening layout t new.told

-- memory was wanting, or the disk failed in the first reads: nothing was done
pub record ServedNothing (old new : Outside) (status : Status) : Type 0 where
  pub silent : PrintsNothing old new
  pub same : new.told ≡ old.told
  pub why : (status ≡ ends.Memory) ⊎ (status ≡ ends.DiskFault)

-- ---- a file that is

-- The file was found and mended. What the opening finds of a table, or why there is none, is that of what the disk shows; the lines are served; what of all calls is kept is what
-- calls on an open file keep, and so the table is.
pub record ServesTable (layout : Layout) (t : Told) (found : FoundFile layout t) (old new : Outside) (status : Status) : Type 0 where
  pub opened : Result Table Ending
  pub finds : FindsOf layout (shown_of found.replica.file t.shown) (memory found.replica) opened
  pub serves : ServesFoundTable layout found.replica found.mended old new status opened
  pub made : CallsMade
  pub of : AreCallsOf layout found.replica found.mended old new status opened serves made
  pub calls : CallsKeep t found.replica found.mended found.mending made
  pub keeps : KeepsTable t found.replica found.mending.events made

-- ---- the program

-- in rooms of a layout: the file is refused, or the disk fails before it is found, or its table is served
abbrev pub DoesTable : Layout → Told → Outside → Outside → Status → Type 0
DoesTable layout t old new status = RefusesTableFile layout t old new status ⊎ FailsToFindTable layout t old new status ⊎ ((found : FoundFile layout t) × ServesTable layout t found old new status)

-- rooms are taken for the layout that the superblock names
pub record ServesOwnTable (t : Told) (old new : Outside) (status : Status) : Type 0 where
  pub layout : Layout
  pub shown : IsLayoutShown t.shown layout
  pub does : DoesTable layout t old new status

-- memory was wanting or the disk failed in the first reads, or the superblock is refused, or the table is served in rooms of the file's own layout
abbrev pub TableOutcome : Told → Outside → Outside → Status → Type 0
TableOutcome t old new status = ServedNothing old new status ⊎ RefusesTableSuperblock t old new status ⊎ ServesOwnTable t old new status

abbrev pub RunsTable : Outside → Outside → Status → Type 0
RunsTable old new status = (t : Told) → old.told ≡ Some t → IsImage t.shown → TableOutcome t old new status
