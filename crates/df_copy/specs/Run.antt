-- What the program promises of a copy.
use Rattle.std.specs.Prelude.{◌≡◌, ◌≢◌, ◌⊎◌, ◌<◌, ◌++◌, ℕ, false, List, [], ◌∷◌, Option, Some, Result, Ok, Err}
use Rattle.df_base.specs.{Image.{IsImage}, Log.{Event, Log, Sync, Write, loose, now}, Moments.{EachMoment, adds}}
use Rattle.df_disk.specs.{Told.{Told, did}, Adds.{after_all}}
use Rattle.df_inspect.specs.Opening.{open_refusal}
use Rattle.df_layout.specs.{declared.layout.Layout.{Layout}, Zones.{file_sectors}}
use Rattle.df_model.specs.{declared.errors.OpenError.{OpenError}, Work.{kept}}
use Rattle.df_model.specs.declared.errors.OpenError.TheVariants as opens
use Rattle.df_theory.specs.{Found.{IsFound}, View.{View}}
use Rattle.df_units.specs.Bytes.{unit_at}
use Rattle.df_opening.specs.{Below.{IsLayoutShown, Refuses, State, Surveys, shape}, Opened.{MendsAll, StopsOpening, begun_state}}
use Rattle.df_program.specs.{Names.{NamesLayout}, Telling.{Writes}, Two.{Outside, TouchesNeither}}
use Rattle.df_copy.specs.{declared.ending.Ending.{Ending}, declared.ending.Ending.TheVariants.{Source, Target}, declared.status.Status.{Status}, Copying.{CopiesInto}, Stops.{StopsCopy}}
use Rattle.df_copy.specs.{Texts.{copied_text, ending_text}, Views.{HoldsCopy, IsEmptyImage}}
use Rattle.df_copy.specs.declared.status.Status.TheVariants as ends

-- ---- words

-- they are one word, and it names this layout
abbrev pub MeansLayout : List (List ℕ) → Layout → Type 0
MeansLayout words layout = (name : List ℕ) × (words ≡ name ∷ []) × NamesLayout name layout

-- they name none
abbrev pub MeansNoLayout : List (List ℕ) → Type 0
MeansNoLayout words = (layout : Layout) → MeansLayout words layout → ⊥

-- ---- a source that isn't opened

-- memory was wanting, or the source's disk failed in the first reads: nothing was done
abbrev pub CopiedNothing : Outside → Outside → Status → Type 0
CopiedNothing old new status = (new ≡ old) × ((status ≡ ends.Memory) ⊎ (status ≡ ends.DiskFault))

-- the source is refused for a cause of this kind, whose line is printed; the target is as it was, and this is what the source's disk tells
pub record RefusedFor (Why : OpenError → Type 0) (told : Option Told) (old new : Outside) (status : Status) : Type 0 where
  pub error : OpenError
  pub why : Why error
  pub other : error ≢ opens.DiskFault
  pub prints : Writes ends.WriteFault (open_refusal error) ends.Refused old.written new.written status
  pub second : new.second ≡ old.second
  pub first : new.first ≡ told

-- the superblock that it shows can't be used, and nothing is written to it
abbrev pub RefusesSourceSuperblock : Told → Outside → Outside → Status → Type 0
RefusesSourceSuperblock t old new status = RefusedFor (λ e. Refuses t.shown e) old.first old new status

-- it is refused after the barrier of its open, and nothing is written to it
abbrev pub RefusesSourceFile : (own : Layout) → Told → Outside → Outside → Status → Type 0
RefusesSourceFile own t old new status = RefusedFor (λ e. Surveys own t.shown (Err e)) (Some (did Sync t)) old new status

-- the source's disk failed before it was open
pub record FailsToOpen (own : Layout) (t : Told) (old new : Outside) (status : Status) : Type 0 where
  pub fault : status ≡ ends.DiskFault
  pub silent : TouchesNeither old new
  pub disk : StopsOpening own t new.first

-- ---- a source that is

-- what is printed of a copy: how many sectors the target has, or why there is none; of a failing disk nothing
abbrev pub PrintsCopy : {T : Type 0} → Layout → Result T Ending → (old new : Option (List ℕ)) → Status → Type 0
PrintsCopy layout (Ok x) old new status = Writes ends.WriteFault (copied_text (file_sectors layout)) ends.Done old new status
PrintsCopy layout (Err Source) old new status = (status ≡ ends.DiskFault) × (new ≡ old)
PrintsCopy layout (Err Target) old new status = (status ≡ ends.DiskFault) × (new ≡ old)
PrintsCopy layout (Err e) old new status = Writes ends.WriteFault (ending_text e) ends.Refused old new status

-- the sectors of the superblock are as they were: they show the same, and no stop may change what it couldn't change before
pub record KeepsCopies (before log : Log) : Type 0 where
  pub shown : (n : ℕ) → n < 4 → now log n ≡ now before n
  pub firm : (n : ℕ) → n < 4 → loose before n ≡ false → loose log n ≡ false

-- the first copy is written
abbrev pub BeginsCopies : List Event → Type 0
BeginsCopies [] = ⊥
BeginsCopies (e ∷ es) = (bytes : List ℕ) × (e ≡ Write 0 bytes)

-- up to the write of the first copy, or to the end where none is written, the sectors of the superblock are as they were at each moment
pub record SparesCopies (o : Told) (new : Option Told) : Type 0 where
  pub front : List Event
  pub superblock : List Event
  pub is : new ≡ after_all (front ++ superblock) (Some o)
  pub begins : (superblock ≡ []) ⊎ BeginsCopies superblock
  pub spared : EachMoment o.log (adds front o.log) (KeepsCopies o.log)

-- the view of a source after its open, which found this one
abbrev pub source_view : State → Told → View → View
source_view s t view = kept (begun_state s.file t view s.fields)

-- The source was found, mended, and its boot raised, and calls may be made on it: what of that is kept of it at each moment is what an open keeps, since nothing is written to it from then on. Then the copy was made or refused: what was
-- written of the target, and for what it was refused, is exact. A target on which nothing had been written holds the copy whole where it is made; and wherever it is stopped, whatever it comes to, the target is refused or shows the copy.
pub record CopiesFile (layout : Layout) (t : Told) (old new : Outside) (status : Status) : Type 0 where
  pub state : State
  pub opened : MendsAll t state new.first
  pub result : Result (Unit {0}) Ending
  pub copies : CopiesInto layout state new.first old.second new.second result
  pub prints : PrintsCopy layout result old.written new.written status
  pub spares : (o : Told) → old.second ≡ Some o → SparesCopies o new.second
  pub holds : (m o n : Told) → result ≡ Ok tt → new.first ≡ Some m → old.second ≡ Some o → new.second ≡ Some n → IsEmptyImage (now o.log)
      → (view : View) → IsFound (shape state.file) (unit_at state.file.layout state.file.cluster t.shown) view
      → HoldsCopy layout state.file m.shown (source_view state t view) (now n.log)
  pub stops : (m o : Told) → new.first ≡ Some m → old.second ≡ Some o → IsEmptyImage o.shown → (view : View) → IsFound (shape state.file) (unit_at state.file.layout state.file.cluster t.shown) view
      → StopsCopy layout state.file m.shown (source_view state t view) o new.second

-- ---- the program

-- in rooms of the source's layout and of this one: the source is refused, or its disk fails before it is open, or it is copied
abbrev pub DoesCopy : (layout own : Layout) → Told → Outside → Outside → Status → Type 0
DoesCopy layout own t old new status = RefusesSourceFile own t old new status ⊎ FailsToOpen own t old new status ⊎ CopiesFile layout t old new status

-- rooms are taken for the layout that the source's superblock names
pub record CopiesOwn (layout : Layout) (t : Told) (old new : Outside) (status : Status) : Type 0 where
  pub own : Layout
  pub shown : IsLayoutShown t.shown own
  pub does : DoesCopy layout own t old new status

-- memory was wanting or the source's disk failed in the first reads, or its superblock is refused, or it is opened in rooms of its own layout
abbrev pub CopyOutcome : Layout → Told → Outside → Outside → Status → Type 0
CopyOutcome layout t old new status = CopiedNothing old new status ⊎ RefusesSourceSuperblock t old new status ⊎ CopiesOwn layout t old new status

abbrev pub RunsCopy : Layout → Outside → Outside → Status → Type 0
RunsCopy layout old new status = (t : Told) → old.first ≡ Some t → IsImage t.shown → CopyOutcome layout t old new status
