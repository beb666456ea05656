-- A word of `datafile` is a run over a file, whichever word it is; `format` and `upgrade` aren't for a file of version 2 that is there.
use Rattle.std.specs.Prelude.{◌≡◌, ◌⊎◌, ℕ, List, Option, Some, None}
use Rattle.std.proofs.Common.{inl, inr}
use Rattle.df_base.specs.Image.{IsImage}
use Rattle.df_disk.specs.Told.{Told}
use Rattle.df_layout.specs.declared.layout.Layout.{Layout}
use Rattle.df_session.specs.{Found.{FoundFile, no_calls}, Programs.{FileRun, IsSession, calls_in_run}}
use Rattle.df_top.specs.{Acknowledging.{run_calls, script_calls}, Formats.{Formats, MakesFile}, Outside.{Outside}, Upgrading.{RunsUpgrade}}
use Rattle.df_top.specs.{Run.{ComesTo, DidNothing, Does, RefusesSuperblock, Runs, ServesIn, ServesOwn, Works}, declared.mode.Mode.{Mode}}
use Rattle.df_top.specs.{declared.mode.Mode.TheVariants.{Paced, Recover, Run, Scrub, Workload}, declared.status.Status.{Status}}

-- ---- a word on a file

-- a word on a file was carried out: by `run`, in rooms that it took, or by `serve`, in rooms of any layout
abbrev pub IsCarried : Mode → Outside → Outside → Status → Type 0
IsCarried mode old new status = Runs mode old new status ⊎ ((layout : Layout) × ServesIn mode layout old new status)

-- what either promises of it
abbrev pub Outcome : Mode → Told → Outside → Outside → Status → Type 0
Outcome mode t old new status = DidNothing old new status ⊎ RefusesSuperblock t old new status ⊎ ((layout : Layout) × Does mode layout t old new status)

abbrev pub did_of : (mode : Mode) (t : Told) (old new : Outside) (status : Status) → DidNothing old new status ⊎ RefusesSuperblock t old new status ⊎ ServesOwn mode t old new status → Outcome mode t old new status
did_of mode t old new status (inl nothing) = inl nothing
did_of mode t old new status (inr (inl refuses)) = inr (inl refuses)
did_of mode t old new status (inr (inr own)) = inr (inr (own.layout, own.serves))

abbrev pub outcome_of : (mode : Mode) (t : Told) (old new : Outside) (status : Status) → IsCarried mode old new status → old.told ≡ Some t → IsImage t.shown → Outcome mode t old new status
outcome_of mode t old new status (inl runs) from whole = did_of mode t old new status (runs t from whole)
outcome_of mode t old new status (inr serves) from whole = inr (inr (serves.0, serves.1 t from whole))

-- a word on a file, with its status, over a disk that told this before and that after it
pub record Word (t n : Told) : Type 0 where
  pub mode : Mode
  pub old : Outside
  pub new : Outside
  pub status : Status
  pub from : old.told ≡ Some t
  pub to : new.told ≡ Some n
  pub whole : IsImage t.shown
  pub carried : IsCarried mode old new status

-- ---- the run that it is

-- it made no calls on a file
abbrev pub IsQuiet : {t n : Told} → FileRun t n → Type 0
IsQuiet run = calls_in_run run ≡ None

-- A word that serves a script, with work beside it or with none, or carries out a generated run makes the calls of that on the file that it found; `recover` and `scrub` make none, and `inspect` only looks at it.
abbrev pub WorksAs : {t n : Told} → FileRun t n → (mode : Mode) → (layout : Layout) → (found : FoundFile layout t) → (old new : Outside) → (status : Status) → Works mode layout t found old new status → Type 0
WorksAs run Run layout found old new status serves = IsSession run layout found (script_calls serves.session)
WorksAs run (Paced pace) layout found old new status serves = IsSession run layout found (script_calls serves.session)
WorksAs run (Workload seed count) layout found old new status works = IsSession run layout found (run_calls works.worked)
WorksAs run Recover layout found old new status recovers = IsSession run layout found (no_calls found)
WorksAs run Scrub layout found old new status scrubs = IsSession run layout found (no_calls found)
WorksAs run mode layout found old new status works = IsQuiet run

-- one that found none makes no calls
abbrev pub ComesAs : {t n : Told} → FileRun t n → (mode : Mode) → (layout : Layout) → (old new : Outside) → (status : Status) → ComesTo mode layout t old new status → Type 0
ComesAs run mode layout old new status (inl refuses) = IsQuiet run
ComesAs run mode layout old new status (inr (inl fails)) = IsQuiet run
ComesAs run mode layout old new status (inr (inr works)) = WorksAs run mode layout works.0 old new status works.1

abbrev pub DoesAs : {t n : Told} → FileRun t n → (mode : Mode) → (layout : Layout) → (old new : Outside) → (status : Status) → Does mode layout t old new status → Type 0
DoesAs run mode layout old new status does = ComesAs run mode layout old new status does.1

abbrev pub GoesAs : {t n : Told} → FileRun t n → (mode : Mode) → (old new : Outside) → (status : Status) → Outcome mode t old new status → Type 0
GoesAs run mode old new status (inl nothing) = IsQuiet run
GoesAs run mode old new status (inr (inl refuses)) = IsQuiet run
GoesAs run mode old new status (inr (inr does)) = DoesAs run mode does.0 old new status does.1

-- each word is a run over the file
abbrev pub WordIsRun : Type 0
WordIsRun =
    (t n : Told) (word : Word t n)
    → (run : FileRun t n) × GoesAs run word.mode word.old word.new word.status (outcome_of word.mode t word.old word.new word.status word.carried word.from word.whole)

-- ---- other words

-- the word `format`
pub record FormatWord (layout : Layout) (cluster : ℕ) (t n : Told) (status : Status) : Type 0 where
  pub old : Option (List ℕ)
  pub new : Option (List ℕ)
  pub formats : Formats layout cluster (Some t) (Some n) old new status
  pub makes : MakesFile layout cluster (Some t) (Some n) status

-- the word `upgrade`
pub record UpgradeWord (t n : Told) (status : Status) : Type 0 where
  pub old : Outside
  pub new : Outside
  pub from : old.told ≡ Some t
  pub to : new.told ≡ Some n
  pub runs : RunsUpgrade old new status

-- a word that isn't for a file of version 2 that is there
pub data OtherWord (t n : Told) : Type 0 where
  ToFormat : (layout : Layout) (cluster : ℕ) (status : Status) → FormatWord layout cluster t n status → OtherWord t n
  ToUpgrade : (status : Status) → UpgradeWord t n status → OtherWord t n
