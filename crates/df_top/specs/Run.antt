-- What the program promises of words that work on a file.
use Rattle.std.specs.Prelude.{◌≡◌, ◌⊎◌, ◌^◌, ℕ, List, Option, Some}
use Rattle.df_base.specs.Image.{IsImage}
use Rattle.df_disk.specs.{Adds.{after_all}, Told.{Told}}
use Rattle.df_layout.specs.declared.layout.Layout.{Layout}
use Rattle.df_lines.specs.Room.{line_bound}
use Rattle.df_theory.specs.{Found.{IsFound}, View.{View}}
use Rattle.df_units.specs.Bytes.{unit_at}
use Rattle.df_model.specs.{Supply.{Shown}, declared.errors.OpenError.{OpenError}}
use Rattle.df_pace.specs.{Beats.{idle, started}, declared.pace.Pace.{Pace}}
use Rattle.df_session.specs.{Begun.{begun_work}, Below.{IsLayoutShown, State as Replica, shape}, Reading.{shown_of}, Agreeing.{AgreeShown}, Found.{FoundFile}, Links.{events_made}, Laws.{CallsKeep}}
use Rattle.df_upgrade.specs.Below.{RefusesAs}
use Rattle.df_top.specs.{Acknowledging.{script_calls}, Mode.{AsksForFile}, Opening.{FailsToFind, IsSilent, PrintsRefusal, RefusesFile}, Outside.{Outside, PrintsLine}, Reporting.{Inspects, Recovers}}
use Rattle.df_top.specs.{Scrubs.{ScrubsFile}, Working.{WorksThrough}, Resulting.{IsResultOf}, Session.{Ended, SessionState}, Usage.{usage}, declared.mode.Mode.{Mode}}
use Rattle.df_top.specs.{declared.mode.Mode.TheVariants.{Format, Run, Recover, Inspect, Scrub, Workload, Upgrade, Paced}, declared.status.Status.{Status}}
use Rattle.df_top.specs.declared.status.Status.TheVariants.{DiskFault, Memory, Refused, Words, WriteFault}

-- all that other words do: the usage line is printed, or a front of it where the sink fails
abbrev pub PrintsUsage : Option (List ℕ) → Option (List ℕ) → Status → Type 0
PrintsUsage old new status = PrintsLine usage Words old new status

-- how many bytes a script may have
abbrev pub script_budget : ℕ
script_budget = 2 ^ 32

-- ---- a session

-- a state of a session that was just opened: nothing was executed
abbrev pub start : (told : Option Told) → Outside → Replica → SessionState
start told old replica = record { outside = record { told = told; left = old.left; written = old.written }; text = old.left; budget = script_budget; lines = 0; replica = replica; beat = started replica.head }

-- The script is served, with work of this pace beside it, on a file whose boot was raised; what all these calls keep is what calls on an open file keep, and what is answered and printed, and which work is done, is a
-- function of what the disk shows at first, and of the lines. No step finds the superblock damaged that it wrote, since the disk tells what it shows.
pub record ServesScript (pace : Pace) (layout : Layout) (t : Told) (found : FoundFile layout t) (old new : Outside) (status : Status) : Type 0 where
  pub last : SessionState
  pub last_is : last.outside ≡ new
  pub session : Ended pace (line_bound layout) (start found.mended old found.replica) last status
  pub result : (view : View) (shown : Shown) → IsFound (shape found.replica.file) (unit_at found.replica.file.layout found.replica.file.cluster t.shown) view → AgreeShown found.replica.file.layout (shown_of found.replica.file t.shown) shown
      → IsResultOf pace found.replica.file shown (begun_work found.replica.file t.shown view) session.turns status
  pub adds : new.told ≡ after_all (events_made (script_calls session)) found.mended
  pub calls : CallsKeep t found.replica found.mended found.mending (script_calls session)
  pub undamaged : status ≡ Refused → ⊥

-- ---- any word

-- what each word does with the file that was found: serves the script, with work beside it or with none, prints the summary, what is to be mended or which blocks fail, or carries out a generated run
abbrev pub Works : (mode : Mode) → (layout : Layout) → (t : Told) → FoundFile layout t → (old new : Outside) → Status → Type 0
Works (Format shape cluster) layout t found old new status = ⊥
Works Upgrade layout t found old new status = ⊥
Works Run layout t found old new status = ServesScript idle layout t found old new status
Works (Paced pace) layout t found old new status = ServesScript pace layout t found old new status
Works Recover layout t found old new status = Recovers layout t found old new status
Works Inspect layout t found old new status = Inspects layout t found old new status
Works Scrub layout t found old new status = ScrubsFile layout t found old new status
Works (Workload seed count) layout t found old new status = WorksThrough seed count layout t found old new status

-- in rooms of a layout: the file is refused, or the disk fails before it is found, or the word is carried out on it
abbrev pub ComesTo : Mode → Layout → Told → Outside → Outside → Status → Type 0
ComesTo mode layout t old new status = RefusesFile layout t old new status ⊎ FailsToFind mode layout t old new status ⊎ ((found : FoundFile layout t) × Works mode layout t found old new status)

-- what a word does with a file in rooms of a layout, if it works on one
abbrev pub Does : Mode → Layout → Told → Outside → Outside → Status → Type 0
Does mode layout t old new status = AsksForFile mode × ComesTo mode layout t old new status

-- and so it does over a disk that tells what it shows
abbrev pub ServesIn : Mode → Layout → Outside → Outside → Status → Type 0
ServesIn mode layout old new status = (t : Told) → old.told ≡ Some t → IsImage t.shown → Does mode layout t old new status

-- ---- the program

-- the superblock that the disk shows can't be used, where the version is asked for
pub record RefusesSuperblockAs (version : ℕ) (t : Told) (old new : Outside) (status : Status) : Type 0 where
  pub error : OpenError
  pub is : RefusesAs version t.shown error
  pub refusal : PrintsRefusal error old new status
  pub same : new.told ≡ old.told

-- where version 2 is asked for, as an open does
abbrev pub RefusesSuperblock : Told → Outside → Outside → Status → Type 0
RefusesSuperblock t old new status = RefusesSuperblockAs 2 t old new status

-- nothing was read of the source, and nothing was written to the disk or to the sink
pub record IsWithout (old new : Outside) : Type 0 where
  pub silent : IsSilent old new
  pub same : new.told ≡ old.told

-- memory was wanting, or the disk failed in the first reads
pub record DidNothing (old new : Outside) (status : Status) : Type 0 where
  pub without : IsWithout old new
  pub why : (status ≡ Memory) ⊎ (status ≡ DiskFault)

-- rooms are taken for the layout that the superblock names, and the word is carried out in them
pub record ServesOwn (mode : Mode) (t : Told) (old new : Outside) (status : Status) : Type 0 where
  pub layout : Layout
  pub shown : IsLayoutShown t.shown layout
  pub serves : Does mode layout t old new status

-- what a word that works on a file does over a disk that tells what it shows
abbrev pub Runs : Mode → Outside → Outside → Status → Type 0
Runs mode old new status = (t : Told) → old.told ≡ Some t → IsImage t.shown → DidNothing old new status ⊎ RefusesSuperblock t old new status ⊎ ServesOwn mode t old new status
