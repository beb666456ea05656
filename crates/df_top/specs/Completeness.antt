-- How a word ends where nothing fails: over a file that is safe to open, and `format` over a blank disk.
use Rattle.std.specs.Prelude.{◌≡◌, ◌⊎◌, ◌<◌, ℕ, List, [], Option, Some}
use Rattle.df_base.specs.{declared.TheConstants.{FIRST_VERSION, GREATEST, VERSION}, Image.{IsImage}}
use Rattle.df_disk.specs.Told.{Told}
use Rattle.df_layout.specs.declared.layout.Layout.{Layout}
use Rattle.df_lines.specs.{Grammar.{Said}, Room.{line_bound}, Script.{BeginsWithLines}}
use Rattle.df_session.specs.{Below.{DataFile, IsUnformatted, shape}, Following.{MayOpen}}
use Rattle.df_theory.specs.{Found.{IsFound}, View.{View, boot_of}}
use Rattle.df_units.specs.Bytes.{unit_at}
use Rattle.df_top.specs.{Formats.{Formats}, Mode.{AsksForFile}, Outside.{Faults, HasCauses, NoneFailed, Outside}, Run.{Runs, ServesIn, script_budget}, Upgrading.{RunsUpgrade}}
use Rattle.df_top.specs.{declared.mode.Mode.{Mode}, declared.mode.Mode.TheVariants.{Format, Run, Recover, Inspect, Scrub, Workload, Upgrade, Paced}, declared.status.Status.{Status}}
use Rattle.df_top.specs.declared.status.Status.TheVariants.{Done, Found, Memory, Script}

-- each line of the text is a line of a script, within the bound of a layout and the budget
pub record IsWholeScript (layout : Layout) (text : List ℕ) : Type 0 where
  pub lines : List Said
  pub left : ℕ
  pub begins : BeginsWithLines (line_bound layout) script_budget text lines left []

-- the script is cut at a line, and only where its text isn't whole
pub record IsCutScript (layout : Layout) (left : Option (List ℕ)) (status : Status) : Type 0 where
  pub script : status ≡ Script
  pub why : (text : List ℕ) → left ≡ Some text → IsWholeScript layout text → ⊥

-- the word was carried out: a script that is whole was read to its end, and a report may list what is to be mended, or blocks that fail
abbrev pub IsCarriedOut : Mode → Layout → Option (List ℕ) → Status → Type 0
IsCarriedOut (Format shape cluster) layout left status = ⊥
IsCarriedOut Upgrade layout left status = ⊥
IsCarriedOut Run layout left status = (status ≡ Done) ⊎ IsCutScript layout left status
IsCarriedOut Recover layout left status = status ≡ Done
IsCarriedOut Inspect layout left status = (status ≡ Done) ⊎ (status ≡ Found)
IsCarriedOut Scrub layout left status = (status ≡ Done) ⊎ (status ≡ Found)
IsCarriedOut (Workload seed count) layout left status = status ≡ Done
IsCarriedOut (Paced pace) layout left status = (status ≡ Done) ⊎ IsCutScript layout left status

-- whatever word on a file is run, over a disk that may be opened, while boots are left: where nothing failed, it was carried out, or memory was wanting
abbrev pub SafeIsRun : Type 0
SafeIsRun =
    (mode : Mode) (file : DataFile) (view : View) (t : Told) (old new : Outside) (before now : Faults) (status : Status) → AsksForFile mode → MayOpen file view t → boot_of view < GREATEST → old.told ≡ Some t
    → HasCauses before now status → NoneFailed before now → Runs mode old new status → (status ≡ Memory) ⊎ IsCarriedOut mode file.layout old.left status

-- and in rooms of the file's layout it was carried out
abbrev pub SafeIsServed : Type 0
SafeIsServed =
    (mode : Mode) (file : DataFile) (view : View) (t : Told) (old new : Outside) (before now : Faults) (status : Status) → MayOpen file view t → boot_of view < GREATEST → old.told ≡ Some t
    → HasCauses before now status → NoneFailed before now → ServesIn mode file.layout old new status → IsCarriedOut mode file.layout old.left status

-- a file of version 1 in which an open of that version finds a view is upgraded: where nothing failed the word ends Done, or memory was wanting
abbrev pub OldIsUpgraded : Type 0
OldIsUpgraded =
    (file : DataFile) (view : View) (t : Told) (old new : Outside) (before now : Faults) (status : Status) → file.version ≡ FIRST_VERSION → IsImage t.shown → IsFound (shape file) (unit_at file.layout file.cluster t.shown) view → old.told ≡ Some t
    → HasCauses before now status → NoneFailed before now → RunsUpgrade old new status → (status ≡ Memory) ⊎ (status ≡ Done)

-- and one of version 2 is left as it is: nothing is written to it, and it isn't synced
abbrev pub SecondIsLeft : Type 0
SecondIsLeft =
    (file : DataFile) (view : View) (t : Told) (old new : Outside) (status : Status) → file.version ≡ VERSION → IsImage t.shown → IsFound (shape file) (unit_at file.layout file.cluster t.shown) view → old.told ≡ Some t → RunsUpgrade old new status
    → new.told ≡ old.told

-- over a disk whose superblock is blank, and with a cluster other than 0, the word `format` makes the file, or memory was wanting
abbrev pub BlankIsFormatted : Type 0
BlankIsFormatted =
    (layout : Layout) (cluster : ℕ) (t : Told) (later : Option Told) (old new : Option (List ℕ)) (before now : Faults) (status : Status) → 0 < cluster → IsUnformatted t.shown
    → HasCauses before now status → NoneFailed before now → Formats layout cluster (Some t) later old new status → (status ≡ Done) ⊎ (status ≡ Memory)
