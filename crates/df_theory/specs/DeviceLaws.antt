-- What is proved of places holds of sectors.
use Rattle.std.specs.Prelude.{◌≡◌, ℕ, List, ◌++◌, Some, None}
use Rattle.df_theory.specs.{Found.{IsFound}, WholeLaws.{IsStanding}, Units.{AnyUnit, Place, Units, is_some}, Shape.{Shape}, View.{View}, UnitLog.{wrote}, Grown.{IsSafe}, Holds.{Held}}
use Rattle.df_theory.specs.{Rests.{IsGoodLog, RestsOn}, Runs.{AtEach, Command, IsPartWay, Step, after_steps}, MakingLaws.{blank_log}}
use Rattle.df_theory.specs.Device.{AreSteps, Format, IsFormat, IsGoodDisk, IsGoodWholeDisk, IsPartWayDisk, IsPut, IsSafeDisk, LiesAtPlace, NoChanceOf, all_units, units_log}
use Rattle.df_theory.specs.TidyLaws.{IsTidy, LeadsTidily, KeepsStanding}
use Rattle.df_theory.specs.UnitLog
use Rattle.df_base.specs.{Image.{Image, IsImage, IsPiece, blank, changed, written}, Log.{AreLoose, Event, Write, Sync, Stop, Log, IsLog, add, new_log}, Moments.{EachMoment, adds}}
use Rattle.df_base.specs.Log

-- a good log of units is a good log of sectors
abbrev pub DiskLaw : Type 0
DiskLaw = (f : Format) (sh : Shape) (v u : View) (log : Log) → IsFormat f → IsLog log → IsGoodLog sh v u (units_log f log) → IsGoodDisk f sh v u log

-- a safe log of units is a safe log of sectors
abbrev pub SafeDiskLaw : Type 0
SafeDiskLaw = (f : Format) (sh : Shape) (log : Log) → IsFormat f → IsLog log → IsSafe sh (units_log f log) → IsSafeDisk f sh log

-- a write that lies at one place puts what it shows at the places that it touches, whatever was there before
abbrev pub PutShownLaw : Type 0
PutShownLaw =
    (f : Format) (at : ℕ) (bytes : List ℕ) (put : Units) → IsFormat f → IsPiece bytes → LiesAtPlace f at bytes → ((place : Place) → f.touches at bytes place ≡ is_some (put place))
    → ((image : Image) (place : Place) (x : AnyUnit) → IsImage image → put place ≡ Some x → f.unit_at (written at bytes image) place ≡ Some x) → IsPut f at bytes put

-- a write of whole units is a write of units
abbrev pub PutLaw : Type 0
PutLaw = (f : Format) (log : Log) (at : ℕ) (bytes : List ℕ) (put : Units) → IsLog log → IsPut f at bytes put → units_log f (add (Write at bytes) log) ≡ wrote put (units_log f log)

-- what the disk shows, where it shows what its log leaves, are the units of the log
abbrev pub ShownLaw : Type 0
ShownLaw =
    (f : Format) (log : Log) (shown : Image) → IsFormat f → ((sector : ℕ) → shown sector ≡ Log.now log sector) → (place : Place) → f.unit_at shown place ≡ UnitLog.now (units_log f log) place

-- what was settled of it are the units of the images that were settled
abbrev pub SettledLaw : Type 0
SettledLaw = (f : Format) (log : Log) → UnitLog.settled (units_log f log) ≡ all_units f (Log.settled log)

-- a new disk is the blank log, where a blank image shows no unit
abbrev pub NewDiskLaw : Type 0
NewDiskLaw = (f : Format) → ((place : Place) → f.unit_at blank place ≡ None) → units_log f new_log ≡ blank_log

-- device calls that are these steps have at each moment what the steps have: one command
abbrev pub MomentsLaw : Type 0
MomentsLaw =
    (f : Format) (sh : Shape) (v u : View) (log : Log) (es : List Event) (ss : List Step) → IsFormat f → IsLog log → AreSteps f es ss
    → (units_log f (adds es log) ≡ after_steps ss (units_log f log)) × (AtEach (IsGoodLog sh v u) (units_log f log) ss → EachMoment log (adds es log) (IsGoodDisk f sh v u))

-- and what the steps have of the units, so that a stop at any of these moments can be gone on from
abbrev pub UnitMomentsLaw : Type 0
UnitMomentsLaw =
    (f : Format) (sh : Shape) (v u : View) (log : Log) (es : List Event) (ss : List Step) → IsLog log → AreSteps f es ss
    → AtEach (IsGoodLog sh v u) (units_log f log) ss → EachMoment log (adds es log) (λ l. IsGoodLog sh v u (units_log f l))

-- a stop of a safe disk leaves its log resting on the view that is held then: the next session goes on from there
abbrev pub DiskStopLaw : Type 0
DiskStopLaw =
    (f : Format) (sh : Shape) (v : View) (log : Log) (changes : List (ℕ × List ℕ)) → IsSafeDisk f sh log → AreLoose log.events changes → NoChanceOf f log (changed changes (Log.now log))
    → Held sh (f.unit_at (changed changes (Log.now log))) v → RestsOn sh (units_log f (add (Stop changes) log)) v

-- the barrier of an open, over sectors: a safe disk whose image is found to have a state rests on it after a sync
abbrev pub DiskBarrierLaw : Type 0
DiskBarrierLaw = (f : Format) (sh : Shape) (v : View) (log : Log) → IsSafeDisk f sh log → IsFound sh (f.unit_at (Log.now log)) v → RestsOn sh (units_log f (add Sync log)) v

-- steps one after the other
abbrev pub StepsJoinLaw : Type 0
StepsJoinLaw = (f : Format) (es fs : List Event) (ss ts : List Step) → AreSteps f es ss → AreSteps f fs ts → AreSteps f (es ++ fs) (ss ++ ts)

-- a run of commands
abbrev pub RunMomentsLaw : Type 0
RunMomentsLaw =
    (f : Format) (sh : Shape) (v : View) (cs : List Command) (log : Log) (es : List Event) (ss : List Step) → IsFormat f → IsLog log → AreSteps f es ss
    → AtEach (IsPartWay sh v cs) (units_log f log) ss → EachMoment log (adds es log) (IsPartWayDisk f sh v cs)

-- a format
abbrev pub SafeMomentsLaw : Type 0
SafeMomentsLaw =
    (f : Format) (sh : Shape) (log : Log) (es : List Event) (ss : List Step) → IsFormat f → IsLog log → AreSteps f es ss
    → AtEach (IsSafe sh) (units_log f log) ss → EachMoment log (adds es log) (IsSafeDisk f sh)

-- a command from one tidy file to the next: what its device calls have at each moment, and what they end with
abbrev pub TidyMomentsLaw : Type 0
TidyMomentsLaw =
    (f : Format) (sh : Shape) (v : View) (c : Command) (log : Log) (es : List Event) → IsFormat f → IsLog log → AreSteps f es c.steps → LeadsTidily sh (units_log f log) v c
    → EachMoment log (adds es log) (IsGoodDisk f sh v c.view) × IsTidy sh (units_log f (adds es log)) c.view

-- and where the referenced blocks stand
abbrev pub StandingMomentsLaw : Type 0
StandingMomentsLaw =
    (f : Format) (sh : Shape) (v : View) (c : Command) (log : Log) (es : List Event) → IsFormat f → IsLog log → AreSteps f es c.steps → KeepsStanding sh (units_log f log) v c
    → EachMoment log (adds es log) (IsGoodWholeDisk f sh v c.view) × IsStanding (units_log f (adds es log)) c.view
