-- How units lie on the sectors of a disk, and a log of sectors read as a log of units.
use Rattle.std.specs.Prelude.{◌≡◌, ◌⊎◌, ℕ, Bool, true, false, if◌then◌else◌, List, [], ◌∷◌, Option, None}
use Rattle.df_theory.specs.{Units.{AnyUnit, Place, Units, is_some, or_else}, Shape.{Shape}, View.{View}, Holds.{Stands, Held}, UnitLog.{Stopped, Synced, UnitEvent, UnitLog, Wrote}, Chance.{NoChance}}
use Rattle.df_theory.specs.{Grown.{Grown}, Runs.{Command, HoldsPart, Puts, Step, Syncs}}
use Rattle.df_base.specs.{Image.{Image, IsImage, IsPiece, blank, covers, written, changed}, Log.{Event, Write, Sync, Stop, Log, IsLog, add, now, now_of, IsLeft, AreLoose}}

-- the byte layer's side: which unit an image shows at a place, which places a write touches, and which sectors a place has
pub record Format : Type 0 where
  pub unit_at : Image → Place → Option AnyUnit
  pub touches : ℕ → List ℕ → Place → Bool
  pub has : Place → ℕ → Bool

-- what a place shows is a matter of its sectors, and a write that doesn't touch it covers none of them
pub record IsFormat (f : Format) : Type 0 where
  pub local : (a b : Image) (place : Place) → ((sector : ℕ) → f.has place sector ≡ true → a sector ≡ b sector) → f.unit_at a place ≡ f.unit_at b place
  pub apart : (at : ℕ) (bytes : List ℕ) (place : Place) (sector : ℕ) → f.touches at bytes place ≡ false → f.has place sector ≡ true → covers at bytes sector ≡ false

-- the unit that a write brings to a place: what it shows over a blank image
abbrev pub stands : Format → ℕ → List ℕ → Units
stands f at bytes place = if f.touches at bytes place then f.unit_at (written at bytes blank) place else None

abbrev pub units_of : Format → Image → List Event → List UnitEvent
units_of f start [] = []
units_of f start ((Write at bytes) ∷ es) = Wrote (f.touches at bytes) (stands f at bytes) (f.unit_at (written at bytes (now_of start es))) ∷ units_of f start es
units_of f start (Sync ∷ es) = Synced ∷ units_of f start es
units_of f start ((Stop changes) ∷ es) = Stopped (f.unit_at (changed changes (now_of start es))) ∷ units_of f start es

-- the log of units that a log of sectors is
abbrev pub units_log : Format → Log → UnitLog
units_log f log = record { start = f.unit_at log.start; events = units_of f log.start log.events }

-- each of these images, read place by place
abbrev pub all_units : Format → List Image → List Units
all_units f [] = []
all_units f (image ∷ images) = f.unit_at image ∷ all_units f images

-- no unit of this image of the disk came about by chance
abbrev pub NoChanceOf : Format → Log → Image → Type 0
NoChanceOf f log image = NoChance (units_log f log) (f.unit_at image)

-- a disk's log that has grown, and still has after a sync and after any stop
pub record IsSafeDisk (f : Format) (sh : Shape) (log : Log) : Type 0 where
  pub is_log : IsLog log
  pub grown : Grown sh (units_log f log)
  pub synced : Grown sh (units_log f (add Sync log))
  pub stopped : (changes : List (ℕ × List ℕ)) → AreLoose log.events changes → NoChanceOf f log (changed changes (now log)) → Grown sh (units_log f (add (Stop changes) log))

-- the log is safe, and each image that a stop may leave holds one of two views
pub record IsGoodDisk (f : Format) (sh : Shape) (v u : View) (log : Log) : Type 0 where
  pub safe : IsSafeDisk f sh log
  pub left : (image : Image) → IsLeft log image → NoChanceOf f log image → Held sh (f.unit_at image) v ⊎ Held sh (f.unit_at image) u

-- the log is safe, and each image that a stop may leave holds the view after a part of the commands
pub record IsPartWayDisk (f : Format) (sh : Shape) (v : View) (cs : List Command) (log : Log) : Type 0 where
  pub safe : IsSafeDisk f sh log
  pub left : (image : Image) → IsLeft log image → NoChanceOf f log image → HoldsPart sh (f.unit_at image) v cs

-- the log is safe, and each image that a stop may leave holds one of two views, with each block that it references
pub record IsGoodWholeDisk (f : Format) (sh : Shape) (v u : View) (log : Log) : Type 0 where
  pub safe : IsSafeDisk f sh log
  pub left : (image : Image) → IsLeft log image → NoChanceOf f log image → (Held sh (f.unit_at image) v × Stands (f.unit_at image) v) ⊎ (Held sh (f.unit_at image) u × Stands (f.unit_at image) u)

-- a write lies at one place: each sector that it has bytes for is one of the place's
abbrev pub LiesAtPlace : Format → ℕ → List ℕ → Type 0
LiesAtPlace f at bytes = (place : Place) × ((sector : ℕ) → covers at bytes sector ≡ true → f.has place sector ≡ true)

-- what a writer of bytes shows: the write, of whole sectors, lies at one place, puts these units and touches no other place
pub record IsPut (f : Format) (at : ℕ) (bytes : List ℕ) (put : Units) : Type 0 where
  pub piece : IsPiece bytes
  pub within : LiesAtPlace f at bytes
  pub touches : (place : Place) → f.touches at bytes place ≡ is_some (put place)
  pub shows : (image : Image) (place : Place) → IsImage image → f.unit_at (written at bytes image) place ≡ or_else (put place) (f.unit_at image place)

-- these device calls, in order, are these steps
abbrev pub AreSteps : Format → List Event → List Step → Type 0
AreSteps f [] [] = Unit {0}
AreSteps f ((Write at bytes) ∷ es) ((Puts put) ∷ ss) = IsPut f at bytes put × AreSteps f es ss
AreSteps f (Sync ∷ es) (Syncs ∷ ss) = AreSteps f es ss
AreSteps f es ss = ⊥
