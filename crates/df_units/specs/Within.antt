-- Which device calls write nothing but the zones of a file: each write lies at the place of one unit.
use Rattle.std.specs.Prelude.{◌≡◌, ◌≤◌, ◌<◌, ℕ, true, List, [], ◌∷◌, Option}
use Rattle.df_base.specs.{Image.{covers}, Log.{Event, Stop, Sync, Write}}
use Rattle.df_disk.specs.{Adds.{after_all}, Told.{Told}}
use Rattle.df_layout.specs.{Zones.{end_sector, first_sector}, declared.layout.Layout.{Layout}}
use Rattle.df_theory.specs.{Device.{AreSteps}, Runs.{Step}, Units.{Place}}
use Rattle.df_units.specs.{Bytes.{has}, Format.{format_of}, Meaning.{place_of}}

-- A write has no sector beside those of one place of the layout: a copy of the superblock, a slot of the header ring, the slot of a prepare or of a reply, or a block. So it
-- reaches neither the padding nor what stands after the file. A sync writes nothing, and a stop is no call.
abbrev pub IsWithin : Layout → Event → Type 0
IsWithin layout (Write at bytes) = (place : Place) × ((sector : ℕ) → covers at bytes sector ≡ true → has layout place sector ≡ true)
IsWithin layout Sync = Unit {0}
IsWithin layout (Stop changes) = ⊥

-- so it is of each of these
abbrev pub AreWithin : Layout → List Event → Type 0
AreWithin layout [] = Unit {0}
AreWithin layout (e ∷ es) = IsWithin layout e × AreWithin layout es

-- what is told changed by such calls alone
pub record AddsWithin (layout : Layout) (old new : Option Told) : Type 0 where
  pub events : List Event
  pub told : new ≡ after_all events old
  pub within : AreWithin layout events

-- ---- laws

-- device calls that are steps are such ones
abbrev pub StepsLieWithin : Type 0
StepsLieWithin = (layout : Layout) (cluster : ℕ) (events : List Event) (steps : List Step) → AreSteps (format_of layout cluster) events steps → AreWithin layout events

-- each sector of a place is one of its zone
abbrev pub PlacesLieInZones : Type 0
PlacesLieInZones =
    (layout : Layout) (place : Place) (sector : ℕ) → has layout place sector ≡ true → (first_sector layout (place_of place).zone ≤ sector) × (sector < end_sector layout (place_of place).zone)
