-- Which sectors of a disk are hurt: those that show something else than the log leaves, because they were damaged, lost or swapped.
use Rattle.std.specs.Prelude.{◌≡◌, ◌<◌, ◌≤◌, ℕ, true}
use Rattle.df_base.specs.Log.{now}
use Rattle.df_disk.specs.Told.{Told}
use Rattle.df_layout.specs.{declared.layout.Layout.{Layout}, declared.places.Zone.{Zone}, Zones.{end_sector, file_sectors, first_sector}}
use Rattle.df_theory.specs.Units
use Rattle.df_units.specs.Bytes.{has}

-- the sector shows what the log leaves there
abbrev pub IsUnhurt : Told → ℕ → Type 0
IsUnhurt t sector = t.shown sector ≡ now t.log sector

-- a sector of the file is hurt
pub record IsHurtFile (layout : Layout) (t : Told) : Type 0 where
  pub sector : ℕ
  pub inside : sector < file_sectors layout
  pub hurt : IsUnhurt t sector → ⊥

-- a sector of this place is
pub record IsHurtPlace (layout : Layout) (t : Told) (place : Units.Place) : Type 0 where
  pub sector : ℕ
  pub inside : has layout place sector ≡ true
  pub hurt : IsUnhurt t sector → ⊥

-- none of this zone is
abbrev pub IsUnhurtZone : Layout → Told → Zone → Type 0
IsUnhurtZone layout t zone = (sector : ℕ) → first_sector layout zone ≤ sector → sector < end_sector layout zone → IsUnhurt t sector

-- whatever is hurt is inside this zone
abbrev pub IsHurtInside : Layout → Told → Zone → Type 0
IsHurtInside layout t zone = (other : Zone) → (other ≡ zone → ⊥) → IsUnhurtZone layout t other

-- at most two of the four superblock copies are hurt: these two are not
pub record HasTwoCopies (t : Told) : Type 0 where
  pub first : ℕ
  pub second : ℕ
  pub apart : first < second
  pub inside : second < 4
  pub at_first : IsUnhurt t first
  pub at_second : IsUnhurt t second
