-- What a stop leaves of a target within its copy.
use Rattle.std.specs.Prelude.{◌≡◌, ◌⊎◌, if◌then◌else◌, ℕ, List, [], ◌∷◌, Option, Some}
use Rattle.df_base.specs.{Image.{Image}, Log.{Event, IsLeft, Log, loose, now}, Moments.{EachMoment}}
use Rattle.df_disk.specs.{Told.{Told}, Adds.{after_all}}
use Rattle.df_layout.specs.{declared.damage.Class.{Class}, declared.layout.Layout.{Layout}}
use Rattle.df_format.specs.Copies.{is_blank_copy}
use Rattle.df_theory.specs.{Copies.{IsSplit}, Device.{NoChanceOf, units_log}, UnitLog.{settled}, Units.{Units}, View.{View}}
use Rattle.df_units.specs.Bytes.{unit_at}
use Rattle.df_model.specs.declared.errors.OpenError.TheVariants.{NoQuorum, NotFormatted}
use Rattle.df_opening.specs.Below.{AreDistinctUnits, DataFile, Refuses, format_of, restarted, told_after}
use Rattle.df_copy.specs.Views.{ShowsCopy}

-- ---- how far it has come

-- how far the write of a copy of the superblock has come: it isn't begun, it is under way, or it is durable
pub data Progress : Type 0 where
  NotBegun : Progress
  UnderWay : Progress
  Durable : Progress

-- by the log of a target that was empty
abbrev pub progress : Log → (copy : ℕ) → Progress
progress log copy = if is_blank_copy (now log copy) then NotBegun else (if loose log copy then UnderWay else Durable)

-- an open refuses the image, since no two copies of the superblock agree in it
abbrev pub HasOneCopy : Image → Type 0
HasOneCopy image = (classes : List Class) × Refuses image (NoQuorum classes)

-- What is left, by how far the first copy and the second have come: before the first nothing is formatted; within it that, or no two copies agree; then none do; within the second that, or it is the copy; from then on it is the copy.
abbrev pub IsLeftAt : Layout → DataFile → (source : Image) → View → (first second : Progress) → Image → Type 0
IsLeftAt layout file source v NotBegun NotBegun image = Refuses image NotFormatted
IsLeftAt layout file source v UnderWay NotBegun image = Refuses image NotFormatted ⊎ HasOneCopy image
IsLeftAt layout file source v Durable NotBegun image = HasOneCopy image
IsLeftAt layout file source v Durable UnderWay image = HasOneCopy image ⊎ ShowsCopy layout file source v image
IsLeftAt layout file source v Durable Durable image = ShowsCopy layout file source v image
IsLeftAt layout file source v first second image = ⊥

-- ---- what a stop leaves

-- in none of these images two copies of the superblock agree
abbrev pub AreSplit : List Units → Type 0
AreSplit [] = Unit {0}
AreSplit (image ∷ images) = IsSplit image × AreSplit images

-- An image that a stop may leave by this log, under no chance: what it is goes by how far the copies have come. Where no two of them agree, none did in what was durable before. No two of its units have one checksum.
pub record IsLeftOf (layout : Layout) (file : DataFile) (source : Image) (v : View) (log : Log) (image : Image) : Type 0 where
  pub is : IsLeftAt layout file source v (progress log 0) (progress log 1) image
  pub early : IsSplit (unit_at layout file.cluster image) → AreSplit (settled (units_log (format_of layout file.cluster) log))
  pub distinct : AreDistinctUnits (unit_at layout file.cluster image)

abbrev pub LeavesCopy : Layout → DataFile → (source : Image) → View → Log → Type 0
LeavesCopy layout file source v log = (image : Image) → IsLeft log image → NoChanceOf (format_of layout file.cluster) log image → IsLeftOf layout file source v log image

-- so it is at each moment of what was written, by the log that begins with the target as it was
pub record StopsCopy (layout : Layout) (file : DataFile) (source : Image) (v : View) (o : Told) (new : Option Told) : Type 0 where
  pub events : List Event
  pub told : new ≡ after_all events (Some o)
  pub moments : EachMoment (restarted o).log (told_after events (restarted o)).log (LeavesCopy layout file source v)
