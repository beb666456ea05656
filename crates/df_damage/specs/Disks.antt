-- A disk that may be hurt: what is known of it before an open.
use Rattle.std.specs.Prelude.{◌≡◌, ◌<◌, ℕ, List, Some}
use Rattle.df_base.specs.{Image.{Image, IsImage, blank, changed}, Log.{AreLoose, IsLog, Log, Stop, Sync, add, now}}
use Rattle.df_disk.specs.Told.{Told}
use Rattle.df_theory.specs.{Device.{IsSafeDisk, NoChanceOf, units_log}, Found.{IsFound}, Holds.{Held, IsWhole}, TidyLaws.{IsTidy}, Units.{Content, CopyPlace, CopyUnit}, View.{View}}
use Rattle.df_units.specs.{Bytes.{unit_at}, Format.{format_of}}
use Rattle.df_recovery.specs.Below.{DataFile, shape}
use Rattle.df_damage.specs.Versions.{IsKnownVersion}

-- the file is of the version that an open asks for, the log of the disk is safe and began with an empty disk, and this view is found in what it leaves; what is shown is any image, so long as no unit of it came about by chance, seen from after the barrier of an open
pub record MayBeHurtAs (version : ℕ) (file : DataFile) (view : View) (t : Told) : Type 0 where
  pub known : IsKnownVersion version
  pub version_is : file.version ≡ version
  pub safe : IsSafeDisk (format_of file.layout file.cluster) (shape file) t.log
  pub empty : t.log.start ≡ blank
  pub found : IsFound (shape file) (unit_at file.layout file.cluster (now t.log)) view
  pub whole : IsImage t.shown
  pub no_chance : NoChanceOf (format_of file.layout file.cluster) (add Sync t.log) t.shown

-- where version 2 is asked for, as an open does
abbrev pub MayBeHurt : DataFile → View → Told → Type 0
MayBeHurt file view t = MayBeHurtAs 2 file view t

-- the log leaves four equal superblock copies
pub record HasEqualCopies (file : DataFile) (log : Log) : Type 0 where
  pub content : Content
  pub copies : (n : ℕ) → n < 4 → unit_at file.layout file.cluster (now log) (CopyPlace n) ≡ Some (CopyUnit content)

-- ---- such a disk is left by each session, and by each stop

-- a tidy file on a disk that began empty: whatever it shows now, it may be hurt, and its log leaves four equal copies and nothing to mend
abbrev pub TidyMayBeHurt : Type 0
TidyMayBeHurt =
    (version : ℕ) (file : DataFile) (view : View) (t : Told) → IsKnownVersion version → file.version ≡ version → IsLog t.log → t.log.start ≡ blank → IsTidy (shape file) (units_log (format_of file.layout file.cluster) t.log) view → IsImage t.shown → NoChanceOf (format_of file.layout file.cluster) (add Sync t.log) t.shown
    → MayBeHurtAs version file view t × HasEqualCopies file t.log × IsWhole (shape file) (unit_at file.layout file.cluster (now t.log)) view

-- and after a stop at a moment at which the log was safe, with the view that the stop left
abbrev pub StoppedMayBeHurt : Type 0
StoppedMayBeHurt =
    (version : ℕ) (file : DataFile) (view : View) (log : Log) (changes : List (ℕ × List ℕ)) (shown : Image) → IsKnownVersion version → file.version ≡ version → IsSafeDisk (format_of file.layout file.cluster) (shape file) log → log.start ≡ blank → AreLoose log.events changes
    → NoChanceOf (format_of file.layout file.cluster) log (changed changes (now log)) → Held (shape file) (unit_at file.layout file.cluster (changed changes (now log))) view → IsImage shown → NoChanceOf (format_of file.layout file.cluster) (add Sync (add (Stop changes) log)) shown
    → MayBeHurtAs version file view (record { log = add (Stop changes) log; shown = shown })
