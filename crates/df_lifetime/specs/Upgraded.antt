-- A file of version 1 goes on: where the word `upgrade` ends, a life begins; and where it is stopped, one begins, or the file is as it was and the word may be run again.
use Rattle.std.specs.Prelude.{◌≡◌, ◌⊎◌, []}
use Rattle.df_base.specs.{declared.TheConstants.{FIRST_VERSION, VERSION}, Image.{Image, IsImage}, Log.{IsLeft, Sync}, Moments.{Extends}}
use Rattle.df_disk.specs.Told.{Told, did}
use Rattle.df_theory.specs.{Device.{NoChanceOf}, Found.{IsClean, IsFound}, Holds.{Stands}, Next.{IsSameBare}, Upgrades.{as_version}, View.{View}}
use Rattle.df_history.specs.OpenLaws.{BeginsHistory}
use Rattle.df_units.specs.Bytes.{unit_at}
use Rattle.df_session.specs.{Below.{AreDistinctUnits, DataFile, restarted, shape}, Serving.{format}}
use Rattle.df_upgrade.specs.Upgrading.{second}
use Rattle.df_top.specs.{declared.status.Status.{Status}, declared.status.Status.TheVariants.{Done}}
use Rattle.df_lifetime.specs.{Life.{GoesAlong, Life, MayTake}, Words.{UpgradeWord}}

-- A file of version 1: an open that asks for that finds this view in the image, each block is there that it references, and no two units have one checksum.
pub record IsOld (file : DataFile) (view : View) (image : Image) : Type 0 where
  pub version : file.version ≡ FIRST_VERSION
  pub whole : IsImage image
  pub found : IsFound (shape file) (unit_at file.layout file.cluster image) view
  pub stands : Stands (unit_at file.layout file.cluster image) view
  pub distinct : AreDistinctUnits (unit_at file.layout file.cluster image)

-- the file is of version 2, and may be taken so: its view is the one that the old file had, but for the boot; and a history begins there, since all units are of earlier boots
pub record IsUpgraded (file : DataFile) (view : View) (image : Image) : Type 0 where
  pub first : View
  pub bare : IsSameBare (as_version VERSION view) first
  pub may : MayTake (second file) first image
  pub begins : BeginsHistory (shape (second file)) (unit_at file.layout file.cluster image)

-- where a life begins
abbrev pub UpgradedBegins : Type 0
UpgradedBegins = (file : DataFile) (view : View) (t : Told) (new : IsUpgraded file view t.shown) → Life (second file) new.first (restarted t) []

-- an upgrade that ends Done leaves that, whatever the copies of the old file showed
abbrev pub DoneIsUpgraded : Type 0
DoneIsUpgraded = (file : DataFile) (view : View) (t n : Told) → IsOld file view t.shown → UpgradeWord t n Done → AreDistinctUnits (unit_at file.layout file.cluster n.shown) → IsUpgraded file view n.shown

-- and whatever it came to, from a clean start a stop at any moment from its barrier on leaves that, or the old file, from which it may be run again: so it may be stopped any number of times
abbrev pub StoppedIsUpgraded : Type 0
StoppedIsUpgraded =
    (file : DataFile) (view : View) (t p n m : Told) (status : Status) (image : Image) → IsOld file view t.shown → IsClean (unit_at file.layout file.cluster t.shown) view → UpgradeWord t n status
    → Extends n.log p.log → GoesAlong (did Sync t) p (restarted t) m → IsLeft m.log image → NoChanceOf (format file) m.log image
    → (IsOld file view image × IsClean (unit_at file.layout file.cluster image) view) ⊎ IsUpgraded file view image
