-- A mending in the life of a file: what a life had come to before its file was damaged is found again where known units alone were hurt, and a second file had them.
use Rattle.std.specs.Prelude.{◌≡◌, ◌⊎◌, ◌<◌, List, Some}
use Rattle.df_base.specs.{declared.TheConstants.{GREATEST}, Image.{Image}, Log.{Log, now}}
use Rattle.df_disk.specs.Told.{Told}
use Rattle.df_theory.specs.{Device.{NoChanceOf}, Found.{IsFound}, Units.{Content}, View.{View, boot_of}}
use Rattle.df_units.specs.Bytes.{unit_at}
use Rattle.df_session.specs.{Below.{DataFile, IsNotRefused, shape}, Serving.{format}}
use Rattle.df_mirror.specs.{Known.{AllShown}, Laws.{HasWoken, IsHurtKnown, NoneCameBack}, Outside.{Outside, Tell}, Run.{Mirrors}, Walks.{content_of_superblock}, declared.status.Status.{Status}}
use Rattle.df_mirror.specs.declared.status.Status.TheVariants.{Done, Found}
use Rattle.df_lifetime.specs.{Acknowledged.{AllThere}, Again.{Again, IsSpared}, Life.{Chapter, Life, MayHave}}

-- A file was damaged within known units, and two superblock copies were spared, after the life by which its newest log began had come to this view. The last open came to its end, or no reply came back.
pub record IsMendable (file : DataFile) (older : List Log) (b : Told) (view : View) (hurt mended : Image) : Type 0 where
  pub found : IsFound (shape file) (unit_at file.layout file.cluster (now b.log)) view
  pub unspent : boot_of view < GREATEST
  pub within : IsHurtKnown file view.checkpoint.content (record { log = b.log; shown = hurt })
  pub spared : IsSpared file b.log older mended
  pub last : HasWoken file b.log older ⊎ NoneCameBack view (unit_at file.layout file.cluster mended)

-- Each known unit is shown, and the next open finds the view that the life had come to before the damage, and doesn't refuse it: in it is all that was acknowledged.
pub record IsMendedLife (file : DataFile) (first : View) (chapters : List Chapter) (view : View) (c : Content) (mended : Image) : Type 0 where
  pub known : AllShown (shape file) (unit_at file.layout file.cluster mended) c
  pub found : IsFound (shape file) (unit_at file.layout file.cluster mended) view
  pub opens : IsNotRefused file mended
  pub had : MayHave file first chapters view
  pub there : AllThere view chapters

-- So it is in a life with damage, after a run of `filemirror` that ended Done or Found, of the file that its superblock names. The life that had come to the view may be by another log than the newest, as one that goes over
-- several opens, if both left the same.
abbrev pub MendedLifeGoesOn : Type 0
MendedLifeGoesOn =
    (first view : View) (older : List Log) (b whole t o n : Told) (chapters : List Chapter) (old new : Outside) (status : Status) (is : Mirrors t o old new status) → Tell t o old → (status ≡ Done) ⊎ (status ≡ Found) → new.first ≡ Some n
    → Again is.base.file older b t.shown → Life is.base.file first whole chapters → NoChanceOf (format is.base.file) whole.log (now whole.log) → whole.shown ≡ b.shown → IsMendable is.base.file older b view t.shown n.shown
    → IsMendedLife is.base.file first chapters view (content_of_superblock is.base) n.shown
