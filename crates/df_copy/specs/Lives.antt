-- Where the life of a copied file begins: at an image that shows the copy.
use Rattle.std.specs.Prelude.{◌≡◌}
use Rattle.df_base.specs.{declared.TheConstants.{VERSION}, Image.{Image}}
use Rattle.df_layout.specs.declared.layout.Layout.{Layout}
use Rattle.df_theory.specs.{Holds.{Stands}, View.{View}}
use Rattle.df_history.specs.OpenLaws.{BeginsHistory}
use Rattle.df_units.specs.Bytes.{unit_at}
use Rattle.df_damage.specs.Anew.{MayRestart}
use Rattle.df_opening.specs.Below.{AreDistinctUnits, DataFile, shape}
use Rattle.df_copy.specs.Views.{ShowsCopy, file_in}

-- The image may be taken as that of a file: it is of version 2, a log may be restarted there, and each block that is referenced is shown. And a history begins there: all that it shows, blocks aside, is of earlier boots than its
-- superblock, which counts all that there is.
pub record MayGoOn (file : DataFile) (view : View) (image : Image) : Type 0 where
  pub version : file.version ≡ VERSION
  pub begins : MayRestart file view image
  pub stands : Stands (unit_at file.layout file.cluster image) view
  pub history : BeginsHistory (shape file) (unit_at file.layout file.cluster image)

-- so may one that shows a copy, where no two of its units have one checksum
abbrev pub ShownCopyBegins : Type 0
ShownCopyBegins = (layout : Layout) (file : DataFile) (source : Image) (v : View) (target : Image) (shows : ShowsCopy layout file source v target) → AreDistinctUnits (unit_at layout file.cluster target) → MayGoOn (file_in layout file) shows.view target
