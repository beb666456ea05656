-- A copied file goes on: where a copy was made on a target on which nothing had been written, a life begins, and one with damage. Where it is stopped, one begins, or no two copies of the superblock agree, so that the target is refused.
use Rattle.std.specs.Prelude.{◌≡◌, ◌⊎◌, [], Some, Ok}
use Rattle.df_base.specs.{Image.{Image}, Log.{IsLeft, now}, Moments.{Extends}}
use Rattle.df_disk.specs.Told.{IsHonest, Told}
use Rattle.df_layout.specs.declared.layout.Layout.{Layout}
use Rattle.df_theory.specs.{Copies.{IsSplit}, Device.{NoChanceOf, units_log}, Found.{IsFound}, UnitLog.{settled}, View.{View}}
use Rattle.df_history.specs.OpenLaws.{BeginsHistory}
use Rattle.df_units.specs.{Bytes.{unit_at}, Meaning.{layout_of}}
use Rattle.df_session.specs.{Below.{AreDistinctUnits, DataFile, restarted, shape}, Serving.{format}}
use Rattle.df_program.specs.Two.{Outside}
use Rattle.df_copy.specs.{Run.{CopiesFile, source_view}, Stops.{AreSplit}, Views.{IsCopyOf, IsEmptyImage, file_in}, declared.status.Status.{Status}}
use Rattle.df_lifetime.specs.{Again.{Again}, Life.{GoesAlong, Life, MayTake}}

-- a copy, whatever it came to: of a source that told this at first and that after its open, in which a view was found, on a target that told this before it and that after it
pub record CopyRun (layout : Layout) (t read o n : Told) : Type 0 where
  pub old : Outside
  pub new : Outside
  pub status : Status
  pub copies : CopiesFile layout t old new status
  pub source : new.first ≡ Some read
  pub target : old.second ≡ Some o
  pub later : new.second ≡ Some n
  pub view : View
  pub found : IsFound (shape copies.state.file) (unit_at copies.state.file.layout copies.state.file.cluster t.shown) view

-- the file that was copied, and its view as it was copied
abbrev pub file_of : {layout : Layout} {t read o n : Told} → CopyRun layout t read o n → DataFile
file_of run = run.copies.state.file

abbrev pub view_of : {layout : Layout} {t read o n : Told} → CopyRun layout t read o n → View
view_of {t = t} run = source_view run.copies.state t run.view

-- an image shows the copy of a view, and a file may be taken there: an open finds this view, the other one with other addresses. And a history begins there, since all units are of earlier boots than the superblock
pub record IsCopiedImage (layout : Layout) (file : DataFile) (source : Image) (v : View) (image : Image) : Type 0 where
  pub first : View
  pub copy : IsCopyOf (layout_of layout) (unit_at file.layout file.cluster source) v (unit_at layout file.cluster image) first
  pub may : MayTake (file_in layout file) first image
  pub begins : BeginsHistory (shape (file_in layout file)) (unit_at layout file.cluster image)

-- where a life begins, and one with damage before any number of opens
abbrev pub CopiedBegins : Type 0
CopiedBegins =
    (layout : Layout) (file : DataFile) (source : Image) (v : View) (t : Told) (new : IsCopiedImage layout file source v t.shown) → Life (file_in layout file) new.first (restarted t) [] × Again (file_in layout file) [] (restarted t) t.shown

-- a copy that was made on a target on which nothing had been written leaves that, where the target's disk is honest and no two units have one checksum
abbrev pub MadeIsCopied : Type 0
MadeIsCopied =
    (layout : Layout) (t read o n : Told) (run : CopyRun layout t read o n) → run.copies.result ≡ Ok tt → IsEmptyImage (now o.log) → IsHonest n → AreDistinctUnits (unit_at layout (file_of run).cluster n.shown)
    → IsCopiedImage layout (file_of run) read.shown (view_of run) n.shown

-- And whatever it came to, a stop at any moment leaves that, or an image in which no two copies of the superblock agree; the second no more once an image is durable in which two do, as it is after the sync of the second copy.
abbrev pub StoppedIsCopied : Type 0
StoppedIsCopied =
    (layout : Layout) (t read o n p m : Told) (run : CopyRun layout t read o n) (image : Image) → IsEmptyImage o.shown → Extends n.log p.log → GoesAlong o p (restarted o) m → IsLeft m.log image
    → NoChanceOf (format (file_in layout (file_of run))) m.log image
    → (IsSplit (unit_at layout (file_of run).cluster image) × AreSplit (settled (units_log (format (file_in layout (file_of run))) m.log))) ⊎ IsCopiedImage layout (file_of run) read.shown (view_of run) image
