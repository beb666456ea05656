-- The views that a file had: those of the images that its log settled.
use Rattle.std.specs.Prelude.{◌≡◌, ◌⊎◌, List, [], ◌∷◌}
use Rattle.df_base.specs.{Image.{Image}, Log.{Log, settled}}
use Rattle.df_theory.specs.{Holds.{Holds}, View.{View}}
use Rattle.df_units.specs.Bytes.{unit_at}
use Rattle.df_recovery.specs.Below.{DataFile, shape}

-- the image is one of these
abbrev pub IsOneOf : List Image → Image → Type 0
IsOneOf [] image = ⊥
IsOneOf (x ∷ xs) image = (image ≡ x) ⊎ IsOneOf xs image

-- the file had this view: an image that became durable holds it, the first one, or one that stood after a sync or a stop
pub record WasHad (file : DataFile) (log : Log) (view : View) : Type 0 where
  pub image : Image
  pub durable : IsOneOf (settled log) image
  pub holds : Holds (shape file) (unit_at file.layout file.cluster image) view
