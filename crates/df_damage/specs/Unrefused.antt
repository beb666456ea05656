-- A file in which an open finds a state is refused for no reason: what is left is that the disk fails.
use Rattle.std.specs.Prelude.{◌≡◌, ℕ, Err}
use Rattle.df_base.specs.Image.{Image, IsImage}
use Rattle.df_layout.specs.declared.layout.Layout.{Layout}
use Rattle.df_model.specs.{declared.errors.OpenError.{OpenError}, declared.errors.OpenError.TheVariants.{DiskFault}}
use Rattle.df_recovery.specs.{Found.{IsLayoutShownAs}, Opening.{RefusesAs}, Surveys.{SurveysAs}, Below.{shape, DataFile}}
use Rattle.df_theory.specs.{Found.{IsFound}, View.{View}}
use Rattle.df_units.specs.Bytes.{unit_at}
use Rattle.df_damage.specs.Versions.{IsKnownVersion, IsUnspent}

-- no step of an open that asks for this version refuses the image: its superblock can be used and names the file's layout, and with rooms of that each error is the disk's
pub record IsNotRefusedAs (version : ℕ) (file : DataFile) (image : Image) : Type 0 where
  pub usable : (error : OpenError) → RefusesAs version image error → ⊥
  pub layout : (layout : Layout) → IsLayoutShownAs version image layout → layout ≡ file.layout
  pub answered : (error : OpenError) → SurveysAs version file.layout image (Err error) → error ≡ DiskFault

-- where version 2 is asked for, as an open does
abbrev pub IsNotRefused : DataFile → Image → Type 0
IsNotRefused file image = IsNotRefusedAs 2 file image

-- an image in which a view is found, whatever was done to it, isn't refused, where the version of its file is asked for and its boot can be raised
abbrev pub FoundIsNotRefused : Type 0
FoundIsNotRefused =
    (version : ℕ) (file : DataFile) (image : Image) (view : View) → IsKnownVersion version → file.version ≡ version → IsUnspent version view → IsImage image → IsFound (shape file) (unit_at file.layout file.cluster image) view
    → IsNotRefusedAs version file image
