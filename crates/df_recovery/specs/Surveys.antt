-- What an image answers to an open with rooms of a layout: the first refusal of the order of open with all that is told of it, or the state, which
-- is the machine's. The image is any one, whatever was done to the disk.
use Rattle.std.specs.Prelude.{◌≡◌, ◌≢◌, ◌⊎◌, ◌<◌, ℕ, Result, Ok, Err}
use Rattle.df_base.specs.{declared.TheConstants.{GREATEST}, Image.{Image}}
use Rattle.df_layout.specs.{declared.damage.Class.{Class}, declared.damage.Class.TheVariants.{Stale}, declared.fields.Field.{Field}, declared.layout.Layout.{Layout}, declared.places.Place.{Place}}
use Rattle.df_format.specs.{declared.superblock.SuperFault.TheVariants.{BadField as BrokenField}, declared.superblock.SuperFields.{SuperFields}}
use Rattle.df_theory.specs.Units
use Rattle.df_theory.specs.{Units.{CopyPlace}, Found.{IsFound}, Opens.{BadField as BadTest, BootSpent as NoBoot, Damaged as Damages, Opens, Refused}, View.{View, boot_of}}
use Rattle.df_model.specs.{Work.{opened}, declared.errors.OpenError.{OpenError}}
use Rattle.df_model.specs.declared.errors.OpenError.TheVariants.{NotFormatted, NoQuorum, Version, BadField, LayoutDiffers, Damaged, DiskFault, BootSpent}
use Rattle.df_units.specs.{Bytes.{unit_at}, Meaning.{place_of}, Wanted.{class_at}}
use Rattle.df_grid.specs.Reads.{shown_of}
use Rattle.df_checkpoint.specs.{Chain.{content_in}, Tests.{FailsTest}}
use Rattle.df_rooms.specs.{declared.file.DataFile.{DataFile}, State.{Represents, State, shape}}
use Rattle.df_recovery.specs.Opening.{HasFaultAs, HasNoQuorum, HasSuperAs, IsLayoutOf, IsUnformatted, RefusesAs}

-- the image's superblock can be used, and is of a file of this version, layout and cluster
pub record HasFile (image : Image) (file : DataFile) (f : SuperFields) : Type 0 where
  pub super : HasSuperAs file.version image f
  pub layout : IsLayoutOf file.layout f
  pub cluster : f.cluster ≡ file.cluster

-- that is a file of the version that is asked for, and of the rooms' layout
pub record IsAsked (version : ℕ) (layout : Layout) (file : DataFile) : Type 0 where
  pub version_is : file.version ≡ version
  pub layout_is : file.layout ≡ layout

-- the superblock can be used, its layout is the rooms', and the trailer that it names fails this test first; by the theory the open ends with a bad field
pub record FailsTrailer (version : ℕ) (layout : Layout) (image : Image) (field : Field) (value : ℕ) : Type 0 where
  pub file : DataFile
  pub fields : SuperFields
  pub has : HasFile image file fields
  pub of : IsAsked version layout file
  pub named : 0 < fields.trailer_address
  pub fails : FailsTest (shape file) (shown_of layout file.cluster image) (content_in fields) field value
  pub opens : Opens (shape file) (unit_at layout file.cluster image) (Refused BadTest)

-- the superblock can be used, and it is of another layout than the rooms
pub record HasOther (version : ℕ) (layout reserved found : Layout) (image : Image) : Type 0 where
  pub fields : SuperFields
  pub super : HasSuperAs version image fields
  pub found_is : IsLayoutOf found fields
  pub reserved_is : reserved ≡ layout
  pub differ : found ≢ layout

-- the class of what a place shows: the lowest copy of a choice that something is later than is a sound one
abbrev pub class_there : Layout → ℕ → Image → Units.Place → Class
class_there layout cluster image (CopyPlace n) = Stale
class_there layout cluster image place = class_at layout cluster image place

-- an open ends with this place, by the theory, and this is what it shows
pub record IsDamagedFile (version : ℕ) (layout : Layout) (image : Image) (place : Place) (class : Class) : Type 0 where
  pub file : DataFile
  pub fields : SuperFields
  pub has : HasFile image file fields
  pub of : IsAsked version layout file
  pub at : Units.Place
  pub at_is : place_of at ≡ place
  pub class_is : class ≡ class_there layout file.cluster image at
  pub opens : Opens (shape file) (unit_at layout file.cluster image) (Refused (Damages at))

-- an open finds a view, and its boot can't be raised
pub record IsSpent (version : ℕ) (layout : Layout) (image : Image) : Type 0 where
  pub file : DataFile
  pub fields : SuperFields
  pub has : HasFile image file fields
  pub of : IsAsked version layout file
  pub opens : Opens (shape file) (unit_at layout file.cluster image) (Refused NoBoot)

-- an open finds a view whose boot can be raised, and the state stands for what the machine begins with from it
pub record IsOpenedAs (version : ℕ) (layout : Layout) (image : Image) (s : State) : Type 0 where
  pub has : HasFile image s.file s.fields
  pub of : IsAsked version layout s.file
  pub view : View
  pub found : IsFound (shape s.file) (unit_at layout s.file.cluster image) view
  pub unspent : boot_of view < GREATEST
  pub stands : Represents s (opened (shape s.file) (unit_at layout s.file.cluster image) view)

-- the answer, where this version is asked for; none where the disk failed
abbrev pub SurveysAs : ℕ → Layout → Image → Result State OpenError → Type 0
SurveysAs version layout image (Ok s) = IsOpenedAs version layout image s
SurveysAs version layout image (Err NotFormatted) = IsUnformatted image
SurveysAs version layout image (Err (NoQuorum classes)) = HasNoQuorum image classes
SurveysAs version layout image (Err (Version found)) = RefusesAs version image (Version found)
SurveysAs version layout image (Err (BadField field value)) = HasFaultAs version image (BrokenField field value) ⊎ FailsTrailer version layout image field value
SurveysAs version layout image (Err (LayoutDiffers reserved found)) = HasOther version layout reserved found image
SurveysAs version layout image (Err (Damaged place class)) = IsDamagedFile version layout image place class
SurveysAs version layout image (Err BootSpent) = IsSpent version layout image
SurveysAs version layout image (Err DiskFault) = Unit {0}

-- where version 2 is asked for, as an open does
abbrev pub IsOpened : Layout → Image → State → Type 0
IsOpened layout image s = IsOpenedAs 2 layout image s

abbrev pub Surveys : Layout → Image → Result State OpenError → Type 0
Surveys layout image result = SurveysAs 2 layout image result
