-- What the superblock of an image says: whether the file can be opened, and if not, why.
use Rattle.std.specs.Prelude.{◌≡◌, ◌==◌, if◌then◌else◌, ℕ, List, [], ◌∷◌, Option, None, Some}
use Rattle.df_base.specs.Image.{Image}
use Rattle.df_layout.specs.{declared.damage.Class.{Class}, declared.layout.Layout.{Layout}}
use Rattle.df_format.specs.{Copies.{Content, content_at, class_of_copy}, SuperRules.{fault_of}, declared.superblock.SuperFault.{SuperFault}}
use Rattle.df_format.specs.{declared.superblock.SuperFault.TheVariants.{Version as OtherVersion, BadField as BrokenField}, declared.superblock.SuperFields.{SuperFields}}
use Rattle.df_quorum.specs.Quorum.{CopiesAreSplit, IsChosenContent}
use Rattle.df_model.specs.{declared.errors.OpenError.{OpenError}, declared.errors.OpenError.TheVariants.{NotFormatted, NoQuorum, Version, BadField}}
pub use Rattle.df_superblock.specs.Blank.{IsUnformatted}

-- why an open that asks for a version refuses a superblock: any other version is refused as such before its fields are tested
abbrev pub fault_as : ℕ → SuperFields → Option SuperFault
fault_as version f = if f.version == version then fault_of f else Some (OtherVersion f.version)

-- the class of what each of the four sectors shows
abbrev pub shown_classes : Image → List Class
shown_classes image = class_of_copy 0 (image 0) ∷ class_of_copy 1 (image 1) ∷ class_of_copy 2 (image 2) ∷ class_of_copy 3 (image 3) ∷ []

-- a content is chosen, and this is why it can't be used, where the version is asked for
pub record HasFaultAs (version : ℕ) (image : Image) (fault : SuperFault) : Type 0 where
  pub content : Content
  pub chosen : IsChosenContent (content_at image) content
  pub broken : fault_as version content.fields ≡ Some fault

-- a content with these fields is chosen, and it can be used, where the version is asked for
pub record HasSuperAs (version : ℕ) (image : Image) (f : SuperFields) : Type 0 where
  pub content : Content
  pub chosen : IsChosenContent (content_at image) content
  pub fields : content.fields ≡ f
  pub usable : fault_as version f ≡ None

-- two copies agree on nothing, in sectors that show something
pub record HasNoQuorum (image : Image) (classes : List Class) : Type 0 where
  pub formatted : IsUnformatted image → ⊥
  pub split : CopiesAreSplit (content_at image)
  pub shown : classes ≡ shown_classes image

-- why the superblock of an image can't be used, where the version is asked for
abbrev pub RefusesAs : ℕ → Image → OpenError → Type 0
RefusesAs version image NotFormatted = IsUnformatted image
RefusesAs version image (NoQuorum classes) = HasNoQuorum image classes
RefusesAs version image (Version found) = HasFaultAs version image (OtherVersion found)
RefusesAs version image (BadField field value) = HasFaultAs version image (BrokenField field value)
RefusesAs version image _ = ⊥

-- the layout has the five numbers of the superblock
pub record IsLayoutOf (layout : Layout) (f : SuperFields) : Type 0 where
  pub slots : layout.slots ≡ f.slots
  pub message_size : layout.message_size ≡ f.message_size
  pub clients : layout.clients ≡ f.clients
  pub block_size : layout.block_size ≡ f.block_size
  pub blocks : layout.blocks ≡ f.blocks

-- ---- where version 2 is asked for, as an open does

abbrev pub HasSuper : Image → SuperFields → Type 0
HasSuper image f = HasSuperAs 2 image f

abbrev pub Refuses : Image → OpenError → Type 0
Refuses image e = RefusesAs 2 image e
