-- An image says one thing: its superblock can be used, or there is one reason why not.
use Rattle.std.specs.Prelude.{◌≡◌, ℕ}
use Rattle.df_base.specs.Image.{Image, IsImage}
use Rattle.df_format.specs.{Copies.{content_at, content_with}, declared.superblock.SuperFields.{SuperFields}}
use Rattle.df_quorum.specs.Quorum.{IsChosenContent}
use Rattle.df_recovery.specs.Opening.{HasSuperAs, RefusesAs}
use Rattle.df_model.specs.declared.errors.OpenError.{OpenError}

-- no image has a superblock that can be used and a reason why not
abbrev pub SuperOrRefusal : Type 0
SuperOrRefusal = (version : ℕ) (image : Image) (f : SuperFields) (e : OpenError) → HasSuperAs version image f → RefusesAs version image e → ⊥

-- whatever version is asked for, it has one superblock
abbrev pub OneSuper : Type 0
OneSuper = (version asked : ℕ) (image : Image) (f g : SuperFields) → HasSuperAs version image f → HasSuperAs asked image g → f ≡ g

abbrev pub OneRefusal : Type 0
OneRefusal = (version : ℕ) (image : Image) (e d : OpenError) → RefusesAs version image e → RefusesAs version image d → e ≡ d

-- where the superblock can be used, the content that is chosen is the one that its fields are written with
abbrev pub SuperIsWritten : Type 0
SuperIsWritten = (version : ℕ) (image : Image) (f : SuperFields) → IsImage image → HasSuperAs version image f → IsChosenContent (content_at image) (content_with f)
