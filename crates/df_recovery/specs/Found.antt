-- What the calls that look for a superblock answer.
use Rattle.std.specs.Prelude.{◌≡◌, ℕ, [], ◌∷◌, Option, Some, None, Result, Ok, Err}
use Rattle.df_base.specs.{Image.{Image}, Log.{Sync}}
use Rattle.df_disk.specs.{Told.{Told, after}, Adds.{AddsPart}}
use Rattle.df_layout.specs.declared.layout.Layout.{Layout}
use Rattle.df_format.specs.{Copies.{Content, content_at}, declared.superblock.SuperFields.{SuperFields}}
use Rattle.df_quorum.specs.{Quorum.{IsChosenContent, AreMembers}, declared.choice.Chosen.{Chosen}}
use Rattle.df_recovery.specs.{Opening.{HasSuperAs, IsLayoutOf, RefusesAs}, declared.superblock.Found.{Found}}
use Rattle.df_model.specs.{declared.errors.OpenError.{OpenError}, declared.errors.OpenError.TheVariants.{NotFormatted, NoQuorum, Version, BadField, LayoutDiffers, Damaged, DiskFault, BootSpent}}

-- the choice of an image: the content that is chosen, and which copies show it
pub record IsChoiceOf (image : Image) (choice : Chosen) : Type 0 where
  pub content : Content
  pub is : IsChosenContent (content_at image) content
  pub fields : choice.content ≡ content.fields
  pub members : AreMembers (content_at image) content choice.members

-- a superblock that can be used, where the version is asked for: the choice of the image, and its fields
pub record IsFoundAs (version : ℕ) (image : Image) (found : Found) : Type 0 where
  pub choice : IsChoiceOf image found.chosen
  pub content : found.content ≡ found.chosen.content
  pub super : HasSuperAs version image found.content

-- the layout has the five numbers of the superblock
pub record IsLayoutShownAs (version : ℕ) (image : Image) (layout : Layout) : Type 0 where
  pub fields : SuperFields
  pub super : HasSuperAs version image fields
  pub numbers : IsLayoutOf layout fields

-- the choice, or why there is none, whatever version is asked for
abbrev pub HasChoice : Image → Result Chosen OpenError → Type 0
HasChoice image (Ok choice) = IsChoiceOf image choice
HasChoice image (Err e) = (version : ℕ) → RefusesAs version image e

-- what an image answers: its superblock, or why it can't be used; unless the disk failed
abbrev pub AnswersAs : {T : Type 0} → ℕ → (T → Type 0) → Image → Result T OpenError → Type 0
AnswersAs version P image (Ok x) = P x
AnswersAs version P image (Err DiskFault) = Unit {0}
AnswersAs version P image (Err NotFormatted) = RefusesAs version image NotFormatted
AnswersAs version P image (Err (NoQuorum classes)) = RefusesAs version image (NoQuorum classes)
AnswersAs version P image (Err (Version found)) = RefusesAs version image (Version found)
AnswersAs version P image (Err (BadField field value)) = RefusesAs version image (BadField field value)
AnswersAs version P image (Err (LayoutDiffers reserved there)) = ⊥
AnswersAs version P image (Err (Damaged place class)) = ⊥
AnswersAs version P image (Err BootSpent) = ⊥

-- and so it is of what a disk shows, where it tells that
abbrev pub TellsChoice : Option Told → Result Chosen OpenError → Type 0
TellsChoice None result = Unit {0}
TellsChoice (Some t) result = HasChoice t.shown result

abbrev pub TellsFoundAs : ℕ → Option Told → Result Found OpenError → Type 0
TellsFoundAs version None result = Unit {0}
TellsFoundAs version (Some t) result = AnswersAs version (IsFoundAs version t.shown) t.shown result

abbrev pub TellsLayoutAs : ℕ → Option Told → Result Layout OpenError → Type 0
TellsLayoutAs version None result = Unit {0}
TellsLayoutAs version (Some t) result = AnswersAs version (IsLayoutShownAs version t.shown) t.shown result

-- a refusal by what the copies say, and nothing else
abbrev pub IsRefusal : OpenError → Type 0
IsRefusal NotFormatted = Unit {0}
IsRefusal (NoQuorum classes) = Unit {0}
IsRefusal (Version found) = Unit {0}
IsRefusal (BadField field value) = Unit {0}
IsRefusal (LayoutDiffers reserved there) = ⊥
IsRefusal (Damaged place class) = ⊥
IsRefusal DiskFault = ⊥
IsRefusal BootSpent = ⊥

-- the fault of the disk, or a refusal by what the copies say
abbrev pub IsOfCopies : OpenError → Type 0
IsOfCopies (LayoutDiffers reserved there) = ⊥
IsOfCopies (Damaged place class) = ⊥
IsOfCopies BootSpent = ⊥
IsOfCopies e = Unit {0}

-- one sync was added; where the disk failed, it or nothing
abbrev pub Syncs : {T : Type 0} → Option Told → Option Told → Result T OpenError → Type 0
Syncs old new (Err DiskFault) = AddsPart (Sync ∷ []) old new
Syncs old new result = new ≡ after Sync old

-- ---- where version 2 is asked for, as an open does

abbrev pub IsFoundFile : Image → Found → Type 0
IsFoundFile image found = IsFoundAs 2 image found

abbrev pub IsLayoutShown : Image → Layout → Type 0
IsLayoutShown image layout = IsLayoutShownAs 2 image layout

abbrev pub TellsFound : Option Told → Result Found OpenError → Type 0
TellsFound told result = TellsFoundAs 2 told result

abbrev pub TellsLayout : Option Told → Result Layout OpenError → Type 0
TellsLayout told result = TellsLayoutAs 2 told result
