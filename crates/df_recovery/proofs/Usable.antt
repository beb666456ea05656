-- The choice of an image answers for it, once its fields are tested.
use Rattle.{std.{specs.Prelude.{Ok, Err}, proofs.Common.{◌≡◌, ◌∙◌, ℕ, Option, Some, None, ap, sym}}, df_base.specs.Image.{Image}}
use Rattle.{df_disk.specs.Told.{Told}, df_layout.specs.declared.fields.Field.{Field}, df_quorum.specs.declared.choice.Chosen.{Chosen}}
use Rattle.df_format.specs.declared.superblock.{SuperFault.{SuperFault}, SuperFault.TheVariants.{Version as OtherVersion, BadField as BrokenField}}
use Rattle.df_recovery.specs.{Opening.{HasFaultAs, RefusesAs, fault_as}, Found.{IsChoiceOf, IsFoundAs, AnswersAs, TellsChoice, TellsFoundAs}, declared.superblock.Found.{Found}}
use Rattle.df_model.specs.{declared.errors.OpenError.{OpenError}, declared.errors.OpenError.TheVariants.{NotFormatted, NoQuorum, Version, BadField, LayoutDiffers, Damaged, DiskFault, BootSpent}}

-- a refusal is an answer
refusal_answers : {T : Type 0} (version : ℕ) (P : T → Type 0) (image : Image) (e : OpenError)
    → RefusesAs version image e → AnswersAs version P image (Err e)
refusal_answers version P image NotFormatted refuses = refuses
refusal_answers version P image (NoQuorum classes) refuses = refuses
refusal_answers version P image (Version found) refuses = refuses
refusal_answers version P image (BadField field value) refuses = refuses
refusal_answers version P image (LayoutDiffers reserved there) refuses = refuses
refusal_answers version P image (Damaged place class) refuses = refuses
refusal_answers version P image DiskFault refuses = tt
refusal_answers version P image BootSpent refuses = refuses

pub tells_refusal : (version : ℕ) (told : Option Told) (e : OpenError) → TellsChoice told (Err e) → TellsFoundAs version told (Err e)
tells_refusal version None e tells = tt
tells_refusal version (Some t) e tells = refusal_answers version (IsFoundAs version t.shown) t.shown e (tells version)

-- ---- the choice, once its fields are tested

broken_choice : (version : ℕ) (image : Image) (choice : Chosen) (fault : SuperFault) → fault_as version choice.content ≡ Some fault
    → IsChoiceOf image choice → HasFaultAs version image fault
broken_choice version image choice fault is of = record {
  content = of.content;
  chosen = of.is;
  broken = ap (fault_as version) (sym of.fields) ∙ is;
}

pub tells_version : (version found : ℕ) (told : Option Told) (choice : Chosen) → fault_as version choice.content ≡ Some
    (OtherVersion found) → TellsChoice told (Ok choice) → TellsFoundAs version told (Err (Version found))
tells_version version found None choice is tells = tt
tells_version version found (Some t) choice is tells = broken_choice version t.shown choice (OtherVersion found) is tells

pub tells_field : (version : ℕ) (field : Field) (value : ℕ) (told : Option Told) (choice : Chosen)
    → fault_as version choice.content ≡ Some (BrokenField field value) → TellsChoice told (Ok choice)
    → TellsFoundAs version told (Err (BadField field value))
tells_field version field value None choice is tells = tt
tells_field version field value (Some t) choice is tells = broken_choice version t.shown choice (BrokenField field value) is tells

pub tells_found : (version : ℕ) (told : Option Told) (found : Found) → found.content ≡ found.chosen.content
    → fault_as version found.content ≡ None → TellsChoice told (Ok found.chosen) → TellsFoundAs version told (Ok found)
tells_found version None found same usable tells = tt
tells_found version (Some t) found same usable tells = record {
  choice = tells;
  content = same;
  super = record { content = tells.content; chosen = tells.is; fields = sym tells.fields ∙ sym same; usable = usable };
}
