-- An image has one refusal: of its superblock, or else of the one file that its superblock is of.
use Rattle.{std.{proofs.Common.{◌≡◌, ℕ, refl, sym, ◌∙◌, ap, subst, inl, inr}, specs.Prelude.{◌⊎◌, ◌≢◌, Err}}, df_base.specs.Image.{Image}}
use Rattle.df_layout.{proofs.Laws.{same_layout}, specs.{declared.damage.Class.{Class}, declared.fields.Field.{Field}, declared.layout.Layout.{Layout}, declared.places.Place.{Place}}}
use Rattle.df_recovery.{proofs.{Asked.{super_as}, OneAnswer.{one_refusal_as, one_super_as, super_or_refusal_as}}, specs.{Opening.{HasSuperAs, IsLayoutOf, RefusesAs}, SurveyLaws.{OneSurvey}, Surveys.{FailsTrailer, HasFile, HasOther, IsAsked, IsDamagedFile, IsSpent, SurveysAs, class_there}}}
use Rattle.{df_format.specs.{SuperRules.{IsSuper}, declared.superblock.SuperFields.{SuperFields}}, df_grid.specs.Reads.{shown_of}}
use Rattle.df_theory.specs.Units
use Rattle.df_theory.{specs.Opens.{BadField as BadTest, BootSpent as NoBoot, Damaged as Damages, OpenAnswer, Opens, Refused}, proofs.Laws.{one_answer_law}}
use Rattle.df_model.specs.{declared.errors.OpenError.{OpenError}, declared.errors.OpenError.TheVariants.{NotFormatted, NoQuorum, Version, BadField, LayoutDiffers, Damaged, DiskFault, BootSpent}}
use Rattle.df_units.specs.{Bytes.{unit_at}, Meaning.{place_of}}
use Rattle.df_checkpoint.{specs.{Chain.{content_in}, Tests.{FailsTest}}, proofs.Laws.{one_test}}
use Rattle.df_rooms.{proofs.Laws.{same_file}, specs.{State.{shape}, declared.file.DataFile.{DataFile}}}

one_layout : (a b : Layout) (f : SuperFields) → IsLayoutOf a f → IsLayoutOf b f → a ≡ b
one_layout a b f one two = same_layout a b (one.slots ∙ sym two.slots) (one.message_size
    ∙ sym two.message_size) (one.clients ∙ sym two.clients) (one.block_size ∙ sym two.block_size) (one.blocks ∙ sym two.blocks)

module _ (version : ℕ) (layout : Layout) (image : Image) where
  -- a superblock that can be used is of one file of this version and layout
  one_file : (a b : DataFile) (f g : SuperFields)
      → HasFile image a f → HasFile image b g → IsAsked version layout a → IsAsked version layout b → (a ≡ b) × (f ≡ g)
  one_file a b f g one two first second = let same = one_super_as a.version b.version image f g one.super two.super in (
    same_file a b (first.layout_is ∙ sym second.layout_is)
        (sym one.cluster ∙ ap (λ (x : SuperFields). x.cluster) same ∙ two.cluster) (first.version_is ∙ sym second.version_is),
    same,
  )

  -- ---- refusals after the superblock

  one_field : (field other : Field) (value number : ℕ)
      → FailsTrailer version layout image field value → FailsTrailer version layout image other number → (field ≡ other) × (value ≡ number)
  one_field field other value number one two = let same = one_file one.file two.file one.fields two.fields one.has two.has one.of two.of in
      let usable : IsSuper one.fields = (super_as one.file.version one.fields one.has.super.usable).1 in
      let of_file : FailsTest (shape one.file) (shown_of layout one.file.cluster image) (content_in two.fields) other number =
      rw (sym same.0) at two.fails in one_test
      (shape one.file) (shown_of layout one.file.cluster image) (content_in one.fields) field other value number refl usable.op one.fails
      (rw (sym same.1) at of_file)

  same_answer : (a b : DataFile) (f g : SuperFields) (x y : OpenAnswer) → HasFile image a f → HasFile image b g → IsAsked version layout a → IsAsked version layout b → Opens (shape a) (unit_at layout a.cluster image) x → Opens (shape b) (unit_at layout b.cluster image) y → x ≡ y
  same_answer a b f g x y one two first second opens other =
      one_answer_law (shape a) (unit_at layout a.cluster image) x y opens (rw (sym (one_file a b f g one two first second).0) at other)

  one_place : (place other : Place) (class kind : Class)
      → IsDamagedFile version layout image place class → IsDamagedFile version layout image other kind → (place ≡ other) × (class ≡ kind)
  one_place place other class kind one two = let same = one_file one.file two.file one.fields two.fields one.has two.has one.of two.of in
      let both : Refused (Damages one.at) ≡ Refused (Damages two.at) = same_answer one.file two.file
      one.fields two.fields (Refused (Damages one.at)) (Refused (Damages two.at)) one.has two.has one.of two.of one.opens two.opens in
      let at : one.at ≡ two.at = cc in (
        sym one.at_is ∙ ap place_of at ∙ two.at_is,
        one.class_is ∙ ap (λ (p : Units.Place). class_there layout one.file.cluster image p) at
            ∙ ap (λ (x : DataFile). class_there layout x.cluster image two.at) same.0 ∙ sym two.class_is,
      )

  one_other : (a b c d : Layout) → HasOther version layout a b image → HasOther version layout c d image → (a ≡ c) × (b ≡ d)
  one_other a b c d one two = (one.reserved_is ∙ sym two.reserved_is, one_layout b d two.fields (subst (IsLayoutOf b) (one_super_as version version image one.fields two.fields one.super two.super) one.found_is) two.found_is)

  no_other : (reserved found : Layout) (file : DataFile) (f : SuperFields)
      → HasOther version layout reserved found image → HasFile image file f → IsAsked version layout file → ⊥
  no_other reserved found file f other has of = other.differ (one_layout found file.layout f (subst (IsLayoutOf found)
      (one_super_as version file.version image other.fields f other.super has.super) other.found_is) has.layout ∙ of.layout_is)

  -- a bad field, a place and a spent boot are different answers of the theory
  not_both : (field : Field) (value : ℕ) (place : Place) (class : Class)
      → FailsTrailer version layout image field value → IsDamagedFile version layout image place class → ⊥
  not_both field value place class one two = let both : Refused BadTest ≡ Refused (Damages two.at) = same_answer one.file
      two.file one.fields two.fields (Refused BadTest) (Refused (Damages two.at)) one.has two.has one.of two.of one.opens two.opens in cc

  field_unspent : (field : Field) (value : ℕ) → FailsTrailer version layout image field value → IsSpent version layout image → ⊥
  field_unspent field value one two = let both : Refused BadTest ≡ Refused NoBoot = same_answer
      one.file two.file one.fields two.fields (Refused BadTest) (Refused NoBoot) one.has two.has one.of two.of one.opens two.opens in cc

  place_unspent : (place : Place) (class : Class) → IsDamagedFile version layout image place class → IsSpent version layout image → ⊥
  place_unspent place class one two = let both : Refused (Damages one.at) ≡ Refused NoBoot = same_answer one.file
      two.file one.fields two.fields (Refused (Damages one.at)) (Refused NoBoot) one.has two.has one.of two.of one.opens two.opens in cc

  -- ---- which refusal it is

  -- of the trailer, of another layout, of a place, or of a spent boot
  abbrev IsBehind : OpenError → Type 0
  IsBehind e = ((field : Field) × (value : ℕ) × (e ≡ BadField field value) × FailsTrailer version layout image field value)
      ⊎ (((reserved : Layout) × (found : Layout) × (e ≡ LayoutDiffers reserved found) × HasOther version layout reserved found image)
      ⊎ (((place : Place) × (class : Class) × (e ≡ Damaged place class) × IsDamagedFile version layout image place class)
      ⊎ ((e ≡ BootSpent) × IsSpent version layout image)))

  apart : (e : OpenError) → e ≢ DiskFault → SurveysAs version layout image (Err e) → RefusesAs version image e ⊎ IsBehind e
  apart NotFormatted other is = inl is
  apart (NoQuorum classes) other is = inl is
  apart (Version found) other is = inl is
  apart (BadField field value) other (inl fault) = inl fault
  apart (BadField field value) other (inr fails) = inr (inl (field, value, refl, fails))
  apart (LayoutDiffers reserved found) other is = inr (inr (inl (reserved, found, refl, is)))
  apart (Damaged place class) other is = inr (inr (inr (inl (place, class, refl, is))))
  apart BootSpent other is = inr (inr (inr (inr (refl, is))))
  apart DiskFault other is = absurd (other refl)

  -- after a superblock that can be used, where the version is asked for
  asked_has : (file : DataFile) (f : SuperFields) → HasFile image file f → IsAsked version layout file → HasSuperAs version image f
  asked_has file f has of = subst (λ (v : ℕ). HasSuperAs v image f) of.version_is has.super

  behind_super : (e : OpenError) → IsBehind e → (f : SuperFields) × HasSuperAs version image f
  behind_super e (inl p) = (p.3.fields, asked_has p.3.file p.3.fields p.3.has p.3.of)
  behind_super e (inr (inl p)) = (p.3.fields, p.3.super)
  behind_super e (inr (inr (inl p))) = (p.3.fields, asked_has p.3.file p.3.fields p.3.has p.3.of)
  behind_super e (inr (inr (inr p))) = (p.1.fields, asked_has p.1.file p.1.fields p.1.has p.1.of)

  one_behind : (e d : OpenError) → IsBehind e → IsBehind d → e ≡ d
  one_behind e d (inl p) (inl q) = let same = one_field p.0 q.0 p.1 q.1 p.3 q.3 in
      p.2 ∙ ap (λ (field : Field). BadField field p.1) same.0 ∙ ap (λ (value : ℕ). BadField q.0 value) same.1 ∙ sym q.2
  one_behind e d (inl p) (inr (inl q)) = absurd (no_other q.0 q.1 p.3.file p.3.fields q.3 p.3.has p.3.of)
  one_behind e d (inl p) (inr (inr (inl q))) = absurd (not_both p.0 p.1 q.0 q.1 p.3 q.3)
  one_behind e d (inl p) (inr (inr (inr q))) = absurd (field_unspent p.0 p.1 p.3 q.1)
  one_behind e d (inr (inl p)) (inl q) = absurd (no_other p.0 p.1 q.3.file q.3.fields p.3 q.3.has q.3.of)
  one_behind e d (inr (inl p)) (inr (inl q)) = let same = one_other p.0 p.1 q.0 q.1 p.3 q.3 in
      p.2 ∙ ap (λ (l : Layout). LayoutDiffers l p.1) same.0 ∙ ap (λ (l : Layout). LayoutDiffers q.0 l) same.1 ∙ sym q.2
  one_behind e d (inr (inl p)) (inr (inr (inl q))) = absurd (no_other p.0 p.1 q.3.file q.3.fields p.3 q.3.has q.3.of)
  one_behind e d (inr (inl p)) (inr (inr (inr q))) = absurd (no_other p.0 p.1 q.1.file q.1.fields p.3 q.1.has q.1.of)
  one_behind e d (inr (inr (inl p))) (inl q) = absurd (not_both q.0 q.1 p.0 p.1 q.3 p.3)
  one_behind e d (inr (inr (inl p))) (inr (inl q)) = absurd (no_other q.0 q.1 p.3.file p.3.fields q.3 p.3.has p.3.of)
  one_behind e d (inr (inr (inl p))) (inr (inr (inl q))) = let same = one_place p.0 q.0 p.1 q.1 p.3 q.3 in
      p.2 ∙ ap (λ (place : Place). Damaged place p.1) same.0 ∙ ap (λ (class : Class). Damaged q.0 class) same.1 ∙ sym q.2
  one_behind e d (inr (inr (inl p))) (inr (inr (inr q))) = absurd (place_unspent p.0 p.1 p.3 q.1)
  one_behind e d (inr (inr (inr p))) (inl q) = absurd (field_unspent q.0 q.1 q.3 p.1)
  one_behind e d (inr (inr (inr p))) (inr (inl q)) = absurd (no_other q.0 q.1 p.1.file p.1.fields q.3 p.1.has p.1.of)
  one_behind e d (inr (inr (inr p))) (inr (inr (inl q))) = absurd (place_unspent q.0 q.1 q.3 p.1)
  one_behind e d (inr (inr (inr p))) (inr (inr (inr q))) = p.0 ∙ sym q.0

  one_of : (e d : OpenError) → RefusesAs version image e ⊎ IsBehind e → RefusesAs version image d ⊎ IsBehind d → e ≡ d
  one_of e d (inl p) (inl q) = one_refusal_as version image e d p q
  one_of e d (inl p) (inr q) = let found = behind_super d q in absurd (super_or_refusal_as version image found.0 e found.1 p)
  one_of e d (inr p) (inl q) = let found = behind_super e p in absurd (super_or_refusal_as version image found.0 d found.1 q)
  one_of e d (inr p) (inr q) = one_behind e d p q

pub one_survey : OneSurvey
one_survey version layout image e d first second one two =
    one_of version layout image e d (apart version layout image e first one) (apart version layout image d second two)
