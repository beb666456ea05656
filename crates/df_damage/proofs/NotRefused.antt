-- Where a view is found the superblock can be used, and each other answer of an open would be a second one.
use Rattle.{std.{specs.Prelude.{Err}, proofs.Common.{◌≡◌, inl, inr, ℕ, refl, sym, ◌∙◌, ap, subst}}, df_base.specs.Image.{Image, IsImage}}
use Rattle.df_layout.{specs.declared.layout.Layout.{Layout}, proofs.Laws.{same_layout}}
use Rattle.df_format.specs.{Copies.{Content, content_at}, SuperRules.{IsSuper}, declared.superblock.SuperFields.{SuperFields}}
use Rattle.df_quorum.specs.Quorum
use Rattle.df_theory.{specs.{Found.{IsFound}, Opens.{Found, Opened, Opens, Refusal, Refused}, Trailer.{IsReference}, View.{PassesTests, View}}, proofs.Laws.{one_answer_law}}
use Rattle.df_units.{specs.{Bytes.{unit_at}, Meaning.{content_of, layout_of}, Superblocks.{AreFieldsOf}}, proofs.Laws.{chosen_choice, passing_is_usable, shown_checks}}
use Rattle.df_recovery.{specs.{Below.{parse_of, shape, DataFile}, Opening.{HasSuperAs, IsLayoutOf, RefusesAs}, Surveys.{HasFile, IsAsked, SurveysAs}}, proofs.Laws.{as_none, one_super_as, super_or_refusal_as, same_file}}
use Rattle.df_model.specs.{declared.errors.OpenError.{OpenError}, declared.errors.OpenError.TheVariants.{NotFormatted, NoQuorum, Version, BadField, LayoutDiffers, Damaged, DiskFault, BootSpent}}
use Rattle.df_damage.{specs.{Unrefused.{FoundIsNotRefused, IsNotRefusedAs}, Versions.{IsKnownVersion, IsUnspent}}, proofs.Versions.{below_spent, known_file}}

module _ (version : ℕ) (file : DataFile) (image : Image) (view : View) (known : IsKnownVersion version) (is_version : file.version ≡ version) (whole : IsImage image) (found : IsFound (shape file) (unit_at file.layout file.cluster image) view) where
  -- ---- the superblock

  -- the choice among the copies is the view's content
  choice : (c : Content) × (content_of c ≡ view.checkpoint.content) × Quorum.IsChosenContent (content_at image) c
  choice = chosen_choice file.layout file.cluster image view.checkpoint.content whole found.chosen

  abbrev fields : SuperFields
  fields = choice.0.fields

  rules : AreFieldsOf file.layout file.cluster fields × IsSuper fields
  rules =
      let tests : PassesTests (shape file) (content_of choice.0) = subst (PassesTests (shape file)) (sym choice.1) found.checkpoint.tests in
      let reference : IsReference (layout_of file.layout) (content_of choice.0) =
      subst (IsReference (layout_of file.layout)) (sym choice.1) found.checkpoint.trailer.reference in
      passing_is_usable file.version file.layout file.cluster file.named (parse_of (layout_of file.layout)) choice.0 (known_file
      version file known is_version) (shown_checks image choice.2.agreed.first choice.0 whole choice.2.agreed.at_first) tests reference

  super : HasSuperAs version image fields
  super = record { content = choice.0; chosen = choice.2; fields = refl; usable = as_none version fields ((subst (PassesTests (shape file)) (sym choice.1) found.checkpoint.tests).version ∙ is_version) rules.1 }

  pub found_is_usable : (error : OpenError) → RefusesAs version image error → ⊥
  found_is_usable error refuses = super_or_refusal_as version image fields error super refuses

  own_layout : (layout : Layout) (f : SuperFields) → HasSuperAs version image f → IsLayoutOf layout f → layout ≡ file.layout
  own_layout layout f has is = let same : f ≡ fields = one_super_as version version image f fields has super in
      same_layout layout file.layout (is.slots ∙ ap (λ (g : SuperFields). g.slots) same ∙ rules.0.slots)
      (is.message_size ∙ ap (λ (g : SuperFields). g.message_size) same ∙ rules.0.message_size)
      (is.clients ∙ ap (λ (g : SuperFields). g.clients) same ∙ rules.0.clients)
      (is.block_size ∙ ap (λ (g : SuperFields). g.block_size) same ∙ rules.0.block_size)
      (is.blocks ∙ ap (λ (g : SuperFields). g.blocks) same ∙ rules.0.blocks)

  -- ---- the answers

  module _ (unspent : IsUnspent version view) where
    -- another refusal would be of this very file, which has one answer
    unrefused : (other : DataFile) (f : SuperFields) (r : Refusal) → HasFile image other f
        → IsAsked version file.layout other → Opens (shape other) (unit_at file.layout other.cluster image) (Refused r) → ⊥
    unrefused other f r has of opens = let cluster : other.cluster ≡ file.cluster = sym has.cluster
        ∙ ap (λ (g : SuperFields). g.cluster) (one_super_as other.version version image f fields has.super super) ∙ rules.0.cluster_is in
        let here : Opens (shape file) (unit_at file.layout file.cluster image) (Refused r) =
        rw (same_file other file of.layout_is cluster (of.version_is ∙ sym is_version)) at opens in
        let both : Refused r ≡ Found view = one_answer_law (shape file) (unit_at file.layout file.cluster image)
        (Refused r) (Found view) here (Opened view found (below_spent version file view known is_version unspent found.checkpoint.tests)) in
        cc

    answered : (error : OpenError) → SurveysAs version file.layout image (Err error) → error ≡ DiskFault
    answered NotFormatted is = absurd (found_is_usable NotFormatted is)
    answered (NoQuorum classes) is = absurd (found_is_usable (NoQuorum classes) is)
    answered (Version number) is = absurd (found_is_usable (Version number) is)
    answered (BadField field value) (inl is) = absurd (found_is_usable (BadField field value) is)
    answered (BadField field value) (inr is) = absurd (unrefused is.file is.fields Refusal.BadField is.has is.of is.opens)
    answered (LayoutDiffers reserved there) is = absurd (is.differ (own_layout there is.fields is.super is.found_is))
    answered (Damaged place class) is = absurd (unrefused is.file is.fields (Refusal.Damaged is.at) is.has is.of is.opens)
    answered DiskFault is = refl
    answered BootSpent is = absurd (unrefused is.file is.fields Refusal.BootSpent is.has is.of is.opens)

    not_refused : IsNotRefusedAs version file image
    not_refused = record { usable = found_is_usable; layout = λ layout shown. own_layout layout shown.fields shown.super shown.numbers; answered = answered }

pub found_is_not_refused_as : FoundIsNotRefused
found_is_not_refused_as version file image view known is_version unspent whole found =
    not_refused version file image view known is_version whole found unspent
