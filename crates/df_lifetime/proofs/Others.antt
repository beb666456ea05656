-- The words `format` and `upgrade` leave a file as it is that was damaged: two copies of its superblock stand, of version 2.
use Rattle.std.{proofs.{Common.{◌≡◌, inl, inr, ℕ, List, ◌∷◌, Option, Some, None, ◌∙◌, ap, arith, refl, ◌<◌}, lemmas.Bool.{both_ways}}, specs.Prelude.{true}}
use Rattle.{df_base.{specs.{Image.{Image}, Log.{Log, Sync}}, proofs.Laws.{one_some}}, df_disk.specs.Told.{Told}}
use Rattle.df_base.specs.Log as logs
use Rattle.df_format.{specs.{Copies.{content_in_copy as content_of_copy, copy_at, copy_in, if_here, is_blank_copy}, declared.superblock.SuperCopy.{SuperCopy}}, proofs.Laws.{copy_is_not_blank}}
use Rattle.df_history.{specs.{Histories.{MayHurtCopies, MayStart}, OpenLaws.{StartsWith}}, proofs.Laws.{choice_stays_law, synced_settled}}
use Rattle.df_theory.{specs.{Copies.{Agree}, Device.{NoChanceOf}, Units.{AnyUnit, Content, CopyPlace, CopyUnit, Units}}, proofs.Laws.{now_units}}
use Rattle.df_units.{specs.{Bytes.{copy_unit, unit_at}, Meaning.{content_of}}, proofs.Laws.{choice_chosen}}
use Rattle.df_session.specs.{Below.{DataFile, IsUnformatted, MayReopen, shape, units_logs}, Serving.{format}}
use Rattle.{df_upgrade.{specs.Below.{IsLayoutShownAs}, proofs.Laws.{super_as}}, df_layout.specs.declared.layout.Layout.{Layout}}
use Rattle.df_lifetime.{specs.{Again.{IsSpared, OtherWordsLeaveIt}, Words.{OtherWord}, Words.OtherWord.{ToFormat, ToUpgrade}}, proofs.{Agains.{IsSound, every_life_is_lived, may_reopen}, Lives.{format_spares}, Orders.{now_left}}}

-- ---- a sector of zeros is no copy

no_copy : (image : Image) (n : ℕ) (o : Option SuperCopy) (x : AnyUnit)
    → copy_in (image n) ≡ o → copy_unit (content_of_copy (if_here n o)) ≡ Some x → is_blank_copy (image n) ≡ true → ⊥
no_copy image n None x is shown zeros = let none : None ≡ Some x = shown in cc
no_copy image n (Some copy) x is shown zeros = both_ways (is_blank_copy (image n)) (copy_is_not_blank (image n) copy is) zeros

not_zeros : (file : DataFile) (image : Image) (n : ℕ) (x : AnyUnit)
    → unit_at file.layout file.cluster image (CopyPlace n) ≡ Some x → is_blank_copy (image n) ≡ true → ⊥
unfolding copy_at
not_zeros file image n x shown zeros = no_copy image n (copy_in (image n)) x refl shown zeros

-- ---- two copies stand

module _ (file : DataFile) (older : List Log) (b t : Told) (is : IsSound file older b)
    (spared : IsSpared file b.log older t.shown) (chance : NoChanceOf (format file) b.log (logs.now b.log)) where
  may : MayReopen file b.log older t.shown
  may = may_reopen file older b t.shown is spared

  -- so one shows something
  formatted : IsUnformatted t.shown → ⊥
  formatted zeros = elim spared.copies [
    | inl same ↦ let has = is.2.left (logs.now b.log) (now_left b.log is.2.safe.is_log) chance in
        let agreed : Agree (unit_at file.layout file.cluster (logs.now b.log)) has.0.checkpoint.content = has.1.chosen.agreed in
        let inside : agreed.first < 4 = omega (arith, agreed.apart, agreed.inside) in not_zeros file
        t.shown agreed.first (CopyUnit has.0.checkpoint.content) (same agreed.first inside ∙ agreed.at_first) (zeros agreed.first inside)
    | inr keeps ↦ let inside : keeps.agreed.first < 4 = omega (arith, keeps.agreed.apart, keeps.agreed.inside) in
        not_zeros file t.shown keeps.agreed.first (CopyUnit keeps.content) keeps.agreed.at_first (zeros keeps.agreed.first inside)
  ]

  -- and what is chosen is of version 2
  not_first : (layout : Layout) → IsLayoutShownAs 1 t.shown layout → ⊥
  not_first layout shown = let c = shown.super.content in
      let starts : MayStart _ (units_logs file older) (unit_at file.layout file.cluster t.shown) = record {
        settled_is = synced_settled _;
        chance = may.chance;
        copies = rw ((now_units (format file) b.log.start (Sync ∷ b.log.events))) may.copies;
      } in let from : StartsWith (shape file) _ (unit_at file.layout file.cluster t.shown) (content_of c) =
      choice_stays_law (shape file) _ (units_logs file older) (unit_at file.layout file.cluster t.shown)
      (content_of c) may.lived starts (choice_chosen file.layout file.cluster t.shown c may.whole shown.super.chosen) in
      omega (arith, ap (λ (e : Content). e.version) from.content, from.holds.bears.sound.checkpoint.tests.version, may.version, (super_as 1 shown.fields shown.super.usable).0, ap (λ (f : _). f.version) shown.super.fields)

  spares : (n : Told) → OtherWord t n → t ≡ n
  spares n (ToFormat layout cluster status word) = format_spares layout cluster t n word.old word.new status formatted word.formats
  spares n (ToUpgrade status word) = elim (word.runs t word.from may.whole) [
    | inl nothing ↦ one_some word.new.told t n (nothing.without.same ∙ word.from) word.to
    | inr (inl refuses) ↦ one_some word.new.told t n (refuses.same ∙ word.from) word.to
    | inr (inr own) ↦ absurd (not_first own.layout own.shown)
  ]

pub other_words_leave_it : OtherWordsLeaveIt
other_words_leave_it file older b t n life spared chance word =
    spares file older b t (every_life_is_lived file older b t.shown life) spared chance n word
