-- What an upgrade left begins a history: all units of the old file are of no boot, and the new superblock records the state as it was
-- found.
use Rattle.{std.proofs.Common.{◌≡◌, inl, inr, [], refl, sym, ◌∙◌, ap, arith}, df_base.specs.Image.{Image, IsImage}}
use Rattle.{df_disk.specs.Told.{Told}, df_history.specs.{Lives.{Starts}, OpenLaws.{BeginsHistory}}, df_trailer.specs.Text.{parse_of}}
use Rattle.df_theory.{specs.{Found.{IsClean, IsFound}, Holds.{Holds}, Units.{Units}, View.{View, boot_of, head}}, proofs.Laws.{clean_start_law, one_found_law}}
use Rattle.{df_units.{specs.{Bytes.{unit_at}, Meaning.{layout_of}}, proofs.Laws.{of_places}}, df_lifetime.specs.Upgraded.{IsOld}}
use Rattle.{df_model.specs.{Memory.{Memory}, Result.{AgreeReads}}, df_session.specs.Below.{State as Replica, shape}}
use Rattle.df_upgrade.specs.{Base.{base_fields}, Below.{IsOpenedAs}, Upgrading.{second, upgraded}}

module _ (t : Told) (s : Replica)
    (view : View) (old : IsOld s.file view t.shown) (opened : IsOpenedAs 1 s.file.layout t.shown s) (image : Image) (whole : IsImage image)
    (reads : AgreeReads (unit_at s.file.layout s.file.cluster image) (unit_at s.file.layout s.file.cluster t.shown))
    (found : IsFound (shape (second s.file)) (unit_at s.file.layout s.file.cluster image) (upgraded view (base_fields s)))
    (clean : IsClean (unit_at s.file.layout s.file.cluster image) (upgraded view (base_fields s))) where
  abbrev first : View
  first = upgraded view (base_fields s)

  abbrev before : Units
  before = unit_at s.file.layout s.file.cluster t.shown

  abbrev after : Units
  after = unit_at s.file.layout s.file.cluster image

  holds : Holds (shape (second s.file)) after first
  holds = (clean_start_law (shape (second s.file))
      after first (of_places s.file.layout s.file.cluster s.file.named (parse_of (layout_of s.file.layout)) image whole) found clean).holds

  -- the old file has no boot
  no_boot : boot_of view ≡ 0
  no_boot = (old.found.checkpoint.tests.of.one (old.found.checkpoint.tests.version ∙ old.version)).0

  -- what was found is in memory, and is recorded
  one : opened.view ≡ view
  one = one_found_law (shape s.file) before opened.view view opened.found old.found

  op_is : s.fields.op ≡ view.checkpoint.content.op
  op_is = ap (λ (m : Memory). m.content.op) opened.stands ∙ ap (λ (v : View). v.checkpoint.content.op) one

  head_is : s.head ≡ head view
  head_is = ap (λ (m : Memory). m.head) opened.stands ∙ ap head one

  replies_are : s.replies ≡ view.replies
  replies_are = ap (λ (m : Memory). m.replies) opened.stands ∙ ap (λ (v : View). v.replies) one

  first_boot : boot_of (upgraded view (base_fields s)) ≡ 1
  first_boot = refl

  starts : Starts after [] first
  starts = record {
    prepares = λ k p at. elim at [
      | inl there ↦ omega (arith, (old.found.not_behind.prepare k p (sym (reads.prepare k) ∙ there)).2, no_boot, first_boot)
      | inr none ↦ absurd none
    ];
    replies = λ k r at. elim at [
      | inl there ↦ omega (arith, (old.found.not_behind.reply k r (sym (reads.reply k) ∙ there)).1, no_boot, first_boot)
      | inr none ↦ absurd none
    ];
    copies = λ k c differs at. elim at [
      | inl there ↦ clean k c there differs
      | inr none ↦ absurd none
    ];
    counted = (omega (arith, op_is, head_is), sym replies_are);
  }

  pub begins_history : BeginsHistory (shape (second s.file)) (unit_at s.file.layout s.file.cluster image)
  begins_history = inr (first, holds, starts)
