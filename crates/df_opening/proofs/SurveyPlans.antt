-- What a survey hands out is planned from what the disk shows after the barrier.
use Rattle.std.{proofs.{Common.{◌≡◌, ℕ, Option, Some, None, sym, ◌∙◌, ap, subst}, lemmas.Option.{same_Some}}, specs.Prelude.{Ok}}
use Rattle.{df_base.specs.Log.{Sync}, df_disk.specs.Told.{Told, after, did}, df_layout.specs.declared.layout.Layout.{Layout}}
use Rattle.{df_units.specs.Bytes.{unit_at}, df_opening.specs.{Raising.{IsPlannedOf}, Surveying.{TellsMends, survey_found}}}
use Rattle.df_journal.{specs.{Scan.{Scan}, Shows.{TellsRings}, declared.table.Start.{Start}}, proofs.Laws.{rings_shown}}
use Rattle.df_damage.{specs.{Opening.{fault_as}, Found.{IsFoundAs}, Surveying.{IsPlannedFor, IsReadOf, TellsSurveyAs, state_found}, Types.{Surveyed}}, proofs.Laws.{head_found}}
use Rattle.df_damage.specs.Surveying as recovered

module _ (version : ℕ) (y : Surveyed) (layout : Layout) (plan : IsPlannedFor y) where
  shown_planned : (t : Told) → IsReadOf version layout (Some t) y.scanned
      → TellsSurveyAs version layout (Some t) (Ok (state_found y)) → IsPlannedOf (survey_found y) (did Sync t)
  shown_planned t read answer = let scan : Scan = y.scanned.rooms.log.slots in
      let found : IsFoundAs version t.shown y.scanned.copies.found = read.found in
      let own : scan.start.cluster ≡ y.scanned.file.cluster = ap (λ (x : Start). x.cluster) read.start ∙ sym read.file.cluster_is in
      let asked : version ≡ y.scanned.file.version = sym (read.file.version_is ∙ read.copies.version_is) in
      let tells : TellsRings layout (unit_at layout scan.start.cluster t.shown) scan = rings_shown layout t scan read.rings_are in record {
        scan = scan;
        copies = y.scanned.copies.slots;
        super = record { content = found.choice.content; chosen = found.choice.is; fields = sym found.choice.fields ∙ sym found.content; usable = subst (λ (n : ℕ). fault_as n y.scanned.copies.found.content ≡ None) asked found.super.usable };
        members_are = found.choice.members;
        start = read.start;
        scanned = subst (λ (c : ℕ). TellsRings y.scanned.file.layout (unit_at y.scanned.file.layout c t.shown) scan) own
            (subst (λ (l : Layout). TellsRings l (unit_at l scan.start.cluster t.shown) scan) (sym read.file.layout_is) tells);
        top = y.traces.tail.op;
        top_is = λ whole v is_found. head_found version layout t.shown (state_found y) (answer whole) v is_found;
        planned = plan.plan;
      }

  pub survey_planned : (old new : Option Told) (t : Told) → new ≡ Some t → new ≡ after Sync old
      → IsReadOf version layout old y.scanned → TellsSurveyAs version layout old (Ok (state_found y)) → IsPlannedOf (survey_found y) t
  survey_planned None new t told barrier read answer = let no : Some t ≡ None = sym told ∙ barrier in absurd (cc)
  survey_planned (Some u) new t told barrier read answer = let same : did Sync u ≡ t = same_Some _ _ (sym barrier ∙ told) in
      subst (IsPlannedOf (survey_found y)) same (shown_planned u read answer)

-- the list is what is to be mended
pub told_mends : (layout : Layout) (told : Option Told) (y : Surveyed)
    → recovered.TellsPlannedMends layout told y → TellsMends layout told (survey_found y)
told_mends layout None y is = tt
told_mends layout (Some t) y is = λ image. let may = is image in
    record { choice = may.choice; four = may.four; table = may.table; mends = may.mends }
