-- After the mending each copy says what the choice did, and the superblock of an upgrade is above that.
use Rattle.std.proofs.{Common.{◌≡◌, inl, inr, ℕ, ◌+◌, ◌*◌, ◌<◌, ◌≤◌, List, [], ◌∷◌, ◌++◌, length, get_or, Bool, true, false, Option, Some, None, refl, sym, ◌∙◌, ap, subst, arith}, lemmas.Bool.{cases_Bool}}
use Rattle.{df_base.specs.{Image.{Image}, Log.{Event, Log, Sync, now}, Moments.{adds}}, df_layout.specs.declared.layout.Layout.{Layout}}
use Rattle.{df_disk.{specs.{Told.{Told}, Adds.{after_all}}, proofs.Laws.{none_after}}, df_headers.specs.Ring.{sector_writes}}
use Rattle.df_format.{specs.{Copies.{Content, content_at, content_with}, SuperRules.{IsUsable}, declared.header.Header.{Header}, declared.superblock.SuperFields.{SuperFields}}, proofs.Laws.{uncovered_below, slot_from}}
use Rattle.{df_quorum.specs.Quorum.{IsChosenContent}, df_damage.{proofs.Laws.{added_is_told, super_as}, specs.Anew.{told_after}}}
use Rattle.df_superblock.{specs.Events.{repair_events}, proofs.Laws.{Spares, copy_put, member_spared, other_written, seen_apart, written_shows}}
use Rattle.df_opening.{specs.{Mending.{header_events, sectors_of}, Raising.{IsPlannedOf}, Sparing.{image_after}, Survey.{Survey}}, proofs.Laws.{shown_after, now_adds}}
use Rattle.df_upgrade.specs.{Base.{IsAbove, base_fields}, Upgrading.{restoring_events}}

-- ---- images

after_both : (xs ys : List Event) (image : Image) → image_after (xs ++ ys) image ≡ image_after ys (image_after xs image)
after_both [] ys image = refl
after_both (x ∷ xs) ys image = after_both xs ys _

-- ---- header sectors stand after the copies

module _ (layout : Layout) (table : List Header) (n : ℕ) (below : n < 4) where
  writes_stay : (ks : List ℕ) (image : Image) → content_at (image_after (sector_writes layout table ks) image) n ≡ content_at image n
  writes_stay [] image = refl
  writes_stay (k ∷ ks) image =
      writes_stay ks _ ∙ seen_apart _ _ image n (uncovered_below _ _ n (omega (arith, below, slot_from layout (16 * k))))

  headers_stay : (ks : List ℕ) (image : Image) → content_at (image_after (header_events layout table ks) image) n ≡ content_at image n
  headers_stay [] image = refl
  headers_stay (k ∷ ks) image =
      ap (λ (i : Image). content_at i n) (after_both (sector_writes layout table (k ∷ ks)) (Sync ∷ []) image) ∙ writes_stay (k ∷ ks) image

-- ---- copies

-- a copy that isn't written stays
spared_stays : (f : SuperFields) → IsUsable f → (n number : ℕ) (members : List Bool) (image : Image) → number + length members ≤ 4
    → Spares n number members → content_at (image_after (repair_events f number members) image) n ≡ content_at image n
spared_stays f usable n number [] image fits spared = refl
spared_stays f usable n number (true ∷ members) image fits spared =
    spared_stays f usable n (number + 1) members image (omega (arith, fits)) spared
spared_stays f usable n number (false ∷ members) image fits spared =
    spared_stays f usable n (number + 1) members _ (omega (arith, fits)) spared.1
    ∙ seen_apart number _ image n ((copy_put f usable number (omega (arith, fits))).alone n spared.0)

module _ (s : Survey) (t : Told) (four : length s.chosen.members ≡ 4) (usable : IsUsable s.state.fields) (plan : IsPlannedOf s t) where
  abbrev behind : Image
  behind = image_after (restoring_events s) t.shown

  abbrev mid : Image
  mid = image_after (header_events s.state.file.layout s.state.headers (sectors_of s.state.file.layout s.mends)) t.shown

  parts : behind ≡ image_after (repair_events s.state.fields 0 s.chosen.members) mid
  parts = after_both (header_events s.state.file.layout s.state.headers (sectors_of s.state.file.layout s.mends))
      (repair_events s.state.fields 0 s.chosen.members) t.shown

  -- each shows a content with the fields of the choice
  each_says : (n : ℕ) → n < 4 → (c : Content) × (content_at behind n ≡ Some c) × (c.fields ≡ s.state.fields)
  each_says n below = elim (cases_Bool (get_or s.chosen.members n false)) [
    | inl member ↦ let here : 0 + n ≡ n = omega arith in
        let spared : Spares n 0 s.chosen.members = rw here at (member_spared 0 n s.chosen.members member) in (
          plan.super.content,
          ap (λ (i : Image). content_at i n) parts ∙ spared_stays s.state.fields usable n 0 s.chosen.members mid (omega (arith, four)) spared
              ∙ headers_stay s.state.file.layout s.state.headers n below (sectors_of s.state.file.layout s.mends) t.shown
              ∙ (plan.members_are n below).0 member,
          plan.super.fields,
        )
    | inr other ↦ let here : 0 + n ≡ n = omega arith in let log : Log = record { start = mid; events = [] } in (
      content_with s.state.fields,
      ap (λ (i : Image). content_at i n) (parts ∙ sym (now_adds (repair_events s.state.fields 0 s.chosen.members) log))
          ∙ ap (λ (k : ℕ). content_at (now (adds (repair_events s.state.fields 0 s.chosen.members) log)) k) (sym here)
          ∙ written_shows s.state.fields (content_with s.state.fields) (copy_put s.state.fields usable)
          (0 + n) 0 s.chosen.members log (omega (arith, four)) (other_written 0 n s.chosen.members (omega (arith, below, four)) other),
      refl,
    )
  ]

  -- so the choice has them
  chosen_says : (c : Content) → IsChosenContent (content_at behind) c → c.fields ≡ s.state.fields
  chosen_says c chosen = let there = each_says chosen.agreed.first (omega (arith, chosen.agreed.apart, chosen.agreed.inside)) in
      let same : there.0 ≡ c = (let both : Some there.0 ≡ Some c = sym there.1 ∙ chosen.agreed.at_first in cc) in
      ap (λ (x : Content). x.fields) (sym same) ∙ there.2

-- which is below the superblock of an upgrade, by its boot
above_told : (s : Survey) (t : Told) → length s.chosen.members ≡ 4 → IsUsable s.state.fields
    → s.state.file.version ≡ 1 → IsPlannedOf s t → IsAbove (Some (told_after (restoring_events s) t)) (base_fields s.state)
above_told s t four usable one plan = λ whole c chosen. let asked = super_as s.state.file.version s.state.fields plan.super.usable in
    let none : s.state.fields.boot ≡ 0 =
    elim asked.1.version [ inl first ↦ first.boot | inr second ↦ absurd (omega (arith, second.version, asked.0, one)) ] in
    let says = chosen_says s t four usable plan c (rw (shown_after (restoring_events s) t) at chosen) in
    omega (arith, none, ap (λ (f : SuperFields). f.boot) says, ap (λ (f : SuperFields). f.sequence) says)

pub is_above : (s : Survey) (old new : Option Told) → length s.chosen.members ≡ 4 → IsUsable s.state.fields → s.state.file.version ≡ 1
    → ((t : Told) → old ≡ Some t → IsPlannedOf s t) → new ≡ after_all (restoring_events s) old → IsAbove new (base_fields s.state)
is_above s None new four usable one plan added =
    subst (λ (o : Option Told). IsAbove o (base_fields s.state)) (sym (added ∙ none_after (restoring_events s))) tt
is_above s (Some t) new four usable one plan added =
    rw ((added ∙ added_is_told (restoring_events s) t)) (above_told s t four usable one (plan t refl))
