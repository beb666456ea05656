-- An update is stopped within copy 1, and mended.
use Rattle.std.proofs.Common.{◌≡◌, ◌⊎◌, inl, inr, ℕ, ◌<◌, ◌||◌, Bool, true, false, if◌then◌else◌, List, [], ◌∷◌, Some, None, refl, sym, ◌∙◌, ap, arith}
use Rattle.df_theory.{specs.{Units.{Content, CopyPlace, CopyUnit, Units, is_some, or_else}, UnitLog.{same_place, IsLeftBy, Stopped, Synced, UnitLog, add, now, put_one, wrote}, Chance.{NoChance}, Holds.{Holds}, Rests.{IsGoodLog}, MendLaws.{IsNumber, MayMend}, Sample.{UpdateSampleLaw}}, proofs.{Writes.{stop_law}, PutOne.{put_one_law}, Keeps.{four}, AllOf.{All}, Ours.{IsOurs, distinct_in, log4_all}, SampleSlots.{header_shown, slot, table}, SampleUnits.{put_all}, Without.{without, without_shows}, Samples.{content1, log4, shape, view2}, SampleEnds.{content2, leads5, view5}}}

-- copy 0 is durable, and copy 1 is being written
abbrev half : UnitLog
half = add Synced (wrote (put_one (CopyPlace 0) (CopyUnit content2)) (add Synced log4))

abbrev log : UnitLog
log = wrote (put_one (CopyPlace 1) (CopyUnit content2)) half

-- copy 1 is torn
abbrev image : Units
image = without (CopyPlace 1) (now half)

half_all : All IsOurs half.start half.events
half_all = put_all IsOurs (CopyPlace 0) (CopyUnit content2) (add Synced log4) refl log4_all

log_all : All IsOurs log.start log.events
log_all = put_all IsOurs (CopyPlace 1) (CopyUnit content2) half refl half_all

good : IsGoodLog shape view2 view5 log
good = leads5.0.leads.moments.1.1.1.1.0

left : IsLeftBy log image
left place firm = go (same_place (CopyPlace 1) place) firm
  where
    go : (b : Bool) → (is_some (if b then Some (CopyUnit content2) else None) || false) ≡ false
        → (if b then None else now half place) ≡ or_else (if b then Some (CopyUnit content2) else None) (now half place)
    go true wet = absurd (let no_unit : true ≡ false = wet in cc)
    go false dry = refl

chance : NoChance log image
chance = record { pooled = λ place x is. inl (inl (without_shows (CopyPlace 1) place (now half) x is)); distinct = distinct_in log log_all }

-- beside copy 0 no copy shows the next content
no_vote : (n : ℕ) → 0 < n → n < 4 → image (CopyPlace n) ≡ Some (CopyUnit content2) → ⊥
no_vote n above below is = elim (four n below) [
  | inl at ↦ omega (arith, at)
  | inr (inl at) ↦ (let none : None ≡ Some (CopyUnit content2) = ap (λ (k : ℕ). image (CopyPlace k)) (sym at) ∙ is in cc)
  | inr (inr (inl at)) ↦ differ (ap (λ (k : ℕ). image (CopyPlace k)) (sym at) ∙ is)
  | inr (inr (inr at)) ↦ differ (ap (λ (k : ℕ). image (CopyPlace k)) (sym at) ∙ is)
]
  where
    differ : Some (CopyUnit content1) ≡ Some (CopyUnit content2) → ⊥
    differ both = let same : content1 ≡ content2 = cc (both) in omega (arith, ap (λ (c : Content). c.checksum) same)

holds : Holds shape image view2
holds = elim (good.left image left chance) [
  | inl old ↦ old
  | inr new ↦ absurd (no_vote new.chosen.agreed.second (omega (arith, new.chosen.agreed.apart)) new.chosen.agreed.inside new.chosen.agreed.at_second)
]

-- ---- the mending

abbrev mends : List (ℕ × Units)
mends = (0, put_one (CopyPlace 0) (CopyUnit content1)) ∷ (1, put_one (CopyPlace 1) (CopyUnit content1)) ∷ []

copy : (k : ℕ) → k < 4 → (image (CopyPlace k) ≡ Some (CopyUnit content1)) ⊎ IsNumber k mends
copy k below = elim (four k below) [
  | inl at ↦ inr (inl at)
  | inr (inl at) ↦ inr (inr (inl at))
  | inr (inr (inl at)) ↦ inl (rw at refl)
  | inr (inr (inr at)) ↦ inl (rw at refl)
]

may : MayMend shape (add (Stopped image) log) view2 table [] mends
may = record {
  rests = stop_law shape log view2 image (good.safe.stopped image left chance) holds;
  quiet = λ place wet. absurd (let no_unit : false ≡ true = wet in cc);
  tells = λ s. slot image s (header_shown s);
  puts_headers = tt;
  agreed = record { first = 2; second = 3; apart = omega arith; inside = omega arith; at_first = refl; at_second = refl };
  puts_copies = (put_one_law (CopyPlace 0) (CopyUnit content1), (λ e. omega arith), (λ e. omega arith), (put_one_law (CopyPlace 1) (CopyUnit content1), (λ e. omega arith), (λ e. omega arith), tt));
  each_slot = λ s below. inl (header_shown s);
  each_copy = copy;
}

pub update_sample_law : UpdateSampleLaw
update_sample_law = record { shape = shape; log = log; view = view2; next = view5; image = image; safe = good.safe; left = (left, chance, holds); copies = (refl, refl, refl); table = table; mends = mends; may = may }
