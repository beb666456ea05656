-- A file of version 1 whose copy 2 shows a content above the choice is upgraded, and stopped.
use Rattle.std.{proofs.{Common.{◌≡◌, ◌⊎◌, inl, inr, ℕ, zero, suc, ◌<◌, ◌≤◌, ◌==◌, ◌||◌, ◌^◌, nat_lt, Bool, true, false, if◌then◌else◌, List, [], ◌∷◌, Option, Some, None, refl, sym, ◌∙◌, ap, subst, arith}, lemmas.Bool.{cases_eq}, lemmas.Bool.Decides.{nat_tests}}, specs.{Prelude.{slice_index, ◌++◌}, List.{slice_get}}}
use Rattle.df_theory.{specs.{Sessions.{sessions_after}, Units.{AnyUnit, BlockPlace, BlockUnit, Content, CopyPlace, CopyUnit, Header, HeaderPlace, HeaderUnit, Message, Place, PreparePlace, PrepareUnit, ReplyPlace, ReplyUnit, Session, Units, is_some, or_else}, Copies.{IsChosen, rank_of}, View.{head}, Holds.{Holds}, Next.{MayBoot, booted, kept}, UnitLog.{IsLeftBy, Synced, UnitLog, add, now, put_one, same_place, wrote}, Chance.{Distinct, EachLeft, InPool, NoChance}, Found.{AreOfPlaces, IsClean, IsFound, IsInRange, IsOfPlace}, Upgrades.{HasBare, MayRaise, as_version, of_version, restarted_at}, Sample.{UpgradeSampleLaw}}, proofs.{Choices.{chosen_above, same_copy}, CopyVotes.{agree_at}, PutOne.{put_one_law}, Keeps.{four}, AllOf.{All, now_all, pools_all}, Founds.{holds_found}, Ours.{IsOurs, content_with, distinct, header_with, log4_all, prepare_with}, SampleFiles.{copies_of, layout, reserved}, SampleSlots.{header_shown, slot, table}, SampleSteps.{may_raise}, SampleUnits.{put_all}, Samples.{block, content1, first, leads4, log4, prepare1, reply1, shape, trailer, view1, view2}, SampleEnds.{content2}, Masked.{masked, masked_holds, same_images, unmasked_found}, Upgrades.{raise_law}}}

-- copy 2 shows a later content, which has no second vote
abbrev image : Units
image place = if same_place (CopyPlace 2) place then Some (CopyUnit content2) else now log4 place

-- the superblock of version 2
abbrev content3 : Content
content3 = record { checksum = 31; version = 2; cluster = 3; layout = layout; sequence = 1; boot = 1; op = 0; op_checksum = 0; head = 1; replies = 1; pin = 1; pin_checksum = 5; answered = 2; reply_checksums = 6 ∷ []; trailer = 0; trailer_checksum = 0; trailer_size = 0; rest = [] }

holds4 : Holds shape (now log4) view2
holds4 = leads4.0.leads.rests.holds

ours : (place : Place) (x : AnyUnit) → now log4 place ≡ Some x → IsOurs x
ours = now_all IsOurs log4.start log4.events log4_all

-- ---- each unit is of its place

of_prepare1 : IsInRange prepare1.header
of_prepare1 = record { client = (omega arith, omega arith); request = (omega arith, omega arith); op = (omega arith, omega arith); checksums = (omega arith, omega arith) }

of_other : IsInRange (prepare_with 7).header
of_other = record { client = (omega arith, omega arith); request = (omega arith, omega arith); op = (omega arith, omega arith); checksums = (omega arith, omega arith) }

of_reply1 : IsInRange reply1.header
of_reply1 = record { client = (omega arith, omega arith); request = (omega arith, omega arith); op = (omega arith, omega arith); checksums = (omega arith, omega arith) }

prepare_ranged : (b : Bool) → IsInRange (if b then prepare_with 7 else prepare1).header
prepare_ranged true = of_other
prepare_ranged false = of_prepare1

header_ranged : (a b : Bool) → let h : Header = if a then prepare1.header else (if b then (prepare_with 7).header else reserved) in
    (h.checksum < 2 ^ 128) × (0 < h.op → IsInRange h)
header_ranged true b = (omega arith, λ some. of_prepare1)
header_ranged false true = (omega arith, λ some. of_other)
header_ranged false false = (omega arith, λ some. absurd (omega arith))

copy_low : (b : Bool) → (if b then content2 else content1).checksum < 2 ^ 128
copy_low true = omega arith
copy_low false = omega arith

pub low_bytes : (i : ℕ) → slice_index (0 ∷ []) i < 256
low_bytes zero = omega arith
low_bytes (suc i) = omega arith

block_of : (a : ℕ) (y : AnyUnit) (p q : Bool) → or_else (if p then Some (BlockUnit trailer) else None)
    (or_else (if q then Some (BlockUnit block) else None) None) ≡ Some y → IsOfPlace shape (BlockPlace a) y
block_of a y true q is =
    (trailer, (let both : Some (BlockUnit trailer) ≡ Some y = is in let one : y ≡ BlockUnit trailer = cc in one), omega arith, low_bytes)
block_of a y false true is =
    (block, (let both : Some (BlockUnit block) ≡ Some y = is in let one : y ≡ BlockUnit block = cc in one), omega arith, λ i. omega arith)
block_of a y false false is = absurd (let both : None ≡ Some y = is in cc)

places4 : AreOfPlaces shape (now log4)
places4 (CopyPlace n) x is = let a = holds4.bears.agrees (CopyPlace n) x is in
    let o : a.0 ≡ (if a.0.checksum == 22 then content2 else content1) = subst IsOurs a.1 (ours (CopyPlace n) x is) in
    (a.0, a.1, rw (sym o) at (copy_low (a.0.checksum == 22)))
places4 (HeaderPlace s) x is = let a = holds4.bears.agrees (HeaderPlace s) x is in
    let o : a.0 ≡ header_with a.0.checksum = subst IsOurs a.1 (ours (HeaderPlace s) x is) in
    let r : (a.0.checksum < 2 ^ 128) × (0 < a.0.op → IsInRange a.0) = rw (sym o) at (header_ranged (a.0.checksum == 5) (a.0.checksum == 7)) in
    (a.0, a.1, r.0, λ some. (a.2.slot some, r.1 some))
places4 (PreparePlace s) x is = let a = holds4.bears.agrees (PreparePlace s) x is in
    let o = subst IsOurs a.1 (ours (PreparePlace s) x is) in
    (a.0, a.1, a.2.slot, rw (sym o.0) at (prepare_ranged (a.0.header.checksum == 7)))
places4 (ReplyPlace k) x is = let a = holds4.bears.agrees (ReplyPlace k) x is in
    let o : a.0 ≡ reply1 = subst IsOurs a.1 (ours (ReplyPlace k) x is) in (a.0, a.1, rw o of_reply1, a.2.alone)
places4 (BlockPlace a) x is = block_of a x (1 == a) (2 == a) is

places : AreOfPlaces shape image
places (CopyPlace n) x is = go (2 == n) is
  where
    go : (b : Bool) → (if b then Some (CopyUnit content2) else now log4 (CopyPlace n)) ≡ Some x → IsOfPlace shape (CopyPlace n) x
    go true shown =
        (content2, (let both : Some (CopyUnit content2) ≡ Some x = shown in let one : x ≡ CopyUnit content2 = cc in one), omega arith)
    go false shown = places4 (CopyPlace n) x shown
places (HeaderPlace s) x is = places4 (HeaderPlace s) x is
places (PreparePlace s) x is = places4 (PreparePlace s) x is
places (ReplyPlace k) x is = places4 (ReplyPlace k) x is
places (BlockPlace a) x is = places4 (BlockPlace a) x is

-- ---- the view is found

same_masked : masked content1 (now log4) ≡ masked content1 image
same_masked = same_images (masked content1 (now log4)) (masked content1 image) (λ n. refl) (λ s. refl) (λ s. refl) (λ k. refl) (λ a. refl)

other_copy : (n : ℕ) → n < 4 → (n ≡ 2 → ⊥) → image (CopyPlace n) ≡ Some (CopyUnit content1)
other_copy n below away = elim (four n below) [
  | inl at ↦ rw at refl
  | inr (inl at) ↦ rw at refl
  | inr (inr (inl at)) ↦ absurd (away at)
  | inr (inr (inr at)) ↦ rw at refl
]

chosen : IsChosen image content1
chosen = chosen_above image content1 (agree_at image content1 0 1 (omega arith) (omega arith) refl refl) (λ d a. inl (elim (cases_eq a.first 2) [
  | inl here ↦ same_copy image a.second d content1 a.at_second (other_copy a.second a.inside (λ e. omega (arith, a.apart)))
  | inr away ↦ same_copy image a.first d content1 a.at_first (other_copy a.first (omega (arith, a.apart, a.inside)) away)
]))

found : IsFound shape image view2
found = unmasked_found
    shape image view2 (rw same_masked at (masked_holds shape (now log4) view2 places4 (holds_found shape (now log4) view2 holds4))) chosen

-- ---- it may be raised

abbrev mends : List (ℕ × Units)
mends = (2, put_one (CopyPlace 2) (CopyUnit content1)) ∷ []

pub never_kept : (o : Option Session) (op : ℕ) (r : Message) → kept o op None ≡ Some r → ⊥
never_kept None op r is = let both : None ≡ Some r = is in cc
never_kept (Some s) op r is = go (nat_lt op s.op) is
  where
    go : (b : Bool) → (if b then None else None) ≡ Some r → ⊥
    go true both = (let none : None ≡ Some r = both in cc)
    go false both = (let none : None ≡ Some r = both in cc)

is_zero : (k : ℕ) → (k == 0) ≡ true → k ≡ 0
is_zero k e = grind (arith, nat_tests)

stored_named : (k : ℕ) (r : Message) → view2.stored k ≡ Some r → slice_index (6 ∷ []) k ≡ r.header.checksum
stored_named k r is = go (k == 0) refl is
  where
    go : (b : Bool) → (k == 0) ≡ b → (if b then Some reply1 else view1.stored k) ≡ Some r → slice_index (6 ∷ []) k ≡ r.header.checksum
    go true at both = let one : reply1 ≡ r = (let two : Some reply1 ≡ Some r = both in cc) in
        ap (λ (i : ℕ). slice_index (6 ∷ []) i) (is_zero k at) ∙ ap (λ (m : Message). m.header.checksum) one
    go false at both =
        absurd (never_kept (slice_get (sessions_after first.checkpoint.parts.sessions (first.tail ++ prepare1 ∷ [])) k) (head first) r both)

spare : (k : ℕ) → 4 ≤ k → slice_index (6 ∷ []) k ≡ 0
spare zero low = absurd (omega arith)
spare (suc k) low = refl

unstored : (k : ℕ) → view2.stored k ≡ None → slice_index (6 ∷ []) k ≡ 0
unstored zero none = absurd (let both : Some reply1 ≡ None = none in cc)
unstored (suc k) none = refl

boots : MayBoot (as_version 2 view2) content3
boots = may_raise (as_version 2 view2) 31 5 (6 ∷ []) refl (omega arith)
    (record { pin_from = (omega arith, omega arith); pin_to = omega arith; checksum = refl; answered = (omega arith, omega arith); stored = λ k r at low. stored_named k r at; unstored = unstored; spare = spare })

may : MayRaise shape 2 image view2 table [] mends content3
may = record {
  places = places;
  found = found;
  tells = λ s. slot image s (header_shown s);
  puts_headers = tt;
  agreed = record { first = 0; second = 1; apart = omega arith; inside = omega arith; at_first = refl; at_second = refl };
  puts_copies = (put_one_law (CopyPlace 2) (CopyUnit content1), (λ e. omega arith), (λ e. omega arith), tt);
  each_slot = λ s below. inl (header_shown s);
  each_copy = λ k below. elim (cases_eq k 2) [ inl here ↦ inr (inl here) | inr away ↦ inl (other_copy k below away) ];
  boot = boots;
}

above : rank_of content1 < rank_of content2
above = omega arith

unclean : IsClean image view2 → ⊥
unclean clean = elim (clean 2 content2 refl (λ e. omega arith)) [
  | inl same ↦ omega (arith, ap rank_of same)
  | inr less ↦ omega (arith, less)
]

-- ---- a stop within copy 2 of the update

abbrev half : UnitLog
half = add Synced (wrote (put_one (CopyPlace 1) (CopyUnit content3)) (add Synced (wrote
    (put_one (CopyPlace 0) (CopyUnit content3)) (add Synced (wrote (put_one (CopyPlace 2) (CopyUnit content1)) (restarted_at image))))))

abbrev log : UnitLog
log = wrote (put_one (CopyPlace 2) (CopyUnit content3)) half

-- what was settled there at the start is shown again
abbrev left : Units
left place = if same_place (CopyPlace 2) place then Some (CopyUnit content2) else now half place

left_by : IsLeftBy log left
left_by place firm = go (same_place (CopyPlace 2) place) firm
  where
    go : (b : Bool) → (is_some (if b then Some (CopyUnit content3) else None) || false) ≡ false
        → (if b then Some (CopyUnit content2) else now half place) ≡ or_else (if b then Some (CopyUnit content3) else None) (now half place)
    go true wet = absurd (let no_unit : true ≡ false = wet in cc)
    go false dry = refl

-- units of the sample, or the new superblock
abbrev IsKnown : AnyUnit → Type 0
IsKnown x = IsOurs x ⊎ (x ≡ CopyUnit content3)

no_third : (c : Content) → IsOurs (CopyUnit c) → c.checksum ≡ 31 → ⊥
no_third c is same = let one : c ≡ content1 = is ∙ ap content_with same in omega (arith, same, ap (λ (x : Content). x.checksum) one)

distinct_third : (x : AnyUnit) → IsOurs x → Distinct x (CopyUnit content3)
distinct_third (CopyUnit c) is = λ same. absurd (no_third c is same)
distinct_third (HeaderUnit h) is = tt
distinct_third (PrepareUnit h) is = tt
distinct_third (ReplyUnit h) is = tt
distinct_third (BlockUnit h) is = tt

third_distinct : (x : AnyUnit) → IsOurs x → Distinct (CopyUnit content3) x
third_distinct (CopyUnit c) is = λ same. absurd (no_third c is (sym same))
third_distinct (HeaderUnit h) is = tt
third_distinct (PrepareUnit h) is = tt
third_distinct (ReplyUnit h) is = tt
third_distinct (BlockUnit h) is = tt

distinct_known : (x y : AnyUnit) → IsKnown x → IsKnown y → Distinct x y
distinct_known x y (inl one) (inl two) = distinct x y one two
distinct_known x y (inl one) (inr two) = subst (λ (z : AnyUnit). Distinct x z) (sym two) (distinct_third x one)
distinct_known x y (inr one) (inl two) = subst (λ (z : AnyUnit). Distinct z y) (sym one) (third_distinct y two)
distinct_known x y (inr one) (inr two) = subst (λ (z : AnyUnit). Distinct z y) (sym one) (rw two (λ same. refl))

image_known : (place : Place) (x : AnyUnit) → image place ≡ Some x → IsKnown x
image_known place x is = go (same_place (CopyPlace 2) place) is
  where
    go : (b : Bool) → (if b then Some (CopyUnit content2) else now log4 place) ≡ Some x → IsKnown x
    go true shown = inl (subst IsOurs (let both : Some (CopyUnit content2) ≡ Some x = shown in let one : CopyUnit content2 ≡ x = cc in one) refl)
    go false shown = inl (ours place x shown)

log_known : All IsKnown log.start log.events
log_known = let l1 : UnitLog = add Synced (wrote (put_one (CopyPlace 2) (CopyUnit content1)) (restarted_at image)) in
    let a1 : All IsKnown l1.start l1.events = put_all IsKnown (CopyPlace 2) (CopyUnit content1) (restarted_at image) (inl refl) image_known in
    let l2 : UnitLog = add Synced (wrote (put_one (CopyPlace 0) (CopyUnit content3)) l1) in
    let a2 : All IsKnown l2.start l2.events = put_all IsKnown (CopyPlace 0) (CopyUnit content3) l1 (inr refl) a1 in
    let a3 : All IsKnown half.start half.events = put_all IsKnown (CopyPlace 1) (CopyUnit content3) l2 (inr refl) a2 in
    put_all IsKnown (CopyPlace 2) (CopyUnit content3) half (inr refl) a3

left_pooled : (place : Place) (x : AnyUnit) → left place ≡ Some x → InPool log place x
left_pooled place x is = go (same_place (CopyPlace 2) place) refl is
  where
    go : (b : Bool)
        → same_place (CopyPlace 2) place ≡ b → (if b then Some (CopyUnit content2) else now half place) ≡ Some x → InPool log place x
    go true at shown = inl (inr (inr (inr (inl (ap (λ (b : Bool). if b then Some (CopyUnit content2) else now log4 place) at ∙ shown)))))
    go false at shown = inl (inl shown)

chance : NoChance log left
chance = record {
  pooled = left_pooled;
  distinct = λ place other x y one two. distinct_known
      x y (pools_all IsKnown log.start log.events log_known place x one) (pools_all IsKnown log.start log.events log_known other y two);
}

-- the new superblock has two votes
not_old : (n : ℕ) → n < 4 → left (CopyPlace n) ≡ Some (CopyUnit content1) → n ≡ 3
not_old n below is = elim (four n below) [
  | inl at ↦ absurd (differ (ap (λ (k : ℕ). left (CopyPlace k)) (sym at) ∙ is))
  | inr (inl at) ↦ absurd (differ (ap (λ (k : ℕ). left (CopyPlace k)) (sym at) ∙ is))
  | inr (inr (inl at)) ↦ absurd (other (ap (λ (k : ℕ). left (CopyPlace k)) (sym at) ∙ is))
  | inr (inr (inr at)) ↦ at
]
  where
    differ : Some (CopyUnit content3) ≡ Some (CopyUnit content1) → ⊥
    differ both = let same : content3 ≡ content1 = cc (both) in omega (arith, ap (λ (c : Content). c.checksum) same)

    other : Some (CopyUnit content2) ≡ Some (CopyUnit content1) → ⊥
    other both = let same : content2 ≡ content1 = cc (both) in omega (arith, ap (λ (c : Content). c.checksum) same)

left_found : IsFound (of_version 2 shape) left (booted view2 content3)
left_found = elim (kept_at left left_by chance) [
  | inl old ↦ absurd (omega (arith, not_old old.chosen.agreed.first (omega (arith, old.chosen.agreed.apart, old.chosen.agreed.inside)) old.chosen.agreed.at_first, not_old old.chosen.agreed.second old.chosen.agreed.inside old.chosen.agreed.at_second, old.chosen.agreed.apart))
  | inr new ↦ new
]
  where
    kept_at : EachLeft log (λ j. HasBare shape 2 j view2 content3)
    kept_at = (raise_law shape 2 image view2 table [] mends content3 (copies_of content3) may).0.1.1.1.1.1.1.1.0

dirty : IsClean left (booted view2 content3) → ⊥
dirty clean = elim (clean 2 content2 refl (λ e. omega arith)) [
  | inl same ↦ omega (arith, ap rank_of same)
  | inr less ↦ omega (arith, less)
]

pub upgrade_sample_law : UpgradeSampleLaw
upgrade_sample_law = record { shape = shape; image = image; view = view2; above = content2; next = content3; table = table; mends = mends; version = refl; may = may; shows = (refl, above); unclean = unclean; log = log; left = left; is_left = (left_by, chance); found = left_found; dirty = (refl, dirty) }
