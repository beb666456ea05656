-- Blocks listed in order of address: which one is next above an address, and what is left after it.
use Rattle.std.{proofs.{Common.{◌≡◌, ℕ, zero, suc, ◌+◌, ◌<◌, ◌≤◌, nat_lt, Bool, true, false, cond, List, [], ◌∷◌, length, Option, Some, None, refl, sym, ◌∙◌, ap, arith}, lemmas.Bool.Decides.{nat_tests}}, specs.List.{filter, range_with_len}}
use Rattle.df_model.specs.Blocks.{entries, entry}

-- blocks whose addresses rise, from the first of these two on and below the second
abbrev pub Rise : ℕ → ℕ → List (ℕ × ℕ) → Type 0
Rise a b [] = Unit {0}
Rise a b (x ∷ xs) = (a ≤ x.0) × (x.0 < b) × Rise (x.0 + 1) b xs

lower : (a c b : ℕ) (xs : List (ℕ × ℕ)) → a ≤ c → Rise c b xs → Rise a b xs
lower a c b [] le rise = tt
lower a c b (x ∷ xs) le rise = (omega (arith, rise.0), rise.1, rise.2)

entry_rise : (a b : ℕ) (o : Option ℕ) (rest : List (ℕ × ℕ)) → a < b → Rise (a + 1) b rest → Rise a b (entry a o rest)
entry_rise a b None rest less rise = lower a (a + 1) b rest (omega arith) rise
entry_rise a b (Some c) rest less rise = (omega arith, less, rise)

pub entries_rise : (f : ℕ → Option ℕ) (a n b : ℕ) → a + n ≤ b → Rise a b (entries f (range_with_len a n))
entries_rise f a zero b room = tt
entries_rise f a (suc n) b room =
    entry_rise a b (f a) (entries f (range_with_len (a + 1) n)) (omega arith) (entries_rise f (a + 1) n b (omega arith))

-- there are no more of them than addresses
pub rising_few : (a b : ℕ) (xs : List (ℕ × ℕ)) → a ≤ b → Rise a b xs → length xs + a ≤ b
rising_few a b [] le rise = omega arith
rising_few a b (x ∷ xs) le rise = let rest : length xs + (x.0 + 1) ≤ b = rising_few (x.0 + 1) b xs (omega (arith, rise.1)) rise.2 in
    omega (arith, rise.0, rest)

-- those above an address
abbrev pub above : ℕ → List (ℕ × ℕ) → List (ℕ × ℕ)
above a xs = filter (λ x. nat_lt a x.0) xs

all_case : (a : ℕ) (x : ℕ × ℕ) (xs : List (ℕ × ℕ)) (t : Bool)
    → nat_lt a x.0 ≡ t → a < x.0 → above a xs ≡ xs → cond t (x ∷ above a xs) (above a xs) ≡ x ∷ xs
all_case a x xs true is less rest = ap (λ (l : List (ℕ × ℕ)). x ∷ l) rest
all_case a x xs false is less rest = absurd (grind (arith, nat_tests))

pub all_above : (a c b : ℕ) (xs : List (ℕ × ℕ)) → a < c → Rise c b xs → above a xs ≡ xs
all_above a c b [] less rise = refl
all_above a c b (x ∷ xs) less rise =
    all_case a x xs (nat_lt a x.0) refl (omega (arith, rise.0)) (all_above a (x.0 + 1) b xs (omega (arith, rise.0)) rise.2)

-- the first of those above an address: where it lies, and that the others are above it
pub record IsNext (a c b : ℕ) (ys : List (ℕ × ℕ)) (x : ℕ × ℕ) (rest : List (ℕ × ℕ)) : Type 0 where
  pub past : a < x.0
  pub from : c ≤ x.0
  pub below : x.0 < b
  pub behind : above x.0 ys ≡ rest

skip_case : (x y : ℕ × ℕ) (ys rest : List (ℕ × ℕ)) (t : Bool)
    → nat_lt x.0 y.0 ≡ t → y.0 ≤ x.0 → above x.0 ys ≡ rest → cond t (y ∷ above x.0 ys) (above x.0 ys) ≡ rest
skip_case x y ys rest true is le same = absurd (grind (arith, nat_tests))
skip_case x y ys rest false is le same = same

next_case : (a c b : ℕ) (y : ℕ × ℕ) (ys : List (ℕ × ℕ)) (x : ℕ × ℕ) (rest : List (ℕ × ℕ)) (t : Bool)
    → Rise c b (y ∷ ys) → nat_lt a y.0 ≡ t → cond t (y ∷ above a ys) (above a ys) ≡ x ∷ rest
    → (above a ys ≡ x ∷ rest → IsNext a (y.0 + 1) b ys x rest) → IsNext a c b (y ∷ ys) x rest
next_case a c b y ys x rest true rise is found more = let less : a < y.0 = grind (arith, nat_tests) in let first : y ≡ x = cc in
    let same : above a ys ≡ rest = cc in let at : y.0 ≡ x.0 = ap (λ (z : ℕ × ℕ). z.0) first in record {
      past = omega (arith, less, at);
      from = omega (arith, rise.0, at);
      below = omega (arith, rise.1, at);
      behind = skip_case x y ys rest (nat_lt x.0 y.0) refl (omega (arith, at))
          (all_above x.0 (y.0 + 1) b ys (omega (arith, at)) rise.2 ∙ sym (all_above a (y.0 + 1) b ys (omega (arith, less)) rise.2) ∙ same);
    }
next_case a c b y ys x rest false rise is found more = let later = more found in let not_above : y.0 ≤ a = grind (arith, nat_tests) in
    record {
      past = later.past;
      from = omega (arith, rise.0, later.from);
      below = later.below;
      behind = skip_case x y ys rest (nat_lt x.0 y.0) refl (omega (arith, later.past, not_above)) later.behind;
    }

pub is_next : (a c b : ℕ) (ys : List (ℕ × ℕ)) (x : ℕ × ℕ) (rest : List (ℕ × ℕ)) → Rise c b ys → above a ys ≡ x ∷ rest → IsNext a c b ys x rest
is_next a c b [] x rest rise is = absurd (cc)
is_next a c b (y ∷ ys) x rest rise is =
    next_case a c b y ys x rest (nat_lt a y.0) rise refl is (λ found. is_next a (y.0 + 1) b ys x rest rise.2 found)

-- without the second bound
abbrev pub RisePairs : ℕ → List (ℕ × ℕ) → Type 0
RisePairs a [] = Unit {0}
RisePairs a (x ∷ xs) = (a ≤ x.0) × RisePairs (x.0 + 1) xs

rise_pairs : (a b : ℕ) (xs : List (ℕ × ℕ)) → Rise a b xs → RisePairs a xs
rise_pairs a b [] rise = tt
rise_pairs a b (x ∷ xs) rise = (rise.0, rise_pairs (x.0 + 1) b xs rise.2)

pub entries_pairs : (f : ℕ → Option ℕ) (a n : ℕ) → RisePairs a (entries f (range_with_len a n))
entries_pairs f a n = rise_pairs a (a + n) (entries f (range_with_len a n)) (entries_rise f a n (a + n) (omega arith))
