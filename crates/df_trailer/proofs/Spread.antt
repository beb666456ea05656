-- Checksums that are moved from one after the other to the places of their blocks, from the last place down.
use Rattle.std.{proofs.{Common.{◌≡◌, ℕ, suc, ◌+◌, ◌<◌, ◌≤◌, ◌==◌, Bool, true, false, List, [], length, get_or, set, refl, sym, ap, ◌∙◌, arith, inl, inr}, lemmas.Bool.{cases_eq, eqb-true}, lemmas.List.{get_or-set_same, get_or-set_other, length-set}}, specs.{Prelude.{replicate}, Int.{bit_at}}}
use Rattle.df_trailer.{specs.Text.{bits_of, ones}, proofs.{OneBit.{bit_is_none, ones_more}, References.{few_ones}}}

-- the checksums from a place on are where they belong, and those before it where they were; this many blocks before it are referenced
pub record IsSpread (x blocks : ℕ) (old now : List (List ℕ)) (rank place : ℕ) : Type 0 where
  pub size : length now ≡ blocks
  pub ranked : rank ≡ ones (bits_of place x)
  pub below : (i : ℕ) → i < place → get_or now i [] ≡ get_or old i []
  pub moved : (i : ℕ) → place ≤ i → i < blocks → (bit_at x i == 1) ≡ true → get_or now i [] ≡ get_or old (ones (bits_of i x)) []
  pub empty : (i : ℕ) → place ≤ i → i < blocks → (bit_at x i == 1) ≡ false → get_or now i [] ≡ replicate 16 0

pub spread_first : (x blocks : ℕ) (old : List (List ℕ)) (rank : ℕ)
    → length old ≡ blocks → rank ≡ ones (bits_of blocks x) → IsSpread x blocks old old rank blocks
spread_first x blocks old rank size is = record {
  size = size;
  ranked = is;
  below = λ i early. refl;
  moved = λ i late within one. absurd (omega arith);
  empty = λ i late within unset. absurd (omega arith);
}

next : (p : ℕ) → p + 1 ≡ suc p
next p = omega arith

pub clash : 1 ≤ 0 → ⊥
clash h = omega arith

both : (b : Bool) → b ≡ true → b ≡ false → ⊥
both true a e = absurd (cc)
both false a e = absurd (cc)

-- a set bit counts
pub rank_set : (x p rank : ℕ) → rank ≡ ones (bits_of (p + 1) x) → (bit_at x p == 1) ≡ true → rank ≡ ones (bits_of p x) + 1
rank_set x p rank is set = let one : bit_at x p ≡ 1 = eqb-true (bit_at x p) 1 set in let more = ones_more p x in
    let up : ones (bits_of (p + 1) x) ≡ ones (bits_of (suc p) x) = ap (λ (k : ℕ). ones (bits_of k x)) (next p) in omega arith

pub rank_unset : (x p rank : ℕ) → rank ≡ ones (bits_of (p + 1) x) → (bit_at x p == 1) ≡ false → rank ≡ ones (bits_of p x)
rank_unset x p rank is unset = let none : bit_at x p ≡ 0 = bit_is_none x p (bit_at x p == 1) refl unset in let more = ones_more p x in
    let up : ones (bits_of (p + 1) x) ≡ ones (bits_of (suc p) x) = ap (λ (k : ℕ). ones (bits_of k x)) (next p) in omega arith

pub spread_set : (x blocks : ℕ) (old now : List (List ℕ)) (rank place p r : ℕ)
    → place ≡ p + 1 → rank ≡ r + 1 → place ≤ blocks → (bit_at x p == 1) ≡ true
    → IsSpread x blocks old now rank place → IsSpread x blocks old (set now p (get_or now r [])) r p
spread_set x blocks old now rank place p r at ranked within is was =
    let counts : rank ≡ ones (bits_of p x) + 1 = rank_set x p rank (was.ranked ∙ ap (λ (k : ℕ). ones (bits_of k x)) at) is in
    let few = few_ones p x in let mine : r ≡ ones (bits_of p x) = omega arith in
    let there : get_or now r [] ≡ get_or old (ones (bits_of p x)) [] = was.below r (omega arith) ∙ ap (λ (k : ℕ). get_or old k []) mine in
    record {
      size = length-set now p (get_or now r []) ∙ was.size;
      ranked = mine;
      below = λ i early. get_or-set_other now p i (get_or now r []) [] (λ e. clash (omega arith)) ∙ was.below i (omega arith);
      moved = λ i late inside one. elim (cases_eq i p) [
        | inl here ↦
            ap (λ (k : ℕ). get_or (set now p (get_or now r [])) k []) here ∙ get_or-set_same now p (get_or now r []) [] (omega (arith, was.size))
            ∙ there ∙ ap (λ (k : ℕ). get_or old (ones (bits_of k x)) []) (sym here)
        | inr other ↦ get_or-set_other now p i (get_or now r []) [] other ∙ was.moved i (omega arith) inside one
      ];
      empty = λ i late inside unset. elim (cases_eq i p) [
        | inl here ↦ absurd (both (bit_at x p == 1) is (ap (λ (k : ℕ). bit_at x k == 1) (sym here) ∙ unset))
        | inr other ↦ get_or-set_other now p i (get_or now r []) [] other ∙ was.empty i (omega arith) inside unset
      ];
    }

pub spread_unset : (x blocks : ℕ) (old now : List (List ℕ)) (rank place p : ℕ) → place ≡ p + 1 → place ≤ blocks → (bit_at x p == 1) ≡ false
    → IsSpread x blocks old now rank place → IsSpread x blocks old (set now p (replicate 16 0)) rank p
spread_unset x blocks old now rank place p at within is was = record {
  size = length-set now p (replicate 16 0) ∙ was.size;
  ranked = rank_unset x p rank (was.ranked ∙ ap (λ (k : ℕ). ones (bits_of k x)) at) is;
  below = λ i early. get_or-set_other now p i (replicate 16 0) [] (λ e. clash (omega arith)) ∙ was.below i (omega arith);
  moved = λ i late inside one. elim (cases_eq i p) [
    | inl here ↦ absurd (both (bit_at x p == 1) (ap (λ (k : ℕ). bit_at x k == 1) (sym here) ∙ one) is)
    | inr other ↦ get_or-set_other now p i (replicate 16 0) [] other ∙ was.moved i (omega arith) inside one
  ];
  empty = λ i late inside unset. elim (cases_eq i p) [
    | inl here ↦
        ap (λ (k : ℕ). get_or (set now p (replicate 16 0)) k []) here ∙ get_or-set_same now p (replicate 16 0) [] (omega (arith, was.size))
    | inr other ↦ get_or-set_other now p i (replicate 16 0) [] other ∙ was.empty i (omega arith) inside unset
  ];
}
