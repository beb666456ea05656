-- A name is of one layout: no number begins as `small` and `large` do, and five numbers are read in one way.
use Rattle.std.{proofs.{Common.{◌≡◌, ℕ, ◌≤◌, ◌<◌, List, [], ◌∷◌, ◌++◌, length, get_or, inl, inr, refl, sym, ap, ◌∙◌, arith}, lemmas.Str.Parse.{digit_from_value}, lemmas.Fmt.{decimal_is_IsNumeral}}, specs.{Prelude.{decimal, codes}, Str.Parse.{AllDigits}}}
use Rattle.df_layout.{specs.declared.layout.Layout.{Layout}, proofs.Laws.{same_layout}}
use Rattle.df_program.{specs.Names.{HasNumbers, OneLayout, numbers_of}, proofs.Commas.{fit, from_message_size, from_clients, from_block_size, from_blocks, Five, one_five}}

-- what begins with digits begins with one
first_digit : (ds rest : List ℕ) (x : ℕ) (xs : List ℕ) → AllDigits 10 ds → 0 < length ds → x ∷ xs ≡ ds ++ rest → (48 ≤ x) × (x ≤ 57)
first_digit [] rest x xs all some is = absurd (omega arith)
first_digit (d ∷ ds) rest x xs all some is = let head : x ≡ d = cc is in let range = digit_from_value d all.0 in
    (omega (arith, range.0, head), omega (arith, range.1, head))

numbers_begin : (l : Layout) (x : ℕ) (xs : List ℕ) → x ∷ xs ≡ numbers_of l → (48 ≤ x) × (x ≤ 57)
unfolding numbers_of
numbers_begin l x xs is = let numeral = decimal_is_IsNumeral l.slots (omega (arith, (fit l).slots)) in
    first_digit (decimal l.slots) (44 ∷ from_message_size l) x xs numeral.0.1 numeral.0.0 is

small_no_numbers : (l : Layout) → codes "small" ≡ numbers_of l → ⊥
small_no_numbers l is = omega (arith, (numbers_begin l _ _ is).1)

large_no_numbers : (l : Layout) → codes "large" ≡ numbers_of l → ⊥
large_no_numbers l is = omega (arith, (numbers_begin l _ _ is).1)

small_no_large : codes "small" ≡ codes "large" → ⊥
small_no_large is = let first : 115 ≡ 108 = ap (λ (l : List ℕ). get_or l 0 0) is in omega (arith, first)

five_of : (text : List ℕ) (l : Layout) → text ≡ numbers_of l → Five text l.slots l.message_size l.clients l.block_size l.blocks
unfolding numbers_of
five_of text l is = let fits = fit l in record {
  behind_a = from_message_size l;
  behind_b = from_clients l;
  behind_c = from_block_size l;
  behind_d = from_blocks l;
  cuts_a = record { is = is; fits = fits.slots };
  cuts_b = record { is = refl; fits = fits.message_size };
  cuts_c = record { is = refl; fits = fits.clients };
  cuts_d = record { is = refl; fits = fits.block_size };
  last = refl;
  last_fits = fits.blocks;
}

same_numbers : (l m : Layout) (a b c d e : ℕ) → HasNumbers l a b c d e → HasNumbers m a b c d e → l ≡ m
same_numbers l m a b c d e one other = same_layout l m (one.slots ∙ sym other.slots) (one.message_size
    ∙ sym other.message_size) (one.clients ∙ sym other.clients) (one.block_size ∙ sym other.block_size) (one.blocks ∙ sym other.blocks)

pub one_layout : OneLayout
one_layout name l m (inl x) (inl y) = same_numbers l m 32 8192 4 16384 64 x.1 y.1
one_layout name l m (inl x) (inr (inl y)) = absurd (small_no_large (sym x.0 ∙ y.0))
one_layout name l m (inl x) (inr (inr y)) = absurd (small_no_numbers m (sym x.0 ∙ y))
one_layout name l m (inr (inl x)) (inl y) = absurd (small_no_large (sym y.0 ∙ x.0))
one_layout name l m (inr (inl x)) (inr (inl y)) = same_numbers l m 1024 1048576 64 524288 16384 x.1 y.1
one_layout name l m (inr (inl x)) (inr (inr y)) = absurd (large_no_numbers m (sym x.0 ∙ y))
one_layout name l m (inr (inr x)) (inl y) = absurd (small_no_numbers l (sym y.0 ∙ x))
one_layout name l m (inr (inr x)) (inr (inl y)) = absurd (large_no_numbers l (sym y.0 ∙ x))
one_layout name l m (inr (inr x)) (inr (inr y)) =
    let same = one_five name l.slots l.message_size l.clients l.block_size l.blocks m (five_of name l x) y in
    same_layout l m same.slots same.message_size same.clients same.block_size same.blocks
