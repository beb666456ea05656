-- What a window doesn't show of a text needn't be put.
use Rattle.std.{proofs.{Common.{◌≡◌, ℕ, zero, suc, ◌+◌, ◌-◌, ◌*◌, ◌<◌, ◌≤◌, inl, inr, Option, Some, None, List, [], ◌∷◌, ◌++◌, length, append_assoc, append-nil, sym, ap, ◌∙◌, subst, arith, length-append}, lemmas.Bool.{cases_lt}, lemmas.List.{get_or_append_left}}, specs.{Prelude.{map}, Int.{byte_at}}}
use Rattle.df_base.{specs.Fields.{spelled}, proofs.Laws.{length-spelled, plus_zero}}
use Rattle.df_trailer.{specs.{Spelling.{is_referenced, spell_checks}, Text.{ones}, Writing.{IsPieceShown, captured_blocks, referenced_among}}, proofs.{BitBytes.{spelled_more, spelled_none}, Blocks.{length_listed, so_checks}, Shown.{checks_more, shown_all}}}

-- a text that ends before the window
pub shown_before : (from : ℕ) (room text : List ℕ) → length text ≤ from → IsPieceShown text from room
shown_before from room text ends i inside within = absurd (omega arith)

-- what stands after the window
shown_behind : (from : ℕ) (room a b : List ℕ) → from + length room ≤ length a → IsPieceShown a from room → IsPieceShown (a ++ b) from room
shown_behind from room a b full were i inside within = were i inside (omega arith) ∙ sym (get_or_append_left a b 0 (from + i) (omega arith))

-- a text is the front of another one
pub record IsFront (a b : List ℕ) : Type 0 where
  pub rest : List ℕ
  pub is : b ≡ a ++ rest

pub front_short : (a b : List ℕ) → IsFront a b → length a ≤ length b
front_short a b front = let n = ap (λ (xs : List ℕ). length xs) front.is in omega (arith, n, length-append a front.rest)

-- where an item's front fills the window, the whole item is shown
pub shown_whole : (from : ℕ) (room text a b : List ℕ)
    → IsFront a b → from + length room ≤ length (text ++ a) → IsPieceShown (text ++ a) from room → IsPieceShown (text ++ b) from room
shown_whole from room text a b front full were = shown_all from room ((text ++ a) ++ front.rest) (text ++ b) (append_assoc text a front.rest
    ∙ ap (λ (xs : List ℕ). text ++ xs) (sym front.is)) (shown_behind from room (text ++ a) front.rest full were)

up : (n k : ℕ) → (n + k) + 1 ≡ n + suc k
up n k = omega arith

past : (n m : ℕ) → n ≤ m → n + (m - n) ≡ m
past n m h = omega arith

-- ---- checksums

checks_first : (f : ℕ → Option ℕ) (n k : ℕ) → IsFront (spell_checks (captured_blocks f n)) (spell_checks (captured_blocks f (n + k)))
checks_first f n zero = record { rest = []; is = ap (λ (m : ℕ). spell_checks (captured_blocks f m)) (sym (plus_zero n)) ∙ sym (append-nil (spell_checks (captured_blocks f n))) }
checks_first f n (suc k) = let before = checks_first f n k in let last : List ℕ = spell_checks (f ((n + k) + 1) ∷ []) in record {
  rest = before.rest ++ last;
  is =
      ap (λ (m : ℕ). spell_checks (captured_blocks f m)) (sym (up n k)) ∙ checks_more f (n + k) ∙ ap (λ (xs : List ℕ). xs ++ last) before.is
      ∙ append_assoc (spell_checks (captured_blocks f n)) before.rest last;
}

-- the checksums of the first blocks come first
pub checks_front : (f : ℕ → Option ℕ) (n m : ℕ) → n ≤ m → IsFront (spell_checks (captured_blocks f n)) (spell_checks (captured_blocks f m))
checks_front f n m h = subst (λ (k : ℕ).
    IsFront (spell_checks (captured_blocks f n)) (spell_checks (captured_blocks f k))) (past n m h) (checks_first f n (m - n))

-- the checksums are put from a place on that is the first, or whose checksum is at most at the window's begin
pub checks_begun : (f : ℕ → Option ℕ) (from start n at : ℕ) (room text : List ℕ)
    → length text ≡ start → at ≡ start + length (spell_checks (captured_blocks f n)) → (0 < n → at ≤ from)
    → IsPieceShown text from room → IsPieceShown (text ++ spell_checks (captured_blocks f n)) from room
checks_begun f from start zero at room text size is before were = shown_all from room text (text ++ []) (sym (append-nil text)) were
checks_begun f from start (suc n) at room text size is before were =
    shown_before from room (text ++ spell_checks (captured_blocks f (suc n)))
    (omega (arith, length-append text (spell_checks (captured_blocks f (suc n))), before (omega arith)))

ones_few : (bs : List (Option ℕ)) → ones (map is_referenced bs) ≤ length bs
ones_few [] = omega arith
ones_few (None ∷ bs) = let more = ones_few bs in omega arith
ones_few (Some c ∷ bs) = let more = ones_few bs in omega arith

pub referenced_few : (f : ℕ → Option ℕ) (n : ℕ) → referenced_among f n ≤ n
referenced_few f n = omega (arith, ones_few (captured_blocks f n), length_listed (λ place. f (suc place)) n)

pub checks_size : (f : ℕ → Option ℕ) (n : ℕ) → length (spell_checks (captured_blocks f n)) ≡ 16 * referenced_among f n
checks_size f n = (so_checks (captured_blocks f n)).size

-- ---- bits

spelled_first : (x n k : ℕ) → IsFront (spelled n x) (spelled (n + k) x)
spelled_first x n zero = record { rest = []; is = ap (λ (m : ℕ). spelled m x) (sym (plus_zero n)) ∙ sym (append-nil (spelled n x)) }
spelled_first x n (suc k) = let before = spelled_first x n k in let last : List ℕ = byte_at (n + k) x ∷ [] in record {
  rest = before.rest ++ last;
  is = ap (λ (m : ℕ). spelled m x) (sym (up n k))
      ∙ spelled_more (n + k) x ∙ ap (λ (xs : List ℕ). xs ++ last) before.is ∙ append_assoc (spelled n x) before.rest last;
}

-- the first bytes of a number come first
pub spelled_front : (x n m : ℕ) → n ≤ m → IsFront (spelled n x) (spelled m x)
spelled_front x n m h = subst (λ (k : ℕ). IsFront (spelled n x) (spelled k x)) (past n m h) (spelled_first x n (m - n))

-- a number's bytes are put from the window's begin on
pub bytes_begun : (from start x n : ℕ) (room text : List ℕ)
    → length text ≡ start → n ≡ from - start → IsPieceShown text from room → IsPieceShown (text ++ spelled n x) from room
bytes_begun from start x zero room text at first were =
    shown_all from room text (text ++ spelled 0 x) (sym (ap (λ (xs : List ℕ). text ++ xs) (spelled_none x) ∙ append-nil text)) were
bytes_begun from start x (suc n) room text at first were =
    shown_before from room (text ++ spelled (suc n) x) (omega (arith, length-append text (spelled (suc n) x), length-spelled (suc n) x))

-- and up to the window's end
pub bytes_shown : (from start x n size : ℕ) (room text : List ℕ)
    → length text ≡ start → (n < size → from + length room ≤ start + n) → (size < n → start + size ≤ from)
    → IsPieceShown (text ++ spelled n x) from room → IsPieceShown (text ++ spelled size x) from room
bytes_shown from start x n size room text at full early were = elim (cases_lt n size) [
  | inl less ↦ shown_whole from room text (spelled n x) (spelled size x)
      (spelled_front x n size (omega arith)) (omega (arith, length-append text (spelled n x), length-spelled n x, full less)) were
  | inr most ↦ elim (cases_lt size n) [
    | inl past ↦ shown_before
        from room (text ++ spelled size x) (omega (arith, length-append text (spelled size x), length-spelled size x, early past))
    | inr all ↦ let same : n ≡ size = omega arith in
        shown_all from room (text ++ spelled n x) (text ++ spelled size x) (ap (λ (k : ℕ). text ++ spelled k x) same) were
  ]
]
