-- The bytes of some sectors of an image, and what a write of whole sectors makes of them.
use Rattle.std.proofs.{Common.{◌≡◌, inl, inr, ◌<◌, ◌≤◌, ◌+◌, ◌-◌, ◌*◌, ℕ, false, zero, suc, List, [], ◌++◌, length, take, drop, refl, sym, ◌∙◌, ap, subst, arith, append_assoc, length-append}, lemmas.Bool.{and_left, and_right, cases_lt, le-ltb, lt-leb}, lemmas.Bool.Decides.{nat_tests}, lemmas.List.{drop_all, take-append-drop, drop-drop}}
use Rattle.df_base.{specs.{Fields.{AreBytes}, Image.{Image, IsImage, bytes_at, covers, written}}, proofs.Laws.{AreBytes-append}}
use Rattle.df_layout.specs.{Spans.{sectors_before, span_of}, Zones.{first_sector, zone_sectors}, declared.layout.Layout.{Layout}, declared.places.Zone.TheVariants.{WalHeaders}}
use Rattle.df_format.specs.Own.{place_in}

pub length-bytes_at : (image : Image) (at n : ℕ) → IsImage image → length (bytes_at image at n) ≡ 4096 * n
length-bytes_at image at zero is = refl
length-bytes_at image at (suc n) is =
    omega (arith, length-append (image at) (bytes_at image (at + 1) n), (is.sectors at).size, length-bytes_at image (at + 1) n is)

pub AreBytes-bytes_at : (image : Image) (at n : ℕ) → IsImage image → AreBytes (bytes_at image at n)
AreBytes-bytes_at image at zero is = λ i. omega arith
AreBytes-bytes_at image at (suc n) is =
    AreBytes-append (image at) (bytes_at image (at + 1) n) (is.sectors at).each (AreBytes-bytes_at image (at + 1) n is)

same_first : (one two : Image) (at n : ℕ) → ((k : ℕ) → k < suc n → one (at + k) ≡ two (at + k)) → one at ≡ two at
same_first one two at n same = let here : at + 0 ≡ at = omega arith in subst (λ (s : ℕ). one s ≡ two s) here (same 0 (omega arith))

same_later : (one two : Image) (at n : ℕ)
    → ((k : ℕ) → k < suc n → one (at + k) ≡ two (at + k)) → (k : ℕ) → k < n → one ((at + 1) + k) ≡ two ((at + 1) + k)
same_later one two at n same k inside = let there : at + suc k ≡ (at + 1) + k = omega arith in
    subst (λ (s : ℕ). one s ≡ two s) there (same (suc k) (omega arith))

-- images with the same sectors have the same bytes
pub same_sectors : (one two : Image) (at n : ℕ) → ((k : ℕ) → k < n → one (at + k) ≡ two (at + k)) → bytes_at one at n ≡ bytes_at two at n
same_sectors one two at zero same = refl
same_sectors one two at (suc n) same = λ i. same_first one two at n same i ++ same_sectors one two (at + 1) n (same_later one two at n same) i

-- the first of some sectors
-- a sector of a write holds its part of the bytes
pub covered : (at : ℕ) (bytes : List ℕ) (image : Image) (k : ℕ)
    → 4096 * k < length bytes → written at bytes image (at + k) ≡ take 4096 (drop (4096 * k) bytes)
unfolding written covers
covered at bytes image k inside = let same : at + k - at ≡ k = omega arith in grind (arith, nat_tests)

-- from the k-th of its sectors on, what a write leaves begins with what it wrote
written_from : (at : ℕ) (bytes : List ℕ) (image : Image) (k n : ℕ)
    → length bytes ≤ 4096 * (k + n) → (rest : List ℕ) × (bytes_at (written at bytes image) (at + k) n ≡ drop (4096 * k) bytes ++ rest)
written_from at bytes image k zero fits = ([], sym (λ i. drop_all (4096 * k) bytes (omega arith) i ++ []))
written_from at bytes image k (suc n) fits = elim (cases_lt (4096 * k) (length bytes)) [
  | inl inside ↦ let later = written_from at bytes image (k + 1) n (omega arith) in let place : (at + k) + 1 ≡ at + (k + 1) = omega arith in
      let offset : 4096 * k + 4096 ≡ 4096 * (k + 1) = omega arith in
      let behind : drop (4096 * (k + 1)) bytes ≡ drop 4096 (drop (4096 * k) bytes) =
      ap (λ (m : ℕ). drop m bytes) (sym offset) ∙ sym (drop-drop 4096 (4096 * k) bytes) in
      let tail : bytes_at (written at bytes image) ((at + k) + 1) n ≡ drop 4096 (drop (4096 * k) bytes) ++ later.0 =
      ap (λ (s : ℕ). bytes_at (written at bytes image) s n) place ∙ later.1 ∙ ap (λ (l : List ℕ). l ++ later.0) behind in (
        later.0,
        (λ i. covered at bytes image k inside i ++ tail i)
            ∙ sym (append_assoc (take 4096 (drop (4096 * k) bytes)) (drop 4096 (drop (4096 * k) bytes)) later.0)
            ∙ ap (λ (l : List ℕ). l ++ later.0) (take-append-drop 4096 (drop (4096 * k) bytes)),
      )
  | inr outside ↦ (
    bytes_at (written at bytes image) (at + k) (suc n),
    sym (λ i. drop_all (4096 * k) bytes outside i ++ bytes_at (written at bytes image) (at + k) (suc n)),
  )
]

-- what is read where a write began, begins with what was written
pub written_begins : (at : ℕ) (bytes : List ℕ) (image : Image) (n : ℕ)
    → length bytes ≤ 4096 * n → (rest : List ℕ) × (bytes_at (written at bytes image) at n ≡ bytes ++ rest)
written_begins at bytes image n fits = let here : at + 0 ≡ at = omega arith in let all = written_from at bytes image 0 n (omega arith) in
    (all.0, ap (λ (s : ℕ). bytes_at (written at bytes image) s n) (sym here) ∙ all.1)

-- a write covers no sector in front of it or after it
pub uncovered_below : (at : ℕ) (bytes : List ℕ) (sector : ℕ) → sector < at → covers at bytes sector ≡ false
unfolding covers
uncovered_below at bytes sector order = and_left _ _ (lt-leb at sector order)

pub uncovered_above : (at : ℕ) (bytes : List ℕ) (sector n : ℕ) → length bytes ≤ 4096 * n → at + n ≤ sector → covers at bytes sector ≡ false
unfolding covers
uncovered_above at bytes sector n fits order = and_right _ _ (le-ltb (4096 * (sector - at)) (length bytes) (omega arith))

-- the headers begin after the copies of the superblock
pub slot_from : (layout : Layout) (slot : ℕ) → 4 ≤ (span_of layout (place_in WalHeaders slot)).first
unfolding span_of sectors_before first_sector zone_sectors
slot_from layout slot = omega arith
