-- Tables of headers, and their sectors.
use Rattle.std.{proofs.{Common.{◌≡◌, ◌⊎◌, inl, inr, ℕ, zero, suc, ◌+◌, ◌*◌, ◌<◌, List, [], ◌∷◌, length, take, drop, set, Some, refl, sym, ◌∙◌, ap, arith, length-take, length-drop}, lemmas.{List.{length-set}, Option.{slice_get_within, same_Some}}}, specs.List.{slice_get}}
use Rattle.{df_format.specs.declared.header.Header.{Header}, df_units.{specs.Sample.{reserved_header}, proofs.Laws.{reserved_unit}}}
use Rattle.df_headers.specs.Ring.{ReservedIsTable, TableIsKept, TableIsWritten, in_sector}

-- what is read after a place was written: the new element there, the old one elsewhere
pub set_cases : {X : Type 0} (xs : List X) (i k : ℕ) (x y : X)
    → slice_get (set xs i x) k ≡ Some y → ((k ≡ i) × (y ≡ x)) ⊎ ((k ≡ i → ⊥) × (slice_get xs k ≡ Some y))
set_cases [] i k x y at = absurd (cc)
set_cases (z ∷ xs) zero zero x y at = inl (refl, (let same : x ≡ y = cc in sym same))
set_cases (z ∷ xs) zero (suc k) x y at = inr ((λ same. absurd (omega (arith, same))), at)
set_cases (z ∷ xs) (suc i) zero x y at = inr ((λ same. absurd (omega (arith, same))), at)
set_cases (z ∷ xs) (suc i) (suc k) x y at = elim (set_cases xs i k x y at) [
  | inl here ↦ inl (ap suc here.0, here.1)
  | inr there ↦ inr ((λ same. there.0 (omega (arith, same))), there.1)
]

pub table_kept : TableIsKept
table_kept layout cluster slot table h is valid = record {
  count = omega (arith, is.count, length-set table slot h);
  each = λ i x at. elim (set_cases table slot i h x at) [
    | inl here ↦ rw (sym here.0) at (rw (sym here.1) at valid)
    | inr there ↦ is.each i x there.1
  ];
}

-- ---- the sixteen headers of a sector

get_drop : {X : Type 0} (n i : ℕ) (xs : List X) → slice_get (drop n xs) i ≡ slice_get xs (n + i)
get_drop zero i xs = ap (slice_get xs) (let same : i ≡ zero + i = omega arith in same)
get_drop (suc n) i [] = refl
get_drop (suc n) i (x ∷ xs) = get_drop n i xs ∙ ap (slice_get (x ∷ xs)) (let same : suc (n + i) ≡ suc n + i = omega arith in same)

get_take : {X : Type 0} (n i : ℕ) (xs : List X) (x : X) → slice_get (take n xs) i ≡ Some x → (i < n) × (slice_get xs i ≡ Some x)
get_take zero i xs x at = absurd (cc)
get_take (suc n) i [] x at = absurd (cc)
get_take (suc n) zero (y ∷ xs) x at = (omega arith, at)
get_take (suc n) (suc i) (y ∷ xs) x at = let rest = get_take n i xs x at in (omega (arith, rest.0), rest.1)

get_taken : {X : Type 0} (n i : ℕ) (xs : List X) (x : X) → i < n → slice_get xs i ≡ Some x → slice_get (take n xs) i ≡ Some x
get_taken zero i xs x inside at = absurd (omega arith)
get_taken (suc n) i [] x inside at = absurd (cc)
get_taken (suc n) zero (y ∷ xs) x inside at = at
get_taken (suc n) (suc i) (y ∷ xs) x inside at = get_taken n i xs x (omega arith) at

pub sector_at : (sector i : ℕ) (table : List Header) (h : Header)
    → slice_get (in_sector sector table) i ≡ Some h → (i < 16) × (slice_get table (16 * sector + i) ≡ Some h)
sector_at sector i table h at = let front = get_take 16 i (drop (16 * sector) table) h at in
    (front.0, sym (get_drop (16 * sector) i table) ∙ front.1)

pub sector_has : (sector i : ℕ) (table : List Header) (h : Header)
    → i < 16 → slice_get table (16 * sector + i) ≡ Some h → slice_get (in_sector sector table) i ≡ Some h
sector_has sector i table h inside at = get_taken 16 i (drop (16 * sector) table) h inside (get_drop (16 * sector) i table ∙ at)

pub table_written : TableIsWritten
table_written layout cluster sector table is inside = record {
  sixteen = record {
    count = omega (arith, is.count, length-take 16 (drop (16 * sector) table), length-drop (16 * sector) table);
    each = λ i h at. (is.each (16 * sector + i) h (sector_at sector i table h at).1).sealed;
  };
  inside = inside;
  each = λ i h at. is.each (16 * sector + i) h (sector_at sector i table h at).1;
}

-- ---- reserved headers

pub reserved_table : ReservedIsTable
reserved_table layout cluster table named small count are = record {
  count = count;
  each = λ slot h at. let inside : slot < length table = slice_get_within table slot h at in
      let same : reserved_header cluster slot ≡ h = same_Some _ _ (sym (are slot inside) ∙ at) in
      rw same at (reserved_unit layout cluster slot named small (omega (arith, inside, count)));
}
