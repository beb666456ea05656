-- Sectors and places: where a place shows something else than another image does, one of its sectors does; and each sector of a place lies
-- in its zone.
use Rattle.std.{proofs.{Common.{◌≡◌, ◌⊎◌, inl, inr, ℕ, zero, suc, ◌+◌, ◌<◌, ◌≤◌, true, sym, ◌∙◌, ap, arith}, lemmas.Bool.{cases_Bool, both_ways, and_from, and_parts, le-leb, lt-ltb, leb-true, ltb-true}, lemmas.Slice.Eq.{bytes_eq-Decides}}, specs.{Str.{bytes_eq}, Prelude.{nat_le, nat_lt}}}
use Rattle.{df_base.specs.Image.{Image}, df_format.proofs.Laws.{has-true, same_copy}, df_theory.specs.Units.{CopyPlace}}
use Rattle.df_layout.{specs.{declared.layout.Layout.{Layout}, Zones.{end_sector, file_sectors, first_sector}}, proofs.Laws.{lies_inside}}
use Rattle.df_theory.specs.Units
use Rattle.df_units.{specs.{Bytes.{copy_unit, has, has_place, span_at, unit_at}, Meaning.{place_of}}, proofs.Laws.{is_format}}

-- ---- the search

-- two images differ at a sector
pub record Differs (a b : Image) (first count : ℕ) : Type 0 where
  pub sector : ℕ
  pub from : first ≤ sector
  pub below : sector < first + count
  pub differs : a sector ≡ b sector → ⊥

abbrev pub AreSame : (a b : Image) (first count : ℕ) → Type 0
AreSame a b first count = (sector : ℕ) → first ≤ sector → sector < first + count → a sector ≡ b sector

-- the last one is the same
one_more : (a b : Image) (first count : ℕ) → AreSame a b first count → a (first + count) ≡ b (first + count) → AreSame a b first (suc count)
one_more a b first count same last sector from below = elim (cases_Bool (nat_lt sector (first + count))) [
  | inl earlier ↦ same sector from (ltb-true sector (first + count) earlier)
  | inr later ↦ let is : sector ≡ first + count = grind (arith, later) in ap a is ∙ last ∙ ap b (sym is)
]

-- of a run of sectors one differs, or all are the same
pub search : (a b : Image) (first count : ℕ) → Differs a b first count ⊎ AreSame a b first count
search a b first zero = inr (λ sector from below. absurd (omega (arith, from, below)))
search a b first (suc count) = elim (search a b first count) [
  | inl found ↦ inl (record { sector = found.sector; from = found.from; below = omega (arith, found.below); differs = found.differs })
  | inr same ↦ elim (cases_Bool (bytes_eq (a (first + count)) (b (first + count)))) [
    | inl equal ↦ inr (one_more a b first count same ((bytes_eq-Decides (a (first + count)) (b (first + count))).0 equal))
    | inr other ↦ inl (record { sector = first + count; from = omega arith; below = omega arith; differs = λ equal. both_ways _ other ((bytes_eq-Decides (a (first + count)) (b (first + count))).1 equal) })
  ]
]

-- ---- places

-- two images differ at a sector of a place
pub record DiffersAt (layout : Layout) (place : Units.Place) (a b : Image) : Type 0 where
  pub sector : ℕ
  pub inside : has layout place sector ≡ true
  pub differs : a sector ≡ b sector → ⊥

inside_span : (layout : Layout) (place : Units.Place) (sector : ℕ) → has layout place sector ≡ true
    → ((span_at layout place).first ≤ sector) × (sector < (span_at layout place).first + (span_at layout place).count)
inside_span layout place sector here = let parts = and_parts (has_place layout place) _ here in
    let run = and_parts (nat_le (span_at layout place).first sector) _ parts.1 in
    (leb-true (span_at layout place).first sector run.0, ltb-true sector ((span_at layout place).first + (span_at layout place).count) run.1)

-- one of its sectors differs, or it shows the same unit
pub place_differs : (layout : Layout) (cluster : ℕ) (place : Units.Place) (a b : Image)
    → DiffersAt layout place a b ⊎ (unit_at layout cluster a place ≡ unit_at layout cluster b place)
place_differs layout cluster place a b = elim (cases_Bool (has_place layout place)) [
  | inr outside ↦ inr ((is_format layout cluster).local a b place (λ sector here.
      absurd (both_ways _ outside (and_parts (has_place layout place) _ here).0)))
  | inl there ↦ elim (search a b (span_at layout place).first (span_at layout place).count) [
    | inl found ↦ inl (record {
      sector = found.sector;
      inside = and_from _ _ there (and_from _ _ (le-leb (span_at layout place).first found.sector found.from)
          (lt-ltb found.sector ((span_at layout place).first + (span_at layout place).count) found.below));
      differs = found.differs;
    })
    | inr same ↦ inr ((is_format layout cluster).local a b place (λ sector here. let span = inside_span layout place sector here in
        same sector span.0 span.1))
  ]
]

-- each sector of a place is one of its zone, and of the file
pub in_zone : (layout : Layout) (place : Units.Place) (sector : ℕ) → has layout place sector ≡ true
    → (first_sector layout (place_of place).zone ≤ sector) × (sector < end_sector layout (place_of place).zone) × (sector < file_sectors layout)
in_zone layout place sector here = let inside = lies_inside
    layout (place_of place) (has-true layout (place_of place).zone (place_of place).index (and_parts (has_place layout place) _ here).0) in
    let span = inside_span layout place sector here in
    (omega (arith, inside.begins, span.0), omega (arith, inside.ends, span.1), omega (arith, inside.in_file, span.1))

-- a copy is the sector of its number
pub same_copies : (layout : Layout) (cluster : ℕ) (a b : Image) (n : ℕ)
    → a n ≡ b n → unit_at layout cluster a (CopyPlace n) ≡ unit_at layout cluster b (CopyPlace n)
same_copies layout cluster a b n same = ap copy_unit (same_copy a b n same)
