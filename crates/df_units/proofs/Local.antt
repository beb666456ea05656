-- What a place shows depends on its own sectors alone, and a write that doesn't touch a place has no bytes for its sectors.
use Rattle.std.{proofs.{Common.{◌≡◌, inl, inr, ℕ, ◌+◌, ◌-◌, ◌*◌, ◌<◌, ◌≤◌, true, false, List, length, None, refl, sym, ◌∙◌, ap, arith}, lemmas.Bool.{cases_Bool, both_ways, and_from, and_parts, le-leb, lt-ltb, leb-true, ltb-true, ltb-false}}, specs.Prelude.{nat_le, nat_lt}}
use Rattle.df_base.{specs.Image.{Image, blank, covers}, proofs.Laws.{no_some}}
use Rattle.df_layout.specs.{declared.layout.Layout.{Layout}, declared.places.Place.{Place}, declared.places.Zone.TheVariants.{Superblock}, Spans.{span_of, place_sectors, sectors_before}, Zones.{first_sector}}
use Rattle.df_format.{specs.{declared.superblock.SuperCopy.{SuperCopy}, Own.{has_index, place_in}, Copies.{content_at, content_in_copy, copy_at, copy_in, if_here}}, proofs.Laws.{blank_copy_none, blank_none, has-from, is_here, read_as, same_copy, same_shown, shown_belongs}}
use Rattle.df_format.specs.Shown
use Rattle.df_theory.specs.Units
use Rattle.df_theory.specs.{Units.{BlockPlace, CopyPlace, HeaderPlace, PreparePlace, ReplyPlace}, Device.{IsFormat}}
use Rattle.df_units.specs.{Meaning.{place_of}, Bytes.{copy_unit, has, has_place, meets, message_unit, span_at, touches, unit_at}, Format.{format_of}}

-- a copy is one sector, and its number is the sector's
pub copy_first : (layout : Layout) (n : ℕ) → (span_of layout (place_in Superblock n)).first ≡ n
unfolding span_of sectors_before first_sector
copy_first layout n = omega arith

pub copy_count : (layout : Layout) (n : ℕ) → (span_of layout (place_in Superblock n)).count ≡ 1
unfolding span_of place_sectors
copy_count layout n = refl

-- there are four copies
copy_outside : (image : Image) (n : ℕ) → 4 ≤ n → content_at image n ≡ None
unfolding copy_at
copy_outside image n outside = ap content_in_copy (no_some (if_here n (copy_in (image n))) (λ copy is.
    let here = is_here n (copy_in (image n)) copy is in let read = read_as (image n) copy here.0 in
    omega (arith, read.number, ap (λ (c : SuperCopy). c.number) read.is, here.1)))

message_outside : (layout : Layout) (cluster : ℕ) (image : Image) (place : Place)
    → has_index layout place.zone place.index ≡ false → Shown.unit_at layout cluster image place ≡ None
message_outside layout cluster image place outside =
    no_some _ (λ u is. both_ways _ outside (has-from layout place.zone place.index (shown_belongs layout cluster image place u is).has))

-- no unit stands outside the layout
pub nothing_outside : (layout : Layout) (cluster : ℕ) (image : Image) (place : Units.Place)
    → has_place layout place ≡ false → unit_at layout cluster image place ≡ None
nothing_outside layout cluster image (CopyPlace n) outside = ap copy_unit (copy_outside image n (ltb-false n 4 outside))
nothing_outside layout cluster image (HeaderPlace s) outside =
    ap (message_unit (HeaderPlace s)) (message_outside layout cluster image (place_of (HeaderPlace s)) outside)
nothing_outside layout cluster image (PreparePlace s) outside =
    ap (message_unit (PreparePlace s)) (message_outside layout cluster image (place_of (PreparePlace s)) outside)
nothing_outside layout cluster image (ReplyPlace k) outside =
    ap (message_unit (ReplyPlace k)) (message_outside layout cluster image (place_of (ReplyPlace k)) outside)
nothing_outside layout cluster image (BlockPlace a) outside =
    ap (message_unit (BlockPlace a)) (message_outside layout cluster image (place_of (BlockPlace a)) outside)

-- the sectors of a place of the layout
has_inside : (layout : Layout) (place : Units.Place) (sector k : ℕ) → has_place layout place ≡ true
    → sector ≡ (span_at layout place).first + k → k < (span_at layout place).count → has layout place sector ≡ true
has_inside layout place sector k there is inside =
    and_from _ _ there (and_from _ _ (le-leb (span_at layout place).first sector (omega arith))
    (lt-ltb sector ((span_at layout place).first + (span_at layout place).count) (omega arith)))

module _ (layout : Layout) (cluster : ℕ) (a b : Image) where
  message_local : (place : Units.Place) → has_place layout place ≡ true → ((sector : ℕ) → has layout place sector ≡ true
      → a sector ≡ b sector) → Shown.unit_at layout cluster a (place_of place) ≡ Shown.unit_at layout cluster b (place_of place)
  message_local place there same = (same_shown layout cluster (place_of place) a b (λ k inside.
      same ((span_at layout place).first + k) (has_inside layout place _ k there refl inside))).unit

  inside_local : (place : Units.Place) → has_place layout place ≡ true → ((sector : ℕ)
      → has layout place sector ≡ true → a sector ≡ b sector) → unit_at layout cluster a place ≡ unit_at layout cluster b place
  inside_local (CopyPlace n) there same = ap copy_unit (same_copy
      a b n (same n (has_inside layout (CopyPlace n) n 0 there (omega (arith, copy_first layout n)) (omega (arith, copy_count layout n)))))
  inside_local (HeaderPlace s) there same = ap (message_unit (HeaderPlace s)) (message_local (HeaderPlace s) there same)
  inside_local (PreparePlace s) there same = ap (message_unit (PreparePlace s)) (message_local (PreparePlace s) there same)
  inside_local (ReplyPlace k) there same = ap (message_unit (ReplyPlace k)) (message_local (ReplyPlace k) there same)
  inside_local (BlockPlace k) there same = ap (message_unit (BlockPlace k)) (message_local (BlockPlace k) there same)

  pub shown_locally : (place : Units.Place) → ((sector : ℕ) → has layout place sector ≡ true → a sector ≡ b sector)
      → unit_at layout cluster a place ≡ unit_at layout cluster b place
  shown_locally place same = elim (cases_Bool (has_place layout place)) [
    | inl there ↦ inside_local place there same
    | inr outside ↦ nothing_outside layout cluster a place outside ∙ sym (nothing_outside layout cluster b place outside)
  ]

-- a write that has no bytes for a run of sectors
not_met : (at first count : ℕ) (bytes : List ℕ) (sector : ℕ) → first ≤ sector
    → sector < first + count → covers at bytes sector ≡ true → meets at bytes (record { first = first; count = count }) ≡ true
unfolding covers
not_met at first count bytes sector low high is =
    let parts = and_parts (nat_le at sector) (nat_lt (4096 * (sector - at)) (length bytes)) is in
    let from : at ≤ sector = leb-true _ _ parts.0 in let upto : 4096 * (sector - at) < length bytes = ltb-true _ _ parts.1 in
    and_from _ _ (lt-ltb at (first + count) (omega arith)) (lt-ltb (4096 * (first - at)) (length bytes) (omega arith))

-- a write that fits a place has bytes for no sector beside the place's
pub fits_there : (layout : Layout) (place : Units.Place) (bytes : List ℕ) (sector : ℕ) → has_place layout place ≡ true → length bytes
    ≤ 4096 * (span_at layout place).count → covers (span_at layout place).first bytes sector ≡ true → has layout place sector ≡ true
unfolding covers
fits_there layout place bytes sector there fits is = let first = (span_at layout place).first in
    let parts = and_parts (nat_le first sector) (nat_lt (4096 * (sector - first)) (length bytes)) is in
    let from : first ≤ sector = leb-true _ _ parts.0 in let upto : 4096 * (sector - first) < length bytes = ltb-true _ _ parts.1 in
    has_inside layout place sector (sector - first) there (omega (arith, from)) (omega (arith, upto, fits))

pub untouched : (layout : Layout) (at : ℕ) (bytes : List ℕ) (place : Units.Place) (sector : ℕ)
    → touches layout at bytes place ≡ false → has layout place sector ≡ true → covers at bytes sector ≡ false
untouched layout at bytes place sector apart here = let parts = and_parts _ _ here in let run = and_parts _ _ parts.1 in
    elim (cases_Bool (covers at bytes sector)) [
      | inl is ↦ absurd (both_ways _ apart (and_from _ _ parts.0
          (not_met at (span_at layout place).first (span_at layout place).count bytes sector (leb-true _ _ run.0) (ltb-true _ _ run.1) is)))
      | inr isnt ↦ isnt
    ]

pub is_format : (layout : Layout) (cluster : ℕ) → IsFormat (format_of layout cluster)
is_format layout cluster = record { local = λ a b place same. shown_locally layout cluster a b place same; apart = untouched layout }

-- a blank image
pub blank_empty : (layout : Layout) (cluster : ℕ) (place : Units.Place) → unit_at layout cluster blank place ≡ None
blank_empty layout cluster (CopyPlace n) = ap copy_unit (blank_copy_none n)
blank_empty layout cluster (HeaderPlace s) = ap (message_unit (HeaderPlace s)) (blank_none layout cluster (place_of (HeaderPlace s))).0
blank_empty layout cluster (PreparePlace s) = ap (message_unit (PreparePlace s)) (blank_none layout cluster (place_of (PreparePlace s))).0
blank_empty layout cluster (ReplyPlace k) = ap (message_unit (ReplyPlace k)) (blank_none layout cluster (place_of (ReplyPlace k))).0
blank_empty layout cluster (BlockPlace a) = ap (message_unit (BlockPlace a)) (blank_none layout cluster (place_of (BlockPlace a))).0
