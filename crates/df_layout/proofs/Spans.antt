-- A span lies within its zone, and the spans of different places share no sector.
use Rattle.std.proofs.{Common.{◌≡◌, ℕ, ◌+◌, ◌-◌, ◌/◌, ◌^◌, ◌≤◌, ◌<◌, ◌⊎◌, inl, inr, refl, arith, ap, sym, subst}, lemmas.Nat.{row_fits}, lemmas.Bool.{cases_lt, cases_order}}
use Rattle.df_layout.{specs.{declared.layout.Layout.{Layout}, declared.places.Place.{Place}, declared.places.Zone.{Zone}, declared.places.Zone.TheVariants.{Superblock, WalHeaders, WalPrepares, ClientReplies, Grid}, Zones.{message_sectors, block_sectors, zone_sectors, first_sector, end_sector, file_sectors}, Spans.{HasIndex, HasPlace, place_sectors, sectors_before, span_of}, Order.{IsInside, AreApart, ShareHeaderSector}}, proofs.{Sizes.{message_sectors_within, block_sectors_within}, Zones.{zones_follow, zones_apart}}}

-- what stands before a place, and the place, are within the zone
fits_zone : (layout : Layout) (zone : Zone) (index : ℕ) → HasIndex layout zone index
    → sectors_before layout zone index + place_sectors layout zone ≤ zone_sectors layout zone
unfolding sectors_before place_sectors zone_sectors
fits_zone layout Superblock index h = omega arith
fits_zone layout WalHeaders index h = omega arith
fits_zone layout WalPrepares index h = row_fits index (message_sectors layout) layout.slots (message_sectors layout) h (omega arith)
fits_zone layout ClientReplies index h = row_fits index (message_sectors layout) layout.clients (message_sectors layout) h (omega arith)
fits_zone layout Grid index h = row_fits (index - 1) (block_sectors layout) layout.blocks (block_sectors layout) (omega arith) (omega arith)

zone_in_file : (layout : Layout) (zone : Zone) → end_sector layout zone ≤ file_sectors layout
zone_in_file layout Superblock = let order = zones_follow layout in omega arith
zone_in_file layout WalHeaders = let order = zones_follow layout in omega arith
zone_in_file layout WalPrepares = let order = zones_follow layout in omega arith
zone_in_file layout ClientReplies = let order = zones_follow layout in omega arith
zone_in_file layout Grid = omega arith

-- the number of a span's first sector is small
pub first_below : (layout : Layout) (place : Place)
    → HasPlace layout place → first_sector layout place.zone + sectors_before layout place.zone place.index < 2 ^ 22
first_below layout place h = let fits = fits_zone layout place.zone place.index h in
    omega (arith, zone_in_file layout place.zone, (zones_follow layout).bound)

pub some_sectors : (layout : Layout) (zone : Zone) → 0 < place_sectors layout zone
unfolding place_sectors
some_sectors layout Superblock = omega arith
some_sectors layout WalHeaders = omega arith
some_sectors layout WalPrepares = let m = message_sectors_within layout in omega arith
some_sectors layout ClientReplies = let m = message_sectors_within layout in omega arith
some_sectors layout Grid = let b = block_sectors_within layout in omega arith

pub lies_inside : (layout : Layout) (place : Place) → HasPlace layout place → IsInside layout place
unfolding span_of
lies_inside layout place h = let fits = fits_zone layout place.zone place.index h in
    record { some = some_sectors layout place.zone; begins = omega arith; ends = omega arith; in_file = omega (arith, zone_in_file layout place.zone) }

-- of two places of one zone, the one of the lower number ends first, unless they are header slots of one sector
in_order : (layout : Layout) (zone : Zone) (i j : ℕ) → HasIndex layout zone i → i < j
    → ((zone ≡ WalHeaders) × (i / 16 ≡ j / 16)) ⊎ (sectors_before layout zone i + place_sectors layout zone ≤ sectors_before layout zone j)
unfolding sectors_before place_sectors
in_order layout Superblock i j h lt = inr (omega arith)
in_order layout WalHeaders i j h lt = elim (cases_lt (i / 16) (j / 16)) [ inl small ↦ inr (omega arith) | inr large ↦ inl (refl, omega arith) ]
in_order layout WalPrepares i j h lt = inr (row_fits i (message_sectors layout) j (message_sectors layout) lt (omega arith))
in_order layout ClientReplies i j h lt = inr (row_fits i (message_sectors layout) j (message_sectors layout) lt (omega arith))
in_order layout Grid i j h lt = inr (row_fits (i - 1) (block_sectors layout) (j - 1) (block_sectors layout) (omega arith) (omega arith))

-- two places of one zone are one, or share a header sector, or have spans that are apart
in_one_zone : (layout : Layout) (zone : Zone) (i j : ℕ) → HasIndex layout zone i → HasIndex layout zone j
    → let a : Place = record { zone = zone; index = i } in let b : Place = record { zone = zone; index = j } in
    (a ≡ b) ⊎ ShareHeaderSector a b ⊎ AreApart (span_of layout a) (span_of layout b)
unfolding span_of
in_one_zone layout zone i j hi hj = elim (cases_order i j) [
  | inl same ↦ inl (ap (λ (n : ℕ). record { zone = zone; index = n }) same)
  | inr order ↦ elim order [
    | inl below ↦ elim (in_order layout zone i j hi below) [
      | inl shared ↦ inr (inl (shared.0, shared.0, shared.1))
      | inr before ↦ inr (inr (inl (omega arith)))
    ]
    | inr above ↦ elim (in_order layout zone j i hj above) [
      | inl shared ↦ inr (inl (shared.0, shared.0, sym shared.1))
      | inr before ↦ inr (inr (inr (omega arith)))
    ]
  ]
]

in_zones : (layout : Layout) (z w : Zone) (i j : ℕ) → z ≡ w → HasIndex layout z i → HasIndex layout w j
    → let a : Place = record { zone = z; index = i } in let b : Place = record { zone = w; index = j } in
    (a ≡ b) ⊎ ShareHeaderSector a b ⊎ AreApart (span_of layout a) (span_of layout b)
in_zones layout z w i j same hi = subst
    (λ (w : Zone). HasIndex layout w j → let a : Place = record { zone = z; index = i } in let b : Place = record { zone = w; index = j } in
    (a ≡ b) ⊎ ShareHeaderSector a b ⊎ AreApart (span_of layout a) (span_of layout b)) same (in_one_zone layout z i j hi)

pub are_apart : (layout : Layout) (a b : Place) → HasPlace layout a → HasPlace layout b
    → (a ≡ b) ⊎ ShareHeaderSector a b ⊎ AreApart (span_of layout a) (span_of layout b)
are_apart layout a b ha hb = let inside_a = lies_inside layout a ha in let inside_b = lies_inside layout b hb in
    elim (zones_apart layout a.zone b.zone) [
      | inl same ↦ in_zones layout a.zone b.zone a.index b.index same ha hb
      | inr order ↦ elim order [ inl before ↦ inr (inr (inl (omega arith))) | inr after ↦ inr (inr (inr (omega arith))) ]
    ]
