-- What an image shows at its places, and what a write of a unit leaves of it.
use Rattle.std.{proofs.{Common.{◌≡◌, ◌≢◌, inl, inr, ◌<◌, ◌≤◌, ◌+◌, ◌-◌, ◌*◌, ◌/◌, ◌%◌, ℕ, zero, suc, false, List, [], ◌∷◌, ◌++◌, length, take, drop, replicate, Some, refl, sym, ◌∙◌, ap, arith, append_assoc, length-append}, lemmas.Bool.{cond-true, or_from}, lemmas.List.{length-replicate, length-take-le, length-drop, take-append-le, drop-append-le, take-replicate, drop-replicate, take_all, take_at, drop_at, drop-drop, append-nil}}, specs.Prelude.{slice_get}}
use Rattle.df_base.{specs.{Fields.{AreBytes}, Image.{Image, IsImage, blank, bytes_at, covers, written}, Log.{now}}, proofs.Laws.{AreBytes-append, AreBytes-take, AreBytes-drop, written_else, no_some}}
use Rattle.df_layout.{specs.{declared.damage.Class.TheVariants.{Blank}, declared.layout.Layout.{Layout}, declared.places.Place.{Place}, declared.places.Zone.{Zone}, declared.places.Zone.TheVariants.{WalHeaders}, Spans.{HasPlace, place_sectors, sectors_before, span_of}}, proofs.Laws.{are_apart, some_sectors}}
use Rattle.df_format.{specs.{declared.header.Header.{Header}, Spelling.{spelling}, Rules.{IsSealed}, Message.{Message, unit_bytes, sectors_of}, Own.{place_in, own_place}, Shown.{part_in, bytes_of, unit_in, class_of, unit_at, class_at}, Valid.{IsBodyOf, HasBody, IsUnit}, UnitLaws.{place_size, IsAtPlace, ShownBelongs, ReadBelongs, ValidBelongs, ShownIsUnit, AgreeAt, SameIsShown, ReadIsShown, WrittenIsShown, SectorsFitPlace, IsOther, WrittenIsApart, SectorIsShown, headers_bytes, HeadersFillSector, HeaderIsShown, BlankShowsNone, LeftIsApart}}, proofs.{Messages.{length-sectors, AreBytes-sectors, AreBytes-spelling}, Owned.{own_is, belongs}, Sectors.{length-bytes_at, AreBytes-bytes_at, same_sectors, uncovered_above, uncovered_below, written_begins}, Spelled.{length-spelling}, Wholes.{unit_found, begun_is_shown, one_unit, fits_slot, zeros_are_none, blank-from}}}

at_place : (layout : Layout) (place : Place) (u : Message) → own_place layout place.zone u.header ≡ Some place → IsAtPlace layout place u
at_place layout place u own = let there = own_is layout place.zone u.header place own in
    record { has = there.has; own = own; belongs = belongs layout place.zone place.index u.header there }

pub shown_belongs : ShownBelongs
unfolding unit_at
shown_belongs layout cluster image place u is = at_place layout place u (unit_found layout cluster place _ u is).belongs

pub read_belongs : ReadBelongs
read_belongs layout cluster place bytes u is = at_place layout place u (unit_found layout cluster place bytes u is).belongs

pub valid_belongs : ValidBelongs
valid_belongs layout cluster place u is = at_place layout place u is.own

-- a header's part of a sector
length-part : (zone : Zone) (index : ℕ) (bytes : List ℕ) (layout : Layout)
    → length bytes ≡ 4096 * place_sectors layout zone → length (part_in zone index bytes) ≡ place_size layout zone
unfolding place_sectors
length-part WalHeaders index bytes layout size =
    length-take-le 256 (drop (256 * (index % 16)) bytes) (omega (arith, length-drop (256 * (index % 16)) bytes, size))
length-part _ index bytes layout size = size

AreBytes-part : (zone : Zone) (index : ℕ) (bytes : List ℕ) → AreBytes bytes → AreBytes (part_in zone index bytes)
AreBytes-part WalHeaders index bytes are = AreBytes-take 256 (drop (256 * (index % 16)) bytes) (AreBytes-drop (256 * (index % 16)) bytes are)
AreBytes-part _ index bytes are = are

part_whole : (zone : Zone) (index : ℕ) (bytes : List ℕ) → zone ≢ WalHeaders → part_in zone index bytes ≡ bytes
part_whole WalHeaders index bytes other = absurd (other refl)
part_whole _ index bytes other = refl

pub count_is : (layout : Layout) (place : Place) → (span_of layout place).count ≡ place_sectors layout place.zone
unfolding span_of
count_is layout place = refl

length-bytes_of : (layout : Layout) (image : Image) (place : Place)
    → IsImage image → length (bytes_of layout image place) ≡ place_size layout place.zone
unfolding bytes_of
length-bytes_of layout image place whole = let span = span_of layout place in
    length-part place.zone place.index (bytes_at image span.first span.count)
    layout (length-bytes_at image span.first span.count whole ∙ ap (λ (n : ℕ). 4096 * n) (count_is layout place))

AreBytes-bytes_of : (layout : Layout) (image : Image) (place : Place) → IsImage image → AreBytes (bytes_of layout image place)
unfolding bytes_of
AreBytes-bytes_of layout image place whole =
    AreBytes-part place.zone place.index _ (AreBytes-bytes_at image (span_of layout place).first (span_of layout place).count whole)

pub shown_is_unit : ShownIsUnit
unfolding unit_at
shown_is_unit layout cluster image place u whole is = ((one_unit layout cluster
    place (bytes_of layout image place) u (length-bytes_of layout image place whole) (AreBytes-bytes_of layout image place whole)).0 is).is

same_bytes_of : (layout : Layout) (place : Place) (one two : Image)
    → AgreeAt layout place one two → bytes_of layout one place ≡ bytes_of layout two place
unfolding bytes_of
same_bytes_of layout place one two same =
    ap (λ (l : List ℕ). part_in place.zone place.index l) (same_sectors one two (span_of layout place).first (span_of layout place).count same)

pub same_shown : SameIsShown
unfolding unit_at class_at
same_shown layout cluster place one two same = let bytes = same_bytes_of layout place one two same in
    record { unit = ap (λ (l : List ℕ). unit_in layout cluster place l) bytes; class = ap (λ (l : List ℕ). class_of layout cluster place l) bytes }

pub read_shown : ReadIsShown
unfolding unit_at bytes_of
read_shown layout cluster image place other = ap (λ (l : List ℕ). unit_in layout cluster place l)
    (sym (part_whole place.zone place.index (bytes_at image (span_of layout place).first (span_of layout place).count) other))

-- a unit that isn't a header alone has its body
body_of : (zone : Zone) (h : Header) (body : List ℕ) → zone ≢ WalHeaders → HasBody zone h body → IsBodyOf h body
body_of WalHeaders h body other is = absurd (other refl)
body_of _ h body other is = is

sectors_fit : (layout : Layout) (cluster : ℕ) (place : Place) (u : Message)
    → place.zone ≢ WalHeaders → IsUnit layout cluster place u → length (sectors_of u) ≤ 4096 * (span_of layout place).count
sectors_fit layout cluster place u other is = let body = body_of place.zone u.header u.body other is.body in
    omega (arith, length-sectors u is.sealed, body.size, is.fits, fits_slot layout place.zone other, count_is layout place)

pub sectors_for_place : SectorsFitPlace
sectors_for_place layout cluster place u other is = let body = body_of place.zone u.header u.body other is.body in record {
  piece = record {
    some = omega (arith, length-sectors u is.sealed);
    whole = omega (arith, length-sectors u is.sealed);
    each = AreBytes-sectors u is.sealed body.each;
  };
  fits = sectors_fit layout cluster place u other is;
}

pub written_shown : WrittenIsShown
unfolding unit_at bytes_of sectors_of
written_shown layout cluster image place u other whole is = let span = span_of layout place in
    let begun = written_begins span.first (sectors_of u) image span.count (sectors_fit layout cluster place u other is) in
    let all = part_whole place.zone place.index (bytes_at (written span.first (sectors_of u) image) span.first span.count) other ∙ begun.1 in
    begun_is_shown layout cluster place _ u (record { is = is; rest = _; spelled = all ∙ append_assoc (unit_bytes u) _ begun.0 })

-- a write that fits a place covers no sector of another
uncovered : (layout : Layout) (place other : Place) (bytes : List ℕ)
    → HasPlace layout place → IsOther layout place other → length bytes ≤ 4096 * (span_of layout place).count
    → (k : ℕ) → k < (span_of layout other).count → covers (span_of layout place).first bytes ((span_of layout other).first + k) ≡ false
uncovered layout place other bytes has is fits k inside = elim (are_apart layout place other has is.has) [
  | inl same ↦ absurd (is.differs (sym same))
  | inr differ ↦ elim differ [
    | inl shared ↦ absurd (is.apart shared)
    | inr apart ↦ elim apart [
      | inl before ↦ uncovered_above _ _ _ (span_of layout place).count fits (omega arith)
      | inr behind ↦ uncovered_below _ _ _ (omega arith)
    ]
  ]
]

pub written_apart : WrittenIsApart
written_apart layout cluster image place other bytes has is fits =
    same_shown layout cluster other _ image (λ k inside. written_else _ bytes image _ (uncovered layout place other bytes has is fits k inside))

pub left_apart : LeftIsApart
left_apart layout cluster log image place other bytes has is fits quiet left = same_shown layout cluster other image (now log) (λ k inside.
    let outside = uncovered layout place other bytes has is fits k inside in
    left.kept ((span_of layout other).first + k) (or_from _ _ outside (quiet k inside)) ∙ written_else _ bytes (now log) _ outside)

-- slots of one header sector have its sector
pub header_first : (layout : Layout) (index slot : ℕ)
    → index / 16 ≡ slot / 16 → (span_of layout (place_in WalHeaders index)).first ≡ (span_of layout (place_in WalHeaders slot)).first
unfolding span_of sectors_before
header_first layout index slot same = omega arith

pub header_count : (layout : Layout) (slot : ℕ) → (span_of layout (place_in WalHeaders slot)).count ≡ 1
unfolding span_of place_sectors
header_count layout slot = refl

part_of_front : (slot : ℕ) (bytes rest : List ℕ) → length bytes ≡ 4096 → part_in WalHeaders slot (bytes ++ rest) ≡ part_in WalHeaders slot bytes
part_of_front slot bytes rest size = let at : ℕ = 256 * (slot % 16) in
    ap (λ (l : List ℕ). take 256 l) (drop-append-le at bytes rest (omega arith))
    ∙ take-append-le 256 (drop at bytes) rest (omega (arith, length-drop at bytes, size))

pub sector_shown : SectorIsShown
unfolding unit_at bytes_of
sector_shown layout cluster image index slot bytes size same = let place = place_in WalHeaders slot in
    let at : ℕ = (span_of layout (place_in WalHeaders index)).first in let begun = written_begins at bytes image 1 (omega (arith, size)) in
    let there : bytes_at (written at bytes image) (span_of layout place).first (span_of layout place).count ≡ bytes ++ begun.0 =
    (λ i. bytes_at (written at bytes image) (sym (header_first layout index slot same) i) (header_count layout slot i)) ∙ begun.1 in
    ap (λ (l : List ℕ). unit_in layout cluster place (part_in WalHeaders slot l)) there
    ∙ ap (λ (l : List ℕ). unit_in layout cluster place l) (part_of_front slot bytes begun.0 size)

-- sealed headers one after the other
abbrev AreSealed : List Header → Type 0
AreSealed headers = (i : ℕ) (h : Header) → slice_get headers i ≡ Some h → IsSealed h

later_sealed : (h : Header) (headers : List Header) → AreSealed (h ∷ headers) → AreSealed headers
later_sealed h headers each i x is = each (suc i) x is

length-headers : (headers : List Header) → AreSealed headers → length (headers_bytes headers) ≡ 256 * length headers
length-headers [] each = refl
length-headers (h ∷ headers) each =
    omega (arith, length-append (spelling h) (headers_bytes headers), length-spelling h (each 0 h refl), length-headers headers (later_sealed h headers each))

AreBytes-headers : (headers : List Header) → AreSealed headers → AreBytes (headers_bytes headers)
AreBytes-headers [] each i = omega arith
AreBytes-headers (h ∷ headers) each i = AreBytes-append
    (spelling h) (headers_bytes headers) (AreBytes-spelling h (each 0 h refl)) (AreBytes-headers headers (later_sealed h headers each)) i

one_header : (headers : List Header) (i : ℕ) (h : Header)
    → AreSealed headers → slice_get headers i ≡ Some h → take 256 (drop (256 * i) (headers_bytes headers)) ≡ spelling h
one_header [] i h each is = absurd (cc)
one_header (x ∷ headers) zero h each is = let same : x ≡ h = cc in
    take_at (spelling x) (headers_bytes headers) 256 (length-spelling x (each 0 x refl)) ∙ ap spelling same
one_header (x ∷ headers) (suc i) h each is = let size = length-spelling x (each 0 x refl) in
    let next : 256 * suc i ≡ 256 + 256 * i = omega arith in
    let past : drop (256 * suc i) (spelling x ++ headers_bytes headers) ≡ drop (256 * i) (headers_bytes headers) =
    ap (λ (n : ℕ). drop n (spelling x ++ headers_bytes headers)) next ∙ sym (drop-drop (256 * i) 256 (spelling x ++ headers_bytes headers))
    ∙ ap (λ (l : List ℕ). drop (256 * i) l) (drop_at (spelling x) (headers_bytes headers) 256 size) in
    ap (λ (l : List ℕ). take 256 l) past ∙ one_header headers i h (later_sealed x headers each) is

pub headers_fill : HeadersFillSector
headers_fill layout index headers sixteen = let size = length-headers headers sixteen.each in record {
  piece = record { some = omega (arith, sixteen.count); whole = omega (arith, sixteen.count); each = AreBytes-headers headers sixteen.each };
  fits = omega (arith, sixteen.count, header_count layout index);
}

no_body : (h : Header) → (spelling h ++ []) ++ [] ≡ spelling h
no_body h = append-nil (spelling h ++ []) ∙ append-nil (spelling h)

pub header_shown : HeaderIsShown
header_shown layout cluster image index slot headers h sixteen same is unit =
    let size : length (headers_bytes headers) ≡ 4096 = omega (arith, length-headers headers sixteen.each, sixteen.count) in
    let spelled : part_in WalHeaders slot (headers_bytes headers) ≡ spelling h = one_header headers (slot % 16) h sixteen.each is in
    sector_shown layout cluster image index slot (headers_bytes headers) size same ∙ begun_is_shown layout cluster
    (place_in WalHeaders slot) _ (record { header = h; body = [] }) (record { is = unit; rest = []; spelled = spelled ∙ sym (no_body h) })

blank_front : (at n : ℕ) → 0 < n → (k : ℕ) → k + 256 ≤ 4096 → take 256 (drop k (bytes_at blank at n)) ≡ replicate 256 0
unfolding blank
blank_front at zero some k fits = absurd (omega arith)
blank_front at (suc n) some k fits =
    ap (λ (l : List ℕ). take 256 l) (drop-append-le k (replicate 4096 0) _ (omega (arith, length-replicate {A = ℕ} 4096 0)))
    ∙ take-append-le 256 (drop k (replicate 4096 0)) _ (omega (arith, length-drop {A = ℕ} k (replicate 4096 0), length-replicate {A = ℕ} 4096 0))
    ∙ ap (λ (l : List ℕ). take 256 l) (drop-replicate k 4096 0) ∙ take-replicate 256 (4096 - k) 0 (omega arith)

blank_part : (zone : Zone) (index at n : ℕ) → 0 < n → take 256 (part_in zone index (bytes_at blank at n)) ≡ replicate 256 0
blank_part WalHeaders index at n some = ap (λ (l : List ℕ). take 256 l) (blank_front at n some (256 * (index % 16)) (omega arith))
    ∙ take_all 256 (replicate 256 0) (omega (arith, length-replicate {A = ℕ} 256 0))
blank_part _ index at n some = blank_front at n some 0 (omega arith)

pub blank_none : BlankShowsNone
unfolding unit_at class_at class_of bytes_of
blank_none layout cluster place = let zeros = blank_part place.zone place.index
    (span_of layout place).first (span_of layout place).count (omega (arith, some_sectors layout place.zone, count_is layout place)) in (
      no_some _ (λ u is. zeros_are_none _ u.header zeros (unit_found layout cluster place _ u is).header),
      cond-true _ Blank _ (blank-from _ zeros),
    )
