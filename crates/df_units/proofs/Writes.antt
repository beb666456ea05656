-- What each kind of write puts.
use Rattle.std.{proofs.{Common.{◌≡◌, ◌≢◌, inl, inr, ℕ, ◌+◌, ◌-◌, ◌*◌, ◌/◌, ◌%◌, ◌<◌, ◌≤◌, ◌==◌, Bool, true, false, List, [], ◌++◌, length, Option, Some, None, cond, refl, sym, ◌∙◌, ap, subst, arith}, lemmas.Bool.{cases_Bool, cases_eq, both_ways, and_from, and_left, and_right, cond-false, cond-true, eq-eqb, eqb-true, eqb-false, le-ltb, lt-ltb, ne_eqb}, lemmas.Option.{slice_get_cases}}, specs.Prelude.{slice_get}}
use Rattle.df_base.specs.Image.{Image, IsImage, IsPiece, covers, written}
use Rattle.df_layout.{specs.{declared.layout.Layout.{Layout}, declared.places.Place.{Place}, declared.places.Span.{Span}, declared.places.Zone.TheVariants.{WalHeaders}, Order.{AreApart, ShareHeaderSector}, Spans.{HasPlace, span_of}}, proofs.Laws.{are_apart, lies_inside}}
use Rattle.df_format.{specs.{declared.header.Header.{Header}, Message.{Message}, Own.{place_in}, Shown.{unit_in}, Valid.{IsUnit}, Brings.{Brings}, Copies.{content_with}, UnitLaws.{AreForPlace, headers_bytes}, Super.{copy_bytes}}, proofs.Laws.{has-from, has-true, header_shown, headers_fill, one_sector, read_belongs, read_shown, written_begins, written_copy, header_count, header_first}}
use Rattle.df_format.specs.Shown
use Rattle.df_theory.specs.Units
use Rattle.df_theory.{specs.{Units.{AnyUnit, BlockPlace, BlockUnit, CopyPlace, CopyUnit, HeaderPlace, HeaderUnit, PreparePlace, PrepareUnit, ReplyPlace, ReplyUnit, is_some, or_else}, UnitLog.{put_one, same_place}, Device.{IsPut}}, proofs.Laws.{put_shown_law}}
use Rattle.df_units.{specs.{Meaning.{block_of, content_of, header_of, message_of, place_of}, Bytes.{copy_unit, has, has_place, meets, message_unit, span_at, touches, unit_at}, Format.{format_of}, Puts.{AreHeaders, BlockIsPut, CopyIsPut, HeadersArePut, IsNextSector, OneHeaderIsNew, PrepareIsPut, ReplyIsPut, header_unit, put_headers}}, proofs.Local.{copy_count, copy_first, fits_there, is_format}}

-- ---- a write of one unit

meets_at : (at : ℕ) (span : Span) (bytes : List ℕ) → at ≡ span.first → 0 < span.count → 0 < length bytes → meets at bytes span ≡ true
meets_at at span bytes here some full =
    and_from _ _ (lt-ltb at (span.first + span.count) (omega arith)) (lt-ltb (4096 * (span.first - at)) (length bytes) (omega arith))

meets_apart : (a b : Span) (bytes : List ℕ) → AreApart a b → length bytes ≤ 4096 * a.count → meets a.first bytes b ≡ false
meets_apart a b bytes (inl before) fits = and_right _ _ (le-ltb (4096 * (b.first - a.first)) (length bytes) (omega arith))
meets_apart a b bytes (inr behind) fits = and_left _ _ (le-ltb a.first (b.first + b.count) (omega arith))

-- one place of the file, one place
same_places : (a b : Units.Place) → place_of a ≡ place_of b → same_place a b ≡ true
same_places (CopyPlace n) (CopyPlace m) is = eq-eqb n m (ap (λ (p : Place). p.index) is)
same_places (HeaderPlace n) (HeaderPlace m) is = eq-eqb n m (ap (λ (p : Place). p.index) is)
same_places (PreparePlace n) (PreparePlace m) is = eq-eqb n m (ap (λ (p : Place). p.index) is)
same_places (ReplyPlace n) (ReplyPlace m) is = eq-eqb n m (ap (λ (p : Place). p.index) is)
same_places (BlockPlace n) (BlockPlace m) is = eq-eqb n m (ap (λ (p : Place). p.index) is)
same_places a b is = absurd (let zone = ap (λ (p : Place). p.zone) is in cc)

is_same : (a b : Units.Place) → same_place a b ≡ true → a ≡ b
is_same (CopyPlace n) (CopyPlace m) is = ap CopyPlace (eqb-true n m is)
is_same (HeaderPlace n) (HeaderPlace m) is = ap HeaderPlace (eqb-true n m is)
is_same (PreparePlace n) (PreparePlace m) is = ap PreparePlace (eqb-true n m is)
is_same (ReplyPlace n) (ReplyPlace m) is = ap ReplyPlace (eqb-true n m is)
is_same (BlockPlace n) (BlockPlace m) is = ap BlockPlace (eqb-true n m is)
is_same a b is = absurd (cc)

-- a write that fits a place touches no other one, but the headers of its sector
touches_beyond : (layout : Layout) (place : Place) (other : Units.Place) (bytes : List ℕ)
    → HasPlace layout place → (place ≡ place_of other → ⊥) → (ShareHeaderSector place (place_of other) → ⊥)
    → length bytes ≤ 4096 * (span_of layout place).count → touches layout (span_of layout place).first bytes other ≡ false
touches_beyond layout place other bytes there differs apart fits = elim (cases_Bool (has_place layout other)) [
  | inr outside ↦ and_left _ _ outside
  | inl inside ↦ elim (are_apart layout place (place_of other) there (has-true layout (place_of other).zone (place_of other).index inside)) [
    | inl same ↦ absurd (differs same)
    | inr differ ↦ elim differ [
      | inl shared ↦ absurd (apart shared)
      | inr away ↦ and_right _ _ (meets_apart (span_of layout place) (span_at layout other) bytes away fits)
    ]
  ]
]

module _ (layout : Layout) (place : Units.Place) (x : AnyUnit) (bytes : List ℕ) (there : has_place layout place ≡ true)
    (alone : (place_of place).zone ≢ WalHeaders) (full : 0 < length bytes) (fits : length bytes ≤ 4096 * (span_at layout place).count) where
  touches_own : touches layout (span_at layout place).first bytes place ≡ true
  touches_own = and_from _ _ there (meets_at (span_at layout place).first (span_at layout place)
      bytes refl (lies_inside layout (place_of place) (has-true layout (place_of place).zone (place_of place).index there)).some full)

  touches_other : (other : Units.Place) → same_place place other ≡ false → touches layout (span_at layout place).first bytes other ≡ false
  touches_other other differs =
      touches_beyond layout (place_of place) other bytes (has-true layout (place_of place).zone (place_of place).index there) (λ same.
      both_ways _ differs (same_places place other same)) (λ shared. alone shared.0) fits

  touches_by : (other : Units.Place) (b : Bool)
      → same_place place other ≡ b → touches layout (span_at layout place).first bytes other ≡ is_some (cond b (Some x) None)
  touches_by other true is =
      subst (λ (p : Units.Place). touches layout (span_at layout place).first bytes p ≡ true) (is_same place other is) touches_own
  touches_by other false is = touches_other other is

  pub touches_one : (other : Units.Place) → touches layout (span_at layout place).first bytes other ≡ is_some (put_one place x other)
  touches_one other = touches_by other (same_place place other) refl

-- a put of one unit puts that alone
only_one : (place other : Units.Place) (x y : AnyUnit) (b : Bool)
    → same_place place other ≡ b → cond b (Some x) None ≡ Some y → (place ≡ other) × (x ≡ y)
only_one place other x y true is put = (is_same place other is, cc)
only_one place other x y false is put = absurd (cc)

one_put : (layout : Layout) (cluster : ℕ) (place : Units.Place) (x : AnyUnit) (bytes : List ℕ)
    → has_place layout place ≡ true → (place_of place).zone ≢ WalHeaders → IsPiece bytes
    → length bytes ≤ 4096 * (span_at layout place).count
    → ((image : Image) → IsImage image → unit_at layout cluster (written (span_at layout place).first bytes image) place ≡ Some x)
    → IsPut (format_of layout cluster) (span_at layout place).first bytes (put_one place x)
one_put layout cluster place x bytes there alone piece fits shown =
    put_shown_law (format_of layout cluster) (span_at layout place).first bytes (put_one place x) (is_format layout cluster) piece
    (place, λ sector is. fits_there layout place bytes sector there fits is) (touches_one layout place x bytes there alone piece.some fits)
    (λ image other y whole is.
    let one = only_one place other x y (same_place place other) refl is in rw (← one.0) (shown image whole ∙ ap Some one.1))

-- bytes that bring a unit, written at its own place: it is shown there, whatever was there before
brought_shown : (layout : Layout) (cluster : ℕ) (place : Place) (u : Message) (bytes : List ℕ) (image : Image)
    → place.zone ≢ WalHeaders → Brings layout cluster place u bytes
    → Shown.unit_at layout cluster (written (span_of layout place).first bytes image) place ≡ Some u
brought_shown layout cluster place u bytes image alone brings = let span = span_of layout place in
    let begun = written_begins span.first bytes image span.count brings.for.fits in
    sym (read_shown layout cluster (written span.first bytes image) place alone)
    ∙ ap (λ (l : List ℕ). unit_in layout cluster place l) begun.1 ∙ brings.read begun.0

-- a whole unit that isn't a copy, at its own place
message_put : (layout : Layout) (cluster : ℕ) (place : Units.Place) (u : Message) (x : AnyUnit) (bytes : List ℕ)
    → (place_of place).zone ≢ WalHeaders → Brings layout cluster (place_of place) u bytes
    → ((image : Image) → Shown.unit_at layout cluster image (place_of place) ≡ Some u → unit_at layout cluster image place ≡ Some x)
    → IsPut (format_of layout cluster) (span_at layout place).first bytes (put_one place x)
message_put layout cluster place u x bytes alone brings means =
    let there = (read_belongs layout cluster (place_of place) (bytes ++ []) u (brings.read [])).has in one_put
    layout cluster place x bytes (has-from layout (place_of place).zone (place_of place).index there) alone brings.for.piece brings.for.fits
    (λ image whole.
    means (written (span_at layout place).first bytes image) (brought_shown layout cluster (place_of place) u bytes image alone brings))

pub prepare_put : PrepareIsPut
prepare_put layout cluster slot u bytes brings =
    message_put layout cluster (PreparePlace slot) u (PrepareUnit (message_of u)) bytes (λ same.
    cc) brings (λ image shown. ap (message_unit (PreparePlace slot)) shown)

pub reply_put : ReplyIsPut
reply_put layout cluster place u bytes brings = message_put layout cluster (ReplyPlace place) u (ReplyUnit (message_of u)) bytes (λ same.
    cc) brings (λ image shown. ap (message_unit (ReplyPlace place)) shown)

pub block_put : BlockIsPut
block_put layout cluster address u bytes brings = message_put layout cluster (BlockPlace address) u (BlockUnit (block_of u)) bytes (λ same.
    cc) brings (λ image shown. ap (message_unit (BlockPlace address)) shown)

pub copy_put : CopyIsPut
copy_put layout cluster number f small is = let bytes = copy_bytes number f in let one = one_sector number f is.fits in
    let x : AnyUnit = CopyUnit (content_of (content_with f)) in
    subst (λ (at : ℕ). IsPut (format_of layout cluster) at bytes (put_one (CopyPlace number) x)) (copy_first layout number)
    (one_put layout cluster (CopyPlace number) x bytes (lt-ltb number 4 small) (λ same.
    cc) one.piece (omega (arith, one.sector.size, copy_count layout number))
    (λ image whole. rw ((copy_first layout number)) (ap copy_unit (written_copy image number f small is))))

-- ---- a write of sixteen headers

pub some_header : (headers : List Header) (i : ℕ) (o : Option Header)
    → slice_get headers i ≡ o → i < length headers → is_some (header_unit o) ≡ true
some_header headers i (Some h) is inside = refl
some_header headers i None is inside = elim (slice_get_cases headers i).1 [
  | inl found ↦ absurd (let none : None ≡ Some found.0 = sym is ∙ found.2 in cc)
  | inr past ↦ absurd (omega (arith, past.0))
]

-- what a header sector puts in a slot
pub put_is : (sector s : ℕ) (headers : List Header) (b : Bool) (o : Option Header) (x : AnyUnit)
    → cond b (header_unit o) None ≡ Some x → (b ≡ true) × ((h : Header) × (o ≡ Some h) × (HeaderUnit (header_of h) ≡ x))
put_is sector s headers true None x is = absurd (cc)
put_is sector s headers true (Some h) x is = (refl, (h, refl, cc))
put_is sector s headers false o x is = absurd (cc)

module _ (layout : Layout) (cluster sector : ℕ) (headers : List Header) (are : AreHeaders layout cluster sector headers) where
  abbrev first : Place
  first = place_in WalHeaders (16 * sector)

  abbrev bytes : List ℕ
  bytes = headers_bytes headers

  fill : AreForPlace layout first bytes
  fill = headers_fill layout (16 * sector) headers are.sixteen

  has_first : HasPlace layout first
  has_first = omega (arith, are.inside)

  -- every slot of another sector, and every other place
  beyond : (other : Units.Place) → (first ≡ place_of other → ⊥)
      → (ShareHeaderSector first (place_of other) → ⊥) → touches layout (span_of layout first).first bytes other ≡ false
  beyond other differs apart = touches_beyond layout first other bytes has_first differs apart fill.fits

  in_sector : (s : ℕ) → s / 16 ≡ sector → (b : Bool) → (s / 16 == sector) ≡ b
      → touches layout (span_of layout first).first bytes (HeaderPlace s) ≡ is_some (cond b (header_unit (slice_get headers (s % 16))) None)
  in_sector s here true is =
      and_from _ _ (lt-ltb s layout.slots (omega (arith, are.inside))) (meets_at (span_of layout first).first (span_at layout
      (HeaderPlace s)) bytes (header_first layout (16 * sector) s (omega arith)) (omega (arith, header_count layout s)) fill.piece.some)
      ∙ sym (some_header headers (s % 16) (slice_get headers (s % 16)) refl (omega (arith, are.sixteen.count)))
  in_sector s here false is = absurd (eqb-false _ _ is here)

  headers_within : (s : ℕ) → covers (span_of layout first).first bytes s ≡ true → has layout (HeaderPlace (16 * sector)) s ≡ true
  headers_within s is = fits_there layout (HeaderPlace (16 * sector)) bytes s (has-from layout WalHeaders (16 * sector) has_first) fill.fits is

  headers_touch : (place : Units.Place) → touches layout (span_of layout first).first bytes place ≡ is_some (put_headers sector headers place)
  headers_touch (HeaderPlace s) = elim (cases_eq (s / 16) sector) [
    | inl here ↦ in_sector s here (s / 16 == sector) refl
    | inr there ↦
        beyond (HeaderPlace s) (λ same. there (omega (arith, ap (λ (p : Place). p.index) same))) (λ shared. there (omega (arith, shared.2)))
        ∙ ap is_some (sym (cond-false (s / 16 == sector) (header_unit (slice_get headers (s % 16))) None (ne_eqb (s / 16) sector there)))
  ]
  headers_touch (CopyPlace n) =
      beyond (CopyPlace n) (λ same. let zone = ap (λ (p : Place). p.zone) same in cc) (λ shared. let zone = shared.1 in cc)
  headers_touch (PreparePlace n) =
      beyond (PreparePlace n) (λ same. let zone = ap (λ (p : Place). p.zone) same in cc) (λ shared. let zone = shared.1 in cc)
  headers_touch (ReplyPlace n) =
      beyond (ReplyPlace n) (λ same. let zone = ap (λ (p : Place). p.zone) same in cc) (λ shared. let zone = shared.1 in cc)
  headers_touch (BlockPlace n) =
      beyond (BlockPlace n) (λ same. let zone = ap (λ (p : Place). p.zone) same in cc) (λ shared. let zone = shared.1 in cc)

  header_here : (image : Image) (s : ℕ) (x : AnyUnit) → put_headers sector headers (HeaderPlace s) ≡ Some x
      → unit_at layout cluster (written (span_of layout first).first bytes image) (HeaderPlace s) ≡ Some x
  header_here image s x is = let put = put_is sector s headers (s / 16 == sector) (slice_get headers (s % 16)) x is in
      let here : s / 16 ≡ sector = eqb-true _ _ put.0 in let h : Header = put.1.0 in let slot : 16 * sector + s % 16 ≡ s = omega arith in
      let unit = rw slot at (are.each (s % 16) h put.1.1) in
      ap (message_unit (HeaderPlace s)) (header_shown layout cluster image (16 * sector) s headers h are.sixteen (omega arith) put.1.1 unit)
      ∙ ap Some put.1.2

  headers_shown : (image : Image) (place : Units.Place) (x : AnyUnit) → IsImage image
      → put_headers sector headers place ≡ Some x → unit_at layout cluster (written (span_of layout first).first bytes image) place ≡ Some x
  headers_shown image (HeaderPlace s) x whole is = header_here image s x is
  headers_shown image (CopyPlace n) x whole is = absurd (cc)
  headers_shown image (PreparePlace n) x whole is = absurd (cc)
  headers_shown image (ReplyPlace n) x whole is = absurd (cc)
  headers_shown image (BlockPlace n) x whole is = absurd (cc)

pub headers_put : HeadersArePut
headers_put layout cluster sector headers are =
    put_shown_law (format_of layout cluster) (span_of layout (place_in WalHeaders (16 * sector))).first
    (headers_bytes headers) (put_headers sector headers) (is_format layout cluster)
    (headers_fill layout (16 * sector) headers are.sixteen).piece
    (HeaderPlace (16 * sector), headers_within layout cluster sector headers are) (headers_touch layout cluster sector headers are)
    (headers_shown layout cluster sector headers are)

-- ---- a header sector with one new header

module _ (layout : Layout) (cluster : ℕ)
    (image : Image) (new : Header) (sector : ℕ) (headers : List Header) (next : IsNextSector layout cluster image new sector headers) where
  abbrev shown : Units.Place → Option AnyUnit
  shown place = unit_at layout cluster image place

  -- each other slot of the sector is put as it is shown
  put_other : (s : ℕ) (b : Bool) (o : Option Header) → (s ≡ new.slot → ⊥) → (s / 16 == sector) ≡ b
      → slice_get headers (s % 16) ≡ o → or_else (cond b (header_unit o) None) (shown (HeaderPlace s)) ≡ shown (HeaderPlace s)
  put_other s true None other here is = refl
  put_other s true (Some h) other here is = elim (next.others s h (eqb-true (s / 16) sector here) is) [
    | inl own ↦ absurd (other own)
    | inr same ↦ sym same
  ]
  put_other s false o other here is = refl

  put_new : (s : ℕ) → or_else (put_headers sector headers (HeaderPlace s)) (shown (HeaderPlace s))
      ≡ or_else (put_one (HeaderPlace new.slot) (HeaderUnit (header_of new)) (HeaderPlace s)) (shown (HeaderPlace s))
  put_new s = elim (cases_eq s new.slot) [
    | inl own ↦ rw own (ap (λ (o : Option AnyUnit). or_else o (shown (HeaderPlace new.slot))) (cond-true (new.slot / 16 == sector)
        (header_unit (slice_get headers (new.slot % 16))) None (eq-eqb (new.slot / 16) sector next.here) ∙ ap header_unit next.has
        ∙ sym (cond-true (new.slot == new.slot) (Some (HeaderUnit (header_of new))) None (eq-eqb new.slot new.slot refl))))
    | inr other ↦ put_other s (s / 16 == sector) (slice_get headers (s % 16)) other refl refl
        ∙ ap (λ (o : Option AnyUnit). or_else o (shown (HeaderPlace s)))
        (sym (cond-false (new.slot == s) (Some (HeaderUnit (header_of new))) None (ne_eqb new.slot s (λ same. other (sym same)))))
  ]

  one_put_of : (place : Units.Place) → or_else (put_headers sector headers place) (shown place)
      ≡ or_else (put_one (HeaderPlace new.slot) (HeaderUnit (header_of new)) place) (shown place)
  one_put_of (CopyPlace n) = refl
  one_put_of (HeaderPlace s) = put_new s
  one_put_of (PreparePlace s) = refl
  one_put_of (ReplyPlace k) = refl
  one_put_of (BlockPlace a) = refl

pub one_new : OneHeaderIsNew
one_new layout cluster image new sector headers place whole next =
    (headers_put layout cluster sector headers next.are).shows image place whole ∙ one_put_of layout cluster image new sector headers next place
