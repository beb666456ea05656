-- What the tests of a unit find, and that a room is sound where they pass.
use Rattle.std.{proofs.{Common.{◌≡◌, ◌≢◌, ◌≤◌, ◌*◌, ℕ, List, [], length, take, Option, Some, None, refl, sym, ◌∙◌, ap, subst, arith}, lemmas.List.{length-take-le}}, specs.Prelude.{Result, Ok, Err}}
use Rattle.df_base.specs.Fields.{AreBytes}
use Rattle.df_layout.specs.{declared.damage.Class.{Class}, declared.damage.Class.TheVariants.{Stale}, declared.layout.Layout.{Layout}, declared.places.Place.{Place}, declared.places.Zone.{Zone}, declared.places.Zone.TheVariants.{WalHeaders, WalPrepares, ClientReplies, Grid}, Spans.{place_sectors}}
use Rattle.df_format.{specs.{declared.header.Header.{Header}, declared.kind.Kind.{Kind}, declared.kind.Kind.TheVariants.{Reserved, Prepare, Reply, Block, Trailer}, Message.{Message, sectors_end}, Shown.{unit_in, class_of, header_or_class}, Valid.{IsUnit}, Wanted.{IsWanted, Wanted as Words, Any as AnyOne, Op as WithOp, Checksum as WithChecksum, Answer as AnswerTo}, UnitLaws.{place_size, AreForPlace}, Brings.{Brings}}, proofs.Laws.{one_unit, valid_stale, body_follows, ring_has_no_body, count_is, front_brings, fits_slot}}
use Rattle.df_buffers.specs.{declared.identity.Identity.{Identity}, declared.identity.Wanted.{Wanted}, declared.identity.Wanted.TheVariants.{Any}, Rooms.{StandsIn, FillsRoom, room_size}, Found.{wanted_words, FindsUnit, FindsKind, IsValidUnit, class_for, shown_in}, Sounds.{BringsOwn, Holding, IsSound, AreWholeSectors, unit_with}}

ok_same : {h k : Header} → (let one : Result Header Class = Ok h in one ≡ Ok k) → h ≡ k
ok_same is = cc

some_stale : (layout : Layout) (cluster : ℕ) (place : Place) (bytes : List ℕ) (o : Option Message) (class : Class) (h : Header)
    → unit_in layout cluster place bytes ≡ o → Ok h ≡ header_or_class o class → class_of layout cluster place bytes ≡ Stale
some_stale layout cluster place bytes None class h is ok = absurd (cc)
some_stale layout cluster place bytes (Some u) class h is ok = valid_stale layout cluster place bytes u is

-- bytes that are valid at the place have the class of a unit that isn't wanted
pub valid_class : (identity : Identity) (bytes : List ℕ) (h : Header)
    → Ok h ≡ header_or_class (unit_in identity.layout identity.cluster identity.place bytes)
    (class_of identity.layout identity.cluster identity.place bytes) → Stale ≡ class_for identity bytes
valid_class identity bytes h ok = sym (some_stale identity.layout identity.cluster identity.place bytes _ _ h refl ok)

-- whether a unit is wanted depends on its header alone
wanted_same : (wanted : Words) (u v : Message) → u.header ≡ v.header → IsWanted wanted u → IsWanted wanted v
wanted_same AnyOne u v same is = is
wanted_same (WithOp op) u v same is =
    record { kind = ap (λ (h : Header). h.kind) (sym same) ∙ is.kind; op = ap (λ (h : Header). h.op) (sym same) ∙ is.op }
wanted_same (WithChecksum checksum) u v same is = ap (λ (h : Header). h.checksum) (sym same) ∙ is
wanted_same (AnswerTo client request op) u v same is = record {
  kind = ap (λ (h : Header). h.kind) (sym same) ∙ is.kind;
  client = ap (λ (h : Header). h.client) (sym same) ∙ is.client;
  request = ap (λ (h : Header). h.request) (sym same) ∙ is.request;
  op = ap (λ (h : Header). h.op) (sym same) ∙ is.op;
}

abbrev FindsHeader : Identity → List ℕ → Header → Type 0
FindsHeader identity bytes h = (u : Message) × (u.header ≡ h) × FindsUnit identity bytes u × IsValidUnit identity u

some_found : (identity : Identity) (bytes : List ℕ) (o : Option Message) (class : Class) (h : Header)
    → length bytes ≡ place_size identity.layout identity.place.zone → AreBytes bytes
    → unit_in identity.layout identity.cluster identity.place bytes ≡ o → Ok h ≡ header_or_class o class
    → IsWanted (wanted_words identity.wanted) (record { header = h; body = [] }) → FindsHeader identity bytes h
some_found identity bytes None class h size are is ok wanted = absurd (cc)
some_found identity bytes (Some u) class h size are is ok wanted = let same : u.header ≡ h = sym (ok_same ok) in (
  u,
  same,
  record { valid = is; wanted = wanted_same (wanted_words identity.wanted) (record { header = h; body = [] }) u (sym same) wanted },
  ((one_unit identity.layout identity.cluster identity.place bytes u size are).0 is).is,
)

-- the unit that was decoded and is wanted is the one to be found
pub found_by : (identity : Identity) (bytes : List ℕ) (h : Header)
    → length bytes ≡ place_size identity.layout identity.place.zone → AreBytes bytes → Ok h ≡ header_or_class
    (unit_in identity.layout identity.cluster identity.place bytes) (class_of identity.layout identity.cluster identity.place bytes)
    → IsWanted (wanted_words identity.wanted) (record { header = h; body = [] }) → FindsHeader identity bytes h
found_by identity bytes h size are ok wanted = some_found identity bytes _ _ h size are refl ok wanted

pub found_class : (identity : Identity) (bytes : List ℕ) (u : Message) → FindsUnit identity bytes u → Stale ≡ class_for identity bytes
found_class identity bytes u found = sym (valid_stale identity.layout identity.cluster identity.place bytes u found.valid)

pub is_no_ring : (kind : Kind) (zone : Zone) → StandsIn kind zone → zone ≢ WalHeaders
is_no_ring kind WalPrepares stands same = cc
is_no_ring kind ClientReplies stands same = cc
is_no_ring kind Grid stands same = cc
is_no_ring Reserved zone stands same = absurd stands
is_no_ring Prepare zone stands same = absurd (subst (λ (z : Zone). StandsIn Prepare z) same stands)
is_no_ring Reply zone stands same = absurd (subst (λ (z : Zone). StandsIn Reply z) same stands)
is_no_ring Block zone stands same = absurd (subst (λ (z : Zone). StandsIn Block z) same stands)
is_no_ring Trailer zone stands same = absurd (subst (λ (z : Zone). StandsIn Trailer z) same stands)

-- the unit of a slot is its header, and the body that follows it
pub found_whole : (layout : Layout) (cluster : ℕ) (place : Place) (bytes : List ℕ) (u : Message) (h : Header)
    → place.zone ≢ WalHeaders → u.header ≡ h → unit_in layout cluster place bytes ≡ Some u → u ≡ unit_with h bytes
found_whole layout cluster place bytes u h other same valid = let body = body_follows layout cluster place bytes u other valid in
    let whole : u ≡ unit_with u.header bytes = λ i. record { header = u.header; body = body i } in
    whole ∙ ap (λ (x : Header). unit_with x bytes) same

pub found_kind : (kind : Kind) (identity : Identity) (bytes : List ℕ) (u : Message) (h : Header)
    → StandsIn kind identity.place.zone → u.header ≡ h → h.kind ≡ kind → FindsUnit identity bytes u
    → FindsKind kind identity bytes (unit_with h bytes)
found_kind kind identity bytes u h stands same of found = let whole =
    found_whole identity.layout identity.cluster identity.place bytes u h (is_no_ring kind identity.place.zone stands) same found.valid in
    record { found = subst (λ (x : Message). FindsUnit identity bytes x) whole found; of_kind = of }

pub kind_there : (identity : Identity) (bytes : List ℕ) (u : Message) (h : Header) (kind : Kind) → StandsIn kind identity.place.zone
    → u.header ≡ h → FindsUnit identity bytes u → IsValidUnit identity u → IsValidUnit identity (unit_with h bytes)
kind_there identity bytes u h kind stands same found there = subst (λ (x : Message). IsValidUnit identity x) (found_whole
    identity.layout identity.cluster identity.place bytes u h (is_no_ring kind identity.place.zone stands) same found.valid) there

-- a room is sound where the tests pass
pub sound_from : (zone : Zone) (kind : Kind) (layout : Layout) (identity : Identity) (bytes : List ℕ) (h : Header)
    → FillsRoom layout zone bytes → identity.layout ≡ layout → identity.place.zone ≡ zone
    → FindsKind kind identity bytes (unit_with h bytes)
    → IsValidUnit identity (unit_with h bytes) → IsSound zone kind (record { layout = layout; unit = unit_with h bytes; bytes = bytes })
sound_from zone kind layout identity bytes h fills same in_zone found there =
    let valid : unit_in layout h.cluster identity.place bytes ≡ Some (unit_with h bytes) =
    (λ i. unit_in (sym same i) (there.owner i) identity.place bytes) ∙ found.found.valid in
    let is = subst (λ (l : Layout). IsUnit l h.cluster identity.place (unit_with h bytes))
    same (subst (λ (c : ℕ). IsUnit identity.layout c identity.place (unit_with h bytes)) (sym there.owner) there) in
    record { fills = fills; of_kind = found.of_kind; place = identity.place; in_zone = in_zone; is = is; valid = valid }

-- where the parts of a sound room end
pub record Ends (holding : Holding) : Type 0 where
  pub least : 256 ≤ holding.unit.header.size
  pub size : holding.unit.header.size ≤ length holding.bytes
  pub sectors : sectors_end holding.unit.header.size ≤ length holding.bytes

pub ends : (zone : Zone) (kind : Kind) (holding : Holding) → StandsIn kind zone → IsSound zone kind holding → Ends holding
ends zone kind holding stands is = let most : holding.unit.header.size ≤ 4096 * place_sectors holding.layout zone =
    subst (λ (z : Zone). z ≢ WalHeaders → holding.unit.header.size ≤ 4096 * place_sectors holding.layout z) is.in_zone (λ other.
    omega (arith, is.is.fits, fits_slot holding.layout is.place.zone other)) (is_no_ring kind zone stands) in
    record { least = is.is.sealed.rules.size; size = omega (arith, most, is.fills); sectors = omega (arith, most, is.fills) }

-- a header of the ring is a unit with no body
header_whole : (identity : Identity) (bytes : List ℕ) (u : Message) (h : Header)
    → identity.place.zone ≡ WalHeaders → u.header ≡ h → FindsUnit identity bytes u → u ≡ record { header = h; body = [] }
header_whole identity bytes u h ring same found =
    let none = ring_has_no_body identity.layout identity.cluster identity.place bytes u ring found.valid in
    λ i. record { header = same i; body = none i }

pub found_header : (identity : Identity) (bytes : List ℕ) (u : Message) (h : Header) → identity.place.zone ≡ WalHeaders
    → u.header ≡ h → FindsUnit identity bytes u → FindsUnit identity bytes (record { header = h; body = [] })
found_header identity bytes u h ring same found =
    subst (λ (x : Message). FindsUnit identity bytes x) (header_whole identity bytes u h ring same found) found

pub header_there : (identity : Identity) (bytes : List ℕ) (u : Message) (h : Header) → identity.place.zone ≡ WalHeaders
    → u.header ≡ h → FindsUnit identity bytes u → IsValidUnit identity u → IsValidUnit identity (record { header = h; body = [] })
header_there identity bytes u h ring same found there =
    subst (λ (x : Message). IsValidUnit identity x) (header_whole identity bytes u h ring same found) there

-- the sectors that a sound room lends are whole ones of the room, one at least
pub are_whole : (zone : Zone) (kind : Kind) (holding : Holding) (lent : List ℕ)
    → StandsIn kind zone → IsSound zone kind holding → lent ≡ take (sectors_end holding.unit.header.size) holding.bytes
    → AreWholeSectors zone holding.layout lent
are_whole zone kind holding lent stands is same = let e = ends zone kind holding stands is in
    let size : length lent ≡ sectors_end holding.unit.header.size =
    ap (λ (l : List ℕ). length l) same ∙ length-take-le (sectors_end holding.unit.header.size) holding.bytes e.sectors in
    record { some = omega (arith, size, e.least); whole = omega (arith, size); fits = omega (arith, size, e.sectors, is.fills) }

pub sector_size : (layout : Layout) → room_size layout WalHeaders ≡ 4096
unfolding place_sectors
sector_size layout = refl

pub found_in : (kind kind2 : Kind) (identity : Identity) (bytes bytes2 : List ℕ) (h : Header)
    → kind ≡ kind2 → bytes ≡ bytes2 → FindsKind kind identity bytes (unit_with h bytes)
    → FindsKind kind2 identity bytes2 (unit_with h bytes2)
found_in kind kind2 identity bytes bytes2 h same here found = subst (λ (x : List ℕ).
    FindsKind kind2 identity x (unit_with h x)) here (subst (λ (x : Kind). FindsKind x identity bytes (unit_with h bytes)) same found)

pub there_in : (identity : Identity) (bytes bytes2 : List ℕ) (h : Header)
    → bytes ≡ bytes2 → IsValidUnit identity (unit_with h bytes) → IsValidUnit identity (unit_with h bytes2)
there_in identity bytes bytes2 h here there = subst (λ (x : List ℕ). IsValidUnit identity (unit_with h x)) here there

-- and they bring its unit
pub sectors_bring : (zone : Zone) (kind : Kind) (holding : Holding) (lent : List ℕ)
    → StandsIn kind zone → IsSound zone kind holding → lent ≡ take (sectors_end holding.unit.header.size) holding.bytes → AreBytes lent
    → BringsOwn zone holding lent
sectors_bring zone kind holding lent stands is same each = let e = ends zone kind holding stands is in
    let whole = are_whole zone kind holding lent stands is same in
    let alone : is.place.zone ≢ WalHeaders = subst (λ (z : Zone). z ≢ WalHeaders) (sym is.in_zone) (is_no_ring kind zone stands) in
    let room : length lent ≤ 4096 * place_sectors holding.layout is.place.zone =
    subst (λ (z : Zone). length lent ≤ 4096 * place_sectors holding.layout z) (sym is.in_zone) whole.fits in
    let for : AreForPlace holding.layout is.place lent =
    record { piece = record { some = whole.some; whole = whole.whole; each = each }; fits = omega (arith, room, count_is holding.layout is.place) } in
    record {
      place = is.place;
      in_zone = is.in_zone;
      is = is.is;
      brings = subst (λ (l : List ℕ). Brings holding.layout holding.unit.header.cluster is.place holding.unit l) (sym same)
          (front_brings holding.layout holding.unit.header.cluster
          is.place holding.bytes (sectors_end holding.unit.header.size) holding.unit alone is.is is.valid (omega arith) e.sectors
          (subst (λ (l : List ℕ). AreForPlace holding.layout is.place l) same for));
    }

-- where any unit is wanted and none is found, the place shows none
pub none_any : (identity : Identity) (bytes : List ℕ) (class : Class) → identity.wanted ≡ Any
    → ((u : Message) → FindsUnit identity bytes u → ⊥) → class ≡ class_for identity bytes → Err class ≡ shown_in identity bytes
none_any identity bytes class any none is = by (unit_in identity.layout identity.cluster identity.place bytes) refl
  where
    by : (o : Option Message)
        → unit_in identity.layout identity.cluster identity.place bytes ≡ o → Err class ≡ header_or_class o (class_for identity bytes)
    by None shown = ap Err is
    by (Some u) shown = absurd (none u (record { valid = shown; wanted = subst (λ (w : Wanted). IsWanted (wanted_words w) u) (sym any) tt }))
