-- Which unit the bytes of a place show: exactly the one that they begin with.
use Rattle.std.{proofs.{Common.{◌≡◌, ◌≢◌, ◌≤◌, ◌-◌, ◌*◌, ℕ, Bool, true, false, List, ◌++◌, length, take, drop, replicate, Option, Some, None, cond, refl, sym, ◌∙◌, ap, subst, arith, append_assoc}, lemmas.Bool.{cond-true, cond-false, and_parts, and_from, eqb-true, eq-eqb, leb-true, le-leb, false_from_ne_true}, lemmas.List.{take_at, drop_at, take-append-drop, length-take-le, length-drop}, lemmas.Slice.Eq.{bytes_eq-Decides}, lemmas.Option.{cond_some, same_Some}}, specs.{Str.{bytes_eq}}}
use Rattle.df_base.{specs.{Fields.{AreBytes, check_of}, Image.{Image}}, proofs.Laws.{AreBytes-take, AreBytes-drop, cond_there}}
use Rattle.df_layout.specs.{declared.damage.Class.{Class}, declared.damage.Class.TheVariants.{Blank, Elsewhere, Stale}, declared.layout.Layout.{Layout}, declared.places.Place.{Place}, declared.places.Zone.{Zone}, declared.places.Zone.TheVariants.{Superblock, WalHeaders}, Spans.{HasPlace, place_sectors}}
use Rattle.df_format.{specs.{declared.header.Header.{Header}, declared.kind.Kind.{Kind}, declared.kind.Kind.TheVariants.{Reserved}, Spelling.{code_of, spelling}, Rules.{IsSealed}, Reading.{header_in}, Message.{Message}, Own.{own_place}, Whole.{Whole, greatest_size, body_in, has_body, is_unit, with_own, if_unit, whole_in}, Shown.{same_place, if_own, unit_in, unit_at, bytes_of, is_blank, class_of_whole, class_of, class_at}, Valid.{IsBodyOf, HasBody, BeginsWithUnit}, UnitLaws.{place_size, UnitsHaveOneSpelling, BodyFollows, RingHasNoBody, ValidIsStale, StaleIsValid, ElsewhereIsOther}}, proofs.{Spelled.{read_as, reads, was_spelled, length-spelling}, Owned.{own_is, same_place-true, same_place-self}}}

-- how a whole unit was found
pub record IsFound (layout : Layout) (cluster : ℕ) (zone : Zone) (bytes : List ℕ) (u : Message) (own : Place) : Type 0 where
  pub header : header_in (take 256 bytes) ≡ Some u.header
  pub owner : u.header.cluster ≡ cluster
  pub fits : u.header.size ≤ greatest_size layout zone
  pub tested : has_body zone u.header bytes ≡ true
  pub body : body_in zone u.header.size bytes ≡ u.body
  pub belongs : own_place layout zone u.header ≡ Some own

with_parts : (zone : Zone) (bytes : List ℕ) (h : Header) (o : Option Place) (w : Whole) → with_own zone bytes h o ≡ Some w
    → (o ≡ Some w.own) × (h ≡ w.unit.header) × (body_in zone h.size bytes ≡ w.unit.body)
with_parts zone bytes h None w is = absurd (cc)
with_parts zone bytes h (Some own) w is = let same = same_Some _ _ is in
    (ap (λ (x : Whole). Some x.own) same, ap (λ (x : Whole). x.unit.header) same, ap (λ (x : Whole). x.unit.body) same)

unit_parts : (layout : Layout) (cluster : ℕ) (zone : Zone) (bytes : List ℕ) (o : Option Header) (w : Whole)
    → if_unit layout cluster zone bytes o ≡ Some w → o ≡ header_in (take 256 bytes) → IsFound layout cluster zone bytes w.unit w.own
unit_parts layout cluster zone bytes None w is from = absurd (cc)
unit_parts layout cluster zone bytes (Some h) w is from = let parts = cond_there _ _ w is in
    let own = with_parts zone bytes h (own_place layout zone h) w parts.1 in let tests = and_parts _ _ parts.0 in
    let fixed = and_parts _ _ tests.0 in record {
      header = sym from ∙ ap Some own.1;
      owner = ap (λ (x : Header). x.cluster) (sym own.1) ∙ eqb-true _ _ fixed.0;
      fits = rw own.1 at (leb-true _ _ fixed.1);
      tested = rw own.1 at tests.1;
      body = ap (λ (x : Header). body_in zone x.size bytes) (sym own.1) ∙ own.2;
      belongs = ap (λ (x : Header). own_place layout zone x) (sym own.1) ∙ own.0;
    }

pub whole_found : (layout : Layout) (cluster : ℕ) (zone : Zone) (bytes : List ℕ) (w : Whole)
    → whole_in layout cluster zone bytes ≡ Some w → IsFound layout cluster zone bytes w.unit w.own
unfolding whole_in
whole_found layout cluster zone bytes w is = unit_parts layout cluster zone bytes (header_in (take 256 bytes)) w is refl

pub found_whole : (layout : Layout) (cluster : ℕ) (zone : Zone) (bytes : List ℕ) (u : Message) (own : Place)
    → IsFound layout cluster zone bytes u own → whole_in layout cluster zone bytes ≡ Some (record { unit = u; own = own })
unfolding whole_in
found_whole layout cluster zone bytes u own is =
    let fixed = and_from _ _ (eq-eqb u.header.cluster cluster is.owner) (le-leb u.header.size (greatest_size layout zone) is.fits) in
    ap (λ (o : Option Header). if_unit layout cluster zone bytes o) is.header ∙ cond-true (is_unit layout cluster zone bytes u.header)
    (with_own zone bytes u.header (own_place layout zone u.header)) None (and_from _ _ fixed is.tested)
    ∙ ap (λ (o : Option Place). with_own zone bytes u.header o) is.belongs
    ∙ (λ i. Some (record { unit = record { header = u.header; body = is.body i }; own = own }))

own_parts : (place : Place) (o : Option Whole) (u : Message) → if_own place o ≡ Some u → o ≡ Some (record { unit = u; own = place })
own_parts place None u is = absurd (cc)
own_parts place (Some w) u is = let parts = cond_some _ _ u is in let here = same_place-true w.own place parts.0 in
    λ i. Some (record { unit = parts.1 i; own = here i })

-- how the unit that a place shows was found
pub unit_found : (layout : Layout) (cluster : ℕ) (place : Place) (bytes : List ℕ) (u : Message)
    → unit_in layout cluster place bytes ≡ Some u → IsFound layout cluster place.zone bytes u place
unfolding unit_in
unit_found layout cluster place bytes u is =
    whole_found layout cluster place.zone bytes (record { unit = u; own = place }) (own_parts place _ u is)

pub found_unit : (layout : Layout) (cluster : ℕ) (place : Place) (bytes : List ℕ) (u : Message)
    → IsFound layout cluster place.zone bytes u place → unit_in layout cluster place bytes ≡ Some u
unfolding unit_in
found_unit layout cluster place bytes u is =
    ap (λ (o : Option Whole). if_own place o) (found_whole layout cluster place.zone bytes u place is)
    ∙ cond-true (same_place place place) (Some u) None (same_place-self place)

body_behind : (zone : Zone) (size : ℕ) (bytes : List ℕ) → zone ≢ WalHeaders → body_in zone size bytes ≡ take (size - 256) (drop 256 bytes)
body_behind WalHeaders size bytes other = absurd (other refl)
body_behind _ size bytes other = refl

pub body_follows : BodyFollows
body_follows layout cluster place bytes u other valid =
    sym (unit_found layout cluster place bytes u valid).body ∙ body_behind place.zone u.header.size bytes other

pub ring_has_no_body : RingHasNoBody
ring_has_no_body layout cluster place bytes u ring valid =
    sym (unit_found layout cluster place bytes u valid).body ∙ ap (λ (z : Zone). body_in z u.header.size bytes) ring

-- what stands after the header is the body, and a rest
body_rest : (zone : Zone) (size : ℕ) (bytes : List ℕ) → (rest : List ℕ) × (drop 256 bytes ≡ body_in zone size bytes ++ rest)
body_rest WalHeaders size bytes = (drop 256 bytes, refl)
body_rest _ size bytes = (drop (size - 256) (drop 256 bytes), sym (take-append-drop (size - 256) (drop 256 bytes)))

-- the body's checksum was tested
abbrev IsTested : Header → List ℕ → Type 0
IsTested h bytes = bytes_eq h.checksum_body (check_of (take (h.size - 256) (drop 256 bytes))) ≡ true

body_is : (h : Header) (bytes : List ℕ)
    → AreBytes bytes → 256 ≤ h.size → h.size ≤ length bytes → IsTested h bytes → IsBodyOf h (take (h.size - 256) (drop 256 bytes))
body_is h bytes are least fits tested = let long = length-take-le (h.size - 256) (drop 256 bytes) (omega (arith, length-drop 256 bytes)) in
    record {
      size = omega (arith, long);
      checksum = (bytes_eq-Decides _ _).0 tested;
      each = AreBytes-take (h.size - 256) (drop 256 bytes) (AreBytes-drop 256 bytes are);
    }

-- no unit is longer than its slot
pub fits_slot : (layout : Layout) (zone : Zone) → zone ≢ WalHeaders → greatest_size layout zone ≤ 4096 * place_sectors layout zone
unfolding place_sectors
fits_slot layout WalHeaders other = absurd (other refl)
fits_slot layout _ other = omega (arith, layout.message_size_within.2, layout.block_size_within.2)

has_its_body : (layout : Layout) (zone : Zone) (h : Header) (bytes : List ℕ)
    → length bytes ≡ place_size layout zone → AreBytes bytes → 256 ≤ h.size → h.size ≤ greatest_size layout zone
    → has_body zone h bytes ≡ true → HasBody zone h (body_in zone h.size bytes)
has_its_body layout WalHeaders h bytes size are least fits tested = refl
has_its_body layout zone h bytes size are least fits tested =
    body_is h bytes are least (omega (arith, fits_slot layout zone (λ same. cc))) tested

-- elsewhere than in the header ring a place is a whole slot
pub place_is_slot : (layout : Layout) (zone : Zone) → zone ≢ WalHeaders → place_size layout zone ≡ 4096 * place_sectors layout zone
place_is_slot layout WalHeaders other = absurd (other refl)
place_is_slot layout _ other = refl

-- the place has a header at least
pub least_size : (layout : Layout) (zone : Zone) → 256 ≤ place_size layout zone
unfolding place_sectors
least_size layout Superblock = omega arith
least_size layout _ = omega (arith, layout.message_size_within.0, layout.block_size_within.0)

module _ (layout : Layout) (cluster : ℕ) (place : Place) (bytes : List ℕ) (u : Message)
    (size : length bytes ≡ place_size layout place.zone) (are : AreBytes bytes) (is : IsFound layout cluster place.zone bytes u place) where
  was : IsSealed u.header × (take 256 bytes ≡ spelling u.header)
  was = let least = length-take-le 256 bytes (omega (arith, size, least_size layout place.zone)) in
      was_spelled (take 256 bytes) u.header least (AreBytes-take 256 bytes are) (read_as _ _ is.header)

  begins : BeginsWithUnit layout cluster place bytes u
  begins = let rest = body_rest place.zone u.header.size bytes in let sealed : IsSealed u.header = was.0 in
      let body : HasBody place.zone u.header u.body = subst (HasBody place.zone u.header)
      is.body (has_its_body layout place.zone u.header bytes size are was.0.rules.size is.fits is.tested) in record {
        is = assumption;
        rest = rest.0;
        spelled = sym (take-append-drop 256 bytes) ∙ (λ i. was.1 i ++ rest.1 i)
            ∙ ap (λ (l : List ℕ). spelling u.header ++ (l ++ rest.0)) is.body ∙ sym (append_assoc (spelling u.header) u.body rest.0);
      }

body_back : (h : Header) (body rest bytes : List ℕ)
    → drop 256 bytes ≡ body ++ rest → IsBodyOf h body → (IsTested h bytes) × (take (h.size - 256) (drop 256 bytes) ≡ body)
body_back h body rest bytes behind is = let count : h.size - 256 ≡ length body = omega (arith, is.size) in
    let same : take (h.size - 256) (drop 256 bytes) ≡ body = (λ i. take (count i) (behind i)) ∙ take_at body rest (length body) refl in
    ((bytes_eq-Decides _ _).1 (is.checksum ∙ ap check_of (sym same)), same)

body_found : (zone : Zone) (h : Header) (body rest bytes : List ℕ)
    → drop 256 bytes ≡ body ++ rest → HasBody zone h body → (has_body zone h bytes ≡ true) × (body_in zone h.size bytes ≡ body)
body_found WalHeaders h body rest bytes behind is = (refl, sym is)
body_found _ h body rest bytes behind is = body_back h body rest bytes behind is

-- bytes that begin with a unit show it
pub begun_is_shown : (layout : Layout) (cluster : ℕ) (place : Place) (bytes : List ℕ) (u : Message)
    → BeginsWithUnit layout cluster place bytes u → unit_in layout cluster place bytes ≡ Some u
begun_is_shown layout cluster place bytes u begun = let is = begun.is in let long = length-spelling u.header is.sealed in
    let all : bytes ≡ spelling u.header ++ (u.body ++ begun.rest) = begun.spelled ∙ append_assoc (spelling u.header) u.body begun.rest in
    let head : take 256 bytes ≡ spelling u.header = ap (λ (l : List ℕ). take 256 l) all ∙ take_at (spelling u.header) _ 256 long in
    let behind : drop 256 bytes ≡ u.body ++ begun.rest = ap (λ (l : List ℕ). drop 256 l) all ∙ drop_at (spelling u.header) _ 256 long in
    let body = body_found place.zone u.header u.body begun.rest bytes behind is.body in
    found_unit layout cluster place bytes u (assumption (ap header_in head ∙ reads u.header is.sealed))

-- a place shows a unit exactly where its bytes begin with it
pub one_unit : UnitsHaveOneSpelling
one_unit layout cluster place bytes u size are = (
  λ is. begins layout cluster place bytes u size are (unit_found layout cluster place bytes u is),
  λ begun. begun_is_shown layout cluster place bytes u begun,
)

-- no kind has the code 0
zero_is_no_code : (kind : Kind) → 0 ≡ code_of kind → ⊥
zero_is_no_code Reserved is = omega (arith, is)
zero_is_no_code _ is = omega (arith, is)

-- zeros are no header
pub zeros_are_none : (bytes : List ℕ) (h : Header) → take 256 bytes ≡ replicate 256 0 → header_in (take 256 bytes) ≡ Some h → ⊥
zeros_are_none bytes h zeros is = zero_is_no_code h.kind (rw zeros at (read_as _ _ is).code)

pub blank-true : (bytes : List ℕ) → is_blank bytes ≡ true → take 256 bytes ≡ replicate 256 0
unfolding is_blank
blank-true bytes is = (bytes_eq-Decides _ _).0 is

pub blank-from : (bytes : List ℕ) → take 256 bytes ≡ replicate 256 0 → is_blank bytes ≡ true
unfolding is_blank
blank-from bytes is = (bytes_eq-Decides _ _).1 is

-- blank bytes are no whole unit
pub whole_is_not_blank : (layout : Layout) (cluster : ℕ) (zone : Zone) (bytes : List ℕ) (w : Whole)
    → whole_in layout cluster zone bytes ≡ Some w → is_blank bytes ≡ false
whole_is_not_blank layout cluster zone bytes w is = false_from_ne_true _ (λ blank.
    zeros_are_none bytes w.unit.header (blank-true bytes blank) (whole_found layout cluster zone bytes w is).header)

pub valid_stale : ValidIsStale
unfolding class_of
valid_stale layout cluster place bytes u is =
    let whole = found_whole layout cluster place.zone bytes u place (unit_found layout cluster place bytes u is) in
    cond-false _ Blank _ (whole_is_not_blank layout cluster place.zone bytes _ whole)
    ∙ ap (λ (o : Option Whole). class_of_whole place o) whole ∙ cond-true _ Stale (Elsewhere place) (same_place-self place)

-- a place that shows a unit, where another one is wanted, is stale
pub shown_stale : (layout : Layout) (cluster : ℕ) (image : Image) (place : Place) (u : Message)
    → unit_at layout cluster image place ≡ Some u → class_at layout cluster image place ≡ Stale
unfolding unit_at class_at
shown_stale layout cluster image place u shown = valid_stale layout cluster place (bytes_of layout image place) u shown

stale_by : (b : Bool) (own : Place) → cond b Stale (Elsewhere own) ≡ Stale → b ≡ true
stale_by true own is = refl
stale_by false own is = absurd (cc)

whole_stale : (place : Place) (o : Option Whole) → class_of_whole place o ≡ Stale → (u : Message) × (if_own place o ≡ Some u)
whole_stale place None is = absurd (cc)
whole_stale place (Some w) is = (w.unit, cond-true (same_place w.own place) (Some w.unit) None (stale_by (same_place w.own place) w.own is))

-- the class of what isn't blank
pub unless_blank : (b : Bool) (class : Class) → cond b Blank class ≡ Stale → class ≡ Stale
unless_blank true class is = absurd (cc)
unless_blank false class is = is

pub stale_valid : StaleIsValid
unfolding class_of unit_in
stale_valid layout cluster place bytes is = whole_stale place (whole_in layout cluster place.zone bytes)
    (unless_blank (is_blank bytes) (class_of_whole place (whole_in layout cluster place.zone bytes)) is)

elsewhere_by : (b : Bool) (own other : Place) → cond b Stale (Elsewhere own) ≡ Elsewhere other → (b ≡ false) × (own ≡ other)
elsewhere_by true own other is = absurd (cc)
elsewhere_by false own other is = (refl, cc)

whole_elsewhere : (layout : Layout) (cluster : ℕ) (place other : Place) (bytes : List ℕ) (o : Option Whole)
    → class_of_whole place o ≡ Elsewhere other → whole_in layout cluster place.zone bytes ≡ o → HasPlace layout other × (other ≢ place)
whole_elsewhere layout cluster place other bytes None is from = absurd (cc)
whole_elsewhere layout cluster place other bytes (Some w) is from = let parts = elsewhere_by (same_place w.own place) w.own other is in
    let found = whole_found layout cluster place.zone bytes w from in (
      rw parts.1 at (own_is layout place.zone w.unit.header w.own found.belongs).has,
      λ same. let both : same_place w.own place ≡ true = ap (λ (p : Place). same_place p place) (parts.1 ∙ same) ∙ same_place-self place in
          absurd (cc (both, parts.0)),
    )

not_blank : (b : Bool) (class : Class) (other : Place) → cond b Blank class ≡ Elsewhere other → class ≡ Elsewhere other
not_blank true class other is = absurd (cc)
not_blank false class other is = is

pub elsewhere_other : ElsewhereIsOther
unfolding class_of
elsewhere_other layout cluster place other bytes is = whole_elsewhere layout cluster place other bytes _ (not_blank _ _ other is) refl
