-- The answers of the decoder: the header of the unit that is valid at a place, or the class of what stands there.
use Rattle.std.{proofs.{Common.{◌≡◌, ◌≢◌, ℕ, true, false, List, Option, Some, None, cond, refl, sym, ◌∙◌, ap}, lemmas.Bool.{cond-true, cond-false, false_from_ne_true}, lemmas.Option.{same_Some}}, specs.Prelude.{Result, Ok, Err}}
use Rattle.df_layout.specs.{declared.damage.Class.{Class}, declared.damage.Class.TheVariants.{Blank, Elsewhere, Stale}, declared.layout.Layout.{Layout}, declared.places.Place.{Place}}
use Rattle.df_format.{specs.{declared.header.Header.{Header}, Message.{Message}, Whole.{Whole, whole_in, owner_of}, Shown.{same_place, if_own, unit_in, is_blank, class_of_none, class_of_whole, class_of, header_or_class}}, proofs.{Owned.{same_place-true, same_place-self}, Wholes.{whole_is_not_blank}}}

-- the answer by the whole unit
abbrev answer : Place → List ℕ → Option Whole → Result Header Class
answer place bytes o = header_or_class (if_own place o) (cond (is_blank bytes) Blank (class_of_whole place o))

answer_is : (layout : Layout) (cluster : ℕ) (place : Place) (bytes : List ℕ) (o : Option Whole) → whole_in layout cluster place.zone bytes ≡ o
    → answer place bytes o ≡ header_or_class (unit_in layout cluster place bytes) (class_of layout cluster place bytes)
unfolding unit_in class_of
answer_is layout cluster place bytes o is = ap (λ (x : Option Whole). answer place bytes x) (sym is)

no_owner : (o : Option Whole) → None ≡ owner_of o → o ≡ None
no_owner None is = refl
no_owner (Some w) is = absurd (cc)

-- the unit of an owner
record IsOwner (o : Option Whole) (h : Header) (own : Place) : Type 0 where
  whole : Whole
  is : o ≡ Some whole
  header : whole.unit.header ≡ h
  place : whole.own ≡ own

an_owner : (o : Option Whole) (h : Header) (own : Place) → Some (h, own) ≡ owner_of o → IsOwner o h own
an_owner None h own is = absurd (cc)
an_owner (Some w) h own is = let same : (h, own) ≡ (w.unit.header, w.own) = same_Some _ _ is in
    record { whole = w; is = refl; header = ap (λ (x : Header × Place). x.0) (sym same); place = ap (λ (x : Header × Place). x.1) (sym same) }

pub decoded_none : (layout : Layout) (cluster : ℕ) (place : Place) (bytes : List ℕ) (class : Class)
    → None ≡ owner_of (whole_in layout cluster place.zone bytes) → class ≡ class_of_none bytes
    → Err class ≡ header_or_class (unit_in layout cluster place bytes) (class_of layout cluster place bytes)
decoded_none layout cluster place bytes class none is =
    ap (λ (x : Class). Err x) is ∙ answer_is layout cluster place bytes None (no_owner _ none)

pub decoded_here : (layout : Layout) (cluster : ℕ) (place : Place) (bytes : List ℕ) (h : Header) (own : Place)
    → Some (h, own) ≡ owner_of (whole_in layout cluster place.zone bytes) → own ≡ place
    → Ok h ≡ header_or_class (unit_in layout cluster place bytes) (class_of layout cluster place bytes)
decoded_here layout cluster place bytes h own some here = let w = an_owner _ h own some in
    let same : same_place w.whole.own place ≡ true = ap (λ (p : Place). same_place p place) (w.place ∙ here) ∙ same_place-self place in
    ap (λ (x : Header). Ok x) (sym w.header) ∙ ap (λ (o : Option Message).
    header_or_class o (cond (is_blank bytes) Blank (class_of_whole place (Some w.whole)))) (sym (cond-true _ (Some w.whole.unit) None same))
    ∙ answer_is layout cluster place bytes (Some w.whole) w.is

pub decoded_there : (layout : Layout) (cluster : ℕ) (place : Place) (bytes : List ℕ) (h : Header) (own : Place)
    → Some (h, own) ≡ owner_of (whole_in layout cluster place.zone bytes) → own ≢ place
    → Err (Elsewhere own) ≡ header_or_class (unit_in layout cluster place bytes) (class_of layout cluster place bytes)
decoded_there layout cluster place bytes h own some other = let w = an_owner _ h own some in
    let differ : same_place w.whole.own place ≡ false =
    false_from_ne_true _ (λ same. other (sym w.place ∙ same_place-true w.whole.own place same)) in
    let there : cond (is_blank bytes) Blank (class_of_whole place (Some w.whole)) ≡ Elsewhere own =
    cond-false _ Blank _ (whole_is_not_blank layout cluster place.zone bytes w.whole w.is)
    ∙ cond-false _ Stale _ differ ∙ ap (λ (p : Place). Elsewhere p) w.place in
    (λ i. header_or_class (sym (cond-false _ (Some w.whole.unit) None differ) i) (sym there i))
    ∙ answer_is layout cluster place bytes (Some w.whole) w.is
