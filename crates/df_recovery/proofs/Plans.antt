-- A plan slot by slot: the list grows by one entry or none, and each header is valid in its slot.
use Rattle.std.{proofs.{Common.{◌≡◌, inl, inr, ℕ, ◌+◌, ◌<◌, ◌^◌, List, [], ◌∷◌, ◌++◌, map, length, Bool, true, false, Some, refl, sym, ◌∙◌, ap, subst, arith}, lemmas.Bool.{cases_eq}, lemmas.List.{length-set, map-append, map-id}, lemmas.List.FromFn.{filter_of_map_range_with_len_more}, lemmas.Option.{slice_get-get_or, slice_get_within, same_Some}}, specs.{Prelude.{Result, Ok, Err, cond}, List.{filter, range_with_len, slice_get}}}
use Rattle.{df_base.proofs.Laws.{get_set, get_set_other}, df_units.{specs.Sample.{reserved_header}, proofs.Laws.{reserved_unit}}}
use Rattle.df_layout.{specs.{declared.damage.Class.{Class}, declared.damage.Class.TheVariants.{Blank}, declared.layout.Layout.{Layout}, declared.places.Zone.TheVariants.{WalPrepares}}, proofs.Laws.{some_slots}}
use Rattle.df_format.{specs.{declared.header.Header.{Header}, Message.{Message}, Own.{place_in}, Valid.{IsInSlot, IsUnit}}, proofs.Laws.{valid_belongs}}
use Rattle.df_cases.specs.{Cases.{decision_of}, declared.cases.Decision.{Decision}, declared.cases.Decision.TheVariants.{Behind, Empty, Lost, Take}}
use Rattle.{df_places.specs.Units.{IsThere}, df_buffers.specs.declared.slots.SlotSeen.{SlotSeen}}
use Rattle.df_headers.specs.Ring.{IsHeader, IsHeaderTable}
use Rattle.df_journal.{specs.{Scan.{Scan, entry, or_blank}, Seen.{IsOpOf, header_of_seen}, Shows.{IsHeaderThere, IsSeenTable as AreSlots, IsSlot}}, proofs.Laws.{in_header_ring, op_of_slot}}
use Rattle.df_recovery.specs.Plan.{ArePlanned, IsDecided, PutsHeader, header_by, header_or_reserved, if_wanted, op_above_in_slot, slot_mend, slot_mends}

-- ---- lists

map_wanted : {X Y : Type 0} (f : X → Y) (b : Bool) (x : X) → map f (if_wanted b x) ≡ if_wanted b (f x)
map_wanted f true x = refl
map_wanted f false x = refl

wanted_is : (p : ℕ → Bool) (k : ℕ) (b : Bool) → p k ≡ b → cond (p k) (k ∷ []) [] ≡ if_wanted (p k) k
wanted_is p k true is = ap (λ (b : Bool). cond b (k ∷ []) []) is ∙ ap (λ (b : Bool). if_wanted b k) (sym is)
wanted_is p k false is = ap (λ (b : Bool). cond b (k ∷ []) []) is ∙ ap (λ (b : Bool). if_wanted b k) (sym is)

pub filter_more : (p : ℕ → Bool) (k : ℕ) → filter p (range_with_len 0 (k + 1)) ≡ filter p (range_with_len 0 k) ++ if_wanted (p k) k
filter_more p k =
    ap (filter p) (sym (map-id (range_with_len 0 (k + 1)))) ∙ filter_of_map_range_with_len_more p (λ (n : ℕ). n) 0 k k (omega arith)
    ∙ ap (λ (xs : List ℕ). filter p xs ++ cond (p k) (k ∷ []) []) (map-id (range_with_len 0 k))
    ∙ ap (λ (xs : List ℕ). filter p (range_with_len 0 k) ++ xs) (wanted_is p k (p k) refl)

pub slot_mends_more : (needs : ℕ → Bool) (classes : ℕ → Class) (k : ℕ)
    → slot_mends needs classes (k + 1) ≡ slot_mends needs classes k ++ if_wanted (needs k) (slot_mend classes k)
slot_mends_more needs classes k = ap (map (slot_mend classes)) (filter_more needs k)
    ∙ map-append (slot_mend classes) (filter needs (range_with_len 0 k)) (if_wanted (needs k) k)
    ∙ ap (λ xs. slot_mends needs classes k ++ xs) (map_wanted (slot_mend classes) (needs k) k)

-- ---- what was seen of a slot

pub op_in_is : (layout : Layout) (op slot : ℕ) → slot < layout.slots → IsOpOf layout.slots op slot (op_above_in_slot layout.slots op slot)
op_in_is layout op slot below = op_of_slot layout.slots op slot (some_slots layout) below

pub entry_there : (scan : Scan) (slot : ℕ) → slot < length scan.slots → slice_get scan.slots slot ≡ Some (entry scan slot)
entry_there scan slot below = let blank : SlotSeen = record { header = Err Blank; prepare = Err Blank } in
    let at = slice_get-get_or scan.slots slot blank below in at ∙ ap Some (sym (ap or_blank at))

-- ---- headers

pub planned_more : (cluster : ℕ) (scan : Scan) (top k : ℕ) (old new : List Header)
    → k < length old → ArePlanned cluster scan top k old → PutsHeader cluster scan top k old new → ArePlanned cluster scan top (k + 1) new
planned_more cluster scan top k old new inside before put slot less = elim (cases_eq slot k) [
  | inl here ↦ rw here
      (put.0, put.1, ap (λ (xs : List Header). slice_get xs k) put.2 ∙ get_set old k (header_by cluster k (entry scan k) (decision_of put.0)) inside)
  | inr away ↦ let was = before slot (omega (arith, less, away)) in
      (was.0, was.1, ap (λ (xs : List Header). slice_get xs slot) put.2 ∙ get_set_other old k slot (header_by cluster k (entry scan k) (decision_of put.0)) away ∙ was.2)
]

pub size_kept : (cluster : ℕ) (scan : Scan) (top k : ℕ) (old new : List Header)
    → PutsHeader cluster scan top k old new → length new ≡ length old
size_kept cluster scan top k old new put = ap length put.2 ∙ length-set old k (header_by cluster k (entry scan k) (decision_of put.0))

shown_valid : (layout : Layout) (cluster slot : ℕ) (r : Result Header Class) → IsHeader layout cluster slot (reserved_header cluster slot)
    → IsHeaderThere layout cluster slot r → IsHeader layout cluster slot (header_or_reserved cluster slot (header_of_seen r))
shown_valid layout cluster slot (Ok h) reserved there = there
shown_valid layout cluster slot (Err class) reserved there = reserved

taken_valid : (layout : Layout) (cluster slot : ℕ) (r : Result Header Class) → IsHeader layout cluster slot (reserved_header cluster slot) →
    IsThere layout cluster (place_in WalPrepares slot) r → IsHeader layout cluster slot (header_or_reserved cluster slot (header_of_seen r))
taken_valid layout cluster slot (Ok h) reserved (body, is) = let u : Message = record { header = h; body = body } in
    let here : IsInSlot layout slot h = (valid_belongs layout cluster (place_in WalPrepares slot) u is).belongs in
    let own : IsUnit layout h.cluster (place_in WalPrepares h.slot) u = rw (sym is.owner) at (rw (sym here.slot) at is) in
    subst (λ (n : ℕ). IsHeader layout cluster n h) here.slot (rw (← is.owner) (in_header_ring layout u own))
taken_valid layout cluster slot (Err class) reserved there = reserved

by_valid : (layout : Layout) (cluster slot : ℕ) (seen : SlotSeen) (d : Decision) → IsHeader layout cluster slot (reserved_header
    cluster slot) → IsSlot layout cluster slot seen → IsHeader layout cluster slot (header_by cluster slot seen (decision_of d))
by_valid layout cluster slot seen (Take mend) reserved is = taken_valid layout cluster slot seen.prepare reserved is.prepare
by_valid layout cluster slot seen (Empty false) reserved is = shown_valid layout cluster slot seen.header reserved is.header
by_valid layout cluster slot seen (Empty true) reserved is = reserved
by_valid layout cluster slot seen Behind reserved is = reserved
by_valid layout cluster slot seen Lost reserved is = reserved

-- the whole table is one of the layout
pub planned_table : (layout : Layout) (cluster : ℕ) (scan : Scan) (top : ℕ) (table : List Header)
    → 0 < cluster → cluster < 2 ^ 128 → AreSlots layout cluster scan.slots
    → length table ≡ layout.slots → ArePlanned cluster scan top layout.slots table → IsHeaderTable layout cluster table
planned_table layout cluster scan top table named small slots count planned = record {
  count = count;
  each = λ slot h at. let below : slot < layout.slots = omega (arith, slice_get_within table slot h at, count) in
      let plan = planned slot below in
      let same : header_by cluster slot (entry scan slot) (decision_of plan.0) ≡ h = same_Some _ _ (sym plan.2 ∙ at) in rw same at
      (by_valid layout cluster slot (entry scan slot) plan.0 (reserved_unit layout cluster slot named small below)
      (slots.each slot (entry scan slot) (entry_there scan slot (omega (arith, below, slots.size)))));
}
