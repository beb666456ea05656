-- What the table decides of a slot is what the theory decides of the image.
use Rattle.std.{proofs.{Common.{◌≡◌, ◌==◌, inl, inr, ℕ, ◌%◌, ◌<◌, ◌^◌, ◌≤◌, length, List, Option, Some, None, sym, ◌∙◌, ap, subst, arith}, lemmas.Bool.{cases_Bool, cases_eq, cond-true, cond-false, eq-eqb, ne_eqb}}, specs.{Prelude.{Result, Ok, Err, Bool, true, not, nat_le, nat_lt, if◌then◌else◌}, List.{slice_get}}}
use Rattle.{df_base.proofs.Laws.{length-check_of, AreBytes-check_of}, df_theory.specs.Units.{AnyUnit, HeaderPlace, PreparePlace}}
use Rattle.df_layout.specs.{declared.damage.Class.{Class}, declared.layout.Layout.{Layout}, declared.places.Place.{Place}, declared.places.Zone.TheVariants.{WalPrepares}}
use Rattle.df_format.{specs.{declared.header.Header.{Header}, Message.{Message}, Spelling.{IsCheck, spelling_rest}, declared.kind.Kind.{Kind}, Own.{place_in}, declared.kind.Kind.TheVariants.{Prepare}, Rules.{ObeysKind, ObeysPrepare, ObeysVersion}, Valid.{IsInSlot, IsUnit}}, proofs.Laws.{valid_belongs}}
use Rattle.df_theory.specs.Units
use Rattle.{df_units.{specs.Meaning.{header_of, number_of}, proofs.Laws.{one_number}}, df_buffers.specs.declared.slots.SlotSeen.{SlotSeen}}
use Rattle.df_theory.specs.Cases
use Rattle.df_places.specs.Units.{IsThere}
use Rattle.df_journal.{specs.{Scan.{Scan}, declared.table.Start.{Start}, Planned.{has_header_of, named, named_by, named_on, planned, planned_on, shows_header}, Seen.{HasChecks, IsOfCheck, IsOpOf, IsTakenPrepare, TakesNow, decision_on, seen_in}, Shows.{IsHeaderThere, IsSeenTable, ShowsHeader, ShowsPrepare, ShowsSlot, TellsRings}}, proofs.Ops.{one_op}}

header_seen : (b o : ℕ) (x : Option AnyUnit) (r : Result Header Class) → ShowsHeader x r → Cases.seen_header b o x ≡ seen_in b o r
header_seen b o x (Ok h) is = ap (Cases.seen_header b o) is
header_seen b o x (Err class) is = ap (Cases.seen_header b o) is

prepare_seen : (b o : ℕ) (x : Option AnyUnit) (r : Result Header Class) → ShowsPrepare x r → Cases.seen_prepare b o x ≡ seen_in b o r
prepare_seen b o x (Ok h) (p, shown, same) = ap (Cases.seen_prepare b o) shown ∙ ap (Cases.seen b o) same
prepare_seen b o x (Err class) is = ap (Cases.seen_prepare b o) is

-- the decision on the slot of an op
pub decision_is : (n b o : ℕ) (image : Units.Units) (seen : SlotSeen)
    → ShowsSlot image (o % n) seen → Cases.decision n b image o ≡ decision_on b o seen
decision_is n b o image seen shows =
    ap (λ (a : Cases.Seen). Cases.case a (Cases.seen_prepare b o (image (PreparePlace (o % n))))) (header_seen b o _ seen.header shows.header)
    ∙ ap (Cases.case (seen_in b o seen.header)) (prepare_seen b o _ seen.prepare shows.prepare)

-- ---- checksums have sixteen bytes

pub unit_check : (layout : Layout) (cluster : ℕ) (place : Place) (u : Message) → IsUnit layout cluster place u → IsCheck u.header.checksum
unit_check layout cluster place u is = let rest = spelling_rest u.header in
    subst (λ (c : List ℕ). IsCheck c) (sym is.sealed.checksum) (record { size = length-check_of rest; each = AreBytes-check_of rest })

header_check : (layout : Layout) (cluster s : ℕ) (r : Result Header Class) → IsHeaderThere layout cluster s r → IsOfCheck r
header_check layout cluster s (Ok h) is = unit_check layout cluster _ _ is
header_check layout cluster s (Err class) is = tt

prepare_check : (layout : Layout) (cluster s : ℕ) (r : Result Header Class) → IsThere layout cluster (place_in WalPrepares s) r → IsOfCheck r
prepare_check layout cluster s (Ok h) is = unit_check layout cluster _ _ is.1
prepare_check layout cluster s (Err class) is = tt

pub slot_checks : (layout : Layout) (cluster s : ℕ) (table : List SlotSeen) (seen : SlotSeen)
    → IsSeenTable layout cluster table → slice_get table s ≡ Some seen → HasChecks seen
slot_checks layout cluster s table seen is at = (header_check layout cluster s seen.header (is.each s seen at).header, prepare_check layout cluster s seen.prepare (is.each s seen at).prepare)

-- ---- a prepare that is shown is a unit

pub shown_unit : (layout : Layout) (cluster s : ℕ) (table : List SlotSeen) (seen : SlotSeen) (h : Header) → IsSeenTable layout cluster table
    → slice_get table s ≡ Some seen → seen.prepare ≡ Ok h → IsThere layout cluster (place_in WalPrepares s) (Ok h)
shown_unit layout cluster s table seen h is at shown =
    subst (λ (r : Result Header Class). IsThere layout cluster (place_in WalPrepares s) r) shown (is.each s seen at).prepare

pub taken_parent : (layout : Layout) (cluster s : ℕ) (h : Header) → IsThere layout cluster (place_in WalPrepares s) (Ok h) → IsCheck h.parent
taken_parent layout cluster s h (body, is) = is.sealed.rules.fits.parent

pub taken_client : (layout : Layout) (cluster s : ℕ) (h : Header) → IsThere layout cluster (place_in WalPrepares s) (Ok h) → 0 < h.client
taken_client layout cluster s h (body, is) = let in_slot : IsInSlot layout s h =
    (valid_belongs layout cluster (place_in WalPrepares s) (record { header = h; body = body }) is).belongs in
    let rules : ObeysPrepare h = subst (λ (kind : Kind). ObeysKind kind h) in_slot.kind is.sealed.rules.kind in rules.client

pub taken_request : (layout : Layout) (cluster s : ℕ) (h : Header)
    → IsThere layout cluster (place_in WalPrepares s) (Ok h) → h.request ≤ 2 ^ 62
taken_request layout cluster s h (body, is) = let in_slot : IsInSlot layout s h =
    (valid_belongs layout cluster (place_in WalPrepares s) (record { header = h; body = body }) is).belongs in
    let rules : ObeysPrepare h = subst (λ (kind : Kind). ObeysKind kind h) in_slot.kind is.sealed.rules.kind in rules.request.1

pub taken_op : (layout : Layout) (cluster s : ℕ) (h : Header) → IsThere layout cluster (place_in WalPrepares s) (Ok h) → h.op ≤ 2 ^ 62
taken_op layout cluster s h (body, is) = let in_slot : IsInSlot layout s h =
    (valid_belongs layout cluster (place_in WalPrepares s) (record { header = h; body = body }) is).belongs in
    let rules : ObeysPrepare h = subst (λ (kind : Kind). ObeysKind kind h) in_slot.kind is.sealed.rules.kind in rules.op.1

pub taken_check : (layout : Layout) (cluster s : ℕ) (h : Header) → IsThere layout cluster (place_in WalPrepares s) (Ok h) → IsCheck h.checksum
taken_check layout cluster s h (body, is) = unit_check layout cluster (place_in WalPrepares s) (record { header = h; body = body }) is

-- its group ends at its op or later
group_reaches : (h : Header) → ObeysVersion Prepare h → h.op ≤ (header_of h).group_last
group_reaches h is = elim (cases_eq h.group_last 0) [
  | inl none ↦ omega (arith, cond-true (h.group_last == 0) h.op h.group_last (eq-eqb h.group_last 0 none))
  | inr some ↦ elim is [
    | inl first ↦ absurd (some first.group_last)
    | inr second ↦ omega (arith, cond-false (h.group_last == 0) h.op h.group_last (ne_eqb h.group_last 0 some), second.group.ends.0)
  ]
]

pub taken_group : (layout : Layout) (cluster s : ℕ) (h : Header)
    → IsThere layout cluster (place_in WalPrepares s) (Ok h) → h.op ≤ (header_of h).group_last
taken_group layout cluster s h (body, is) = let in_slot : IsInSlot layout s h =
    (valid_belongs layout cluster (place_in WalPrepares s) (record { header = h; body = body }) is).belongs in
    group_reaches h (rw (← in_slot.kind) is.sealed.rules.version)

-- both of its checksums have sixteen bytes
pub shown_checks : (layout : Layout) (cluster s : ℕ) (table : List SlotSeen) (seen : SlotSeen) (h : Header)
    → IsSeenTable layout cluster table → slice_get table s ≡ Some seen → seen.prepare ≡ Ok h → IsCheck h.checksum × IsCheck h.parent
shown_checks layout cluster s table seen h is at shown = let there = shown_unit layout cluster s table seen h is at shown in
    (taken_check layout cluster s h there, taken_parent layout cluster s h there)

-- what isn't taken from the entry of a slot isn't taken from that slot
pub not_taken : (start : Start) (op : ℕ) (table : List SlotSeen) (s t : ℕ) (seen other : SlotSeen) (h : Header) → s ≡ t
    → slice_get table s ≡ Some seen → slice_get table t ≡ Some other → TakesNow start op seen None → IsTakenPrepare start op other h → ⊥
not_taken start op table s t seen other h same here there none taken =
    let both : Some other ≡ Some seen = sym there ∙ ap (slice_get table) (sym same) ∙ here in let one : other ≡ seen = cc in
    none h (rw one at taken)

-- ---- the decision that is given on a slot

-- the op that a slot is asked for is that op
own_op : (layout : Layout) (scan : Scan) (slot op o : ℕ) → length scan.slots ≡ layout.slots
    → IsOpOf (length scan.slots) scan.start.op slot op → IsOpOf layout.slots scan.start.op slot o → op ≡ o
own_op layout scan slot op o size own of = one_op layout.slots scan.start.op slot op o (rw size at own) of

pub decided_slot : (layout : Layout) (image : Units.Units) (scan : Scan) (slot op o : ℕ) (seen : SlotSeen) (d : Cases.Decision)
    → TellsRings layout image scan → slice_get scan.slots slot ≡ Some seen → IsOpOf (length scan.slots) scan.start.op slot op
    → (HasChecks seen → d ≡ decision_on scan.start.boot op seen)
    → IsOpOf layout.slots scan.start.op slot o → d ≡ Cases.decision layout.slots scan.start.boot image o
decided_slot layout image scan slot op o seen d tells at own is of =
    let same : op ≡ o = own_op layout scan slot op o tells.table.size own of in
    is (slot_checks layout scan.start.cluster slot scan.slots seen tells.table at) ∙ ap (λ (k : ℕ). decision_on scan.start.boot k seen) same
    ∙ sym (decision_is layout.slots scan.start.boot o image seen (rw (sym of.slot_is) at (tells.shows.each slot seen at)))

-- ---- and once the head is known

-- what tells two checksums apart tells their numbers apart
pub same_sums : (a b : List ℕ) (told : Bool)
    → (told ≡ true → a ≡ b) → (a ≡ b → told ≡ true) → IsCheck a → IsCheck b → told ≡ (number_of a == number_of b)
same_sums a b told to from one two = elim (cases_eq (number_of a) (number_of b)) [
  | inl same ↦ from (one_number a b one two same) ∙ sym (eq-eqb (number_of a) (number_of b) same)
  | inr other ↦ elim (cases_Bool told) [
    | inl passes ↦ absurd (other (ap number_of (to passes)))
    | inr fails ↦ fails ∙ sym (ne_eqb (number_of a) (number_of b) other)
  ]
]

shows_is : (checksum : List ℕ) (x : Option AnyUnit) (r : Result Header Class)
    → ShowsHeader x r → shows_header (number_of checksum) x ≡ has_header_of checksum r
shows_is checksum x (Ok h) is = ap (shows_header (number_of checksum)) is
shows_is checksum x (Err class) is = ap (shows_header (number_of checksum)) is

named_is : (x y : Option AnyUnit) (header prepare : Result Header Class)
    → ShowsHeader x header → ShowsPrepare y prepare → named x y ≡ named_by header prepare
named_is x y header (Ok h) shows (p, is, same) =
    ap (named x) is ∙ ap (λ (n : ℕ). Cases.Take (not (shows_header n x))) (ap (λ (g : Units.Header). g.checksum) same)
    ∙ ap (λ (b : Bool). Cases.Take (not b)) (shows_is h.checksum x header shows)
named_is x y header (Err class) shows is = ap (named x) is

-- what a head that is found says of the table's decision
above_is : (n top o : ℕ) (start : Start) (image : Units.Units) (seen : SlotSeen) → ShowsSlot image (o % n) seen
    → Cases.decided n start.boot top image o
    ≡ (if nat_lt top o then Cases.cut (seen_in start.boot o seen.header) (decision_on start.boot o seen) else decision_on start.boot o seen)
above_is n top o start image seen shows = let decision = decision_is n start.boot o image seen shows in
    let header = header_seen start.boot o (image (HeaderPlace (o % n))) seen.header shows.header in
    ap (λ (d : Cases.Decision). if nat_lt top o then Cases.cut (Cases.seen_header start.boot o (image (HeaderPlace (o % n)))) d else d) decision
    ∙ ap (λ (x : Cases.Seen). if nat_lt top o then Cases.cut x (decision_on start.boot o seen) else decision_on start.boot o seen) header

planned_is : (n top o : ℕ) (start : Start) (image : Units.Units) (seen : SlotSeen)
    → ShowsSlot image (o % n) seen → planned n start top image o ≡ planned_on start top o seen
planned_is n top o start image seen shows =
    let name = named_is (image (HeaderPlace (o % n))) (image (PreparePlace (o % n))) seen.header seen.prepare shows.header shows.prepare in
    ap (λ (d : Cases.Decision). if nat_le o start.head then d else Cases.decided n start.boot top image o) name
    ∙ ap (λ (d : Cases.Decision). if nat_le o start.head then named_on seen else d) (above_is n top o start image seen shows)

pub planned_slot : (layout : Layout) (image : Units.Units) (scan : Scan) (slot op o top : ℕ) (seen : SlotSeen) (d : Cases.Decision)
    → TellsRings layout image scan → slice_get scan.slots slot ≡ Some seen → IsOpOf (length scan.slots) scan.start.op slot op
    → (HasChecks seen → d ≡ planned_on scan.start top op seen)
    → IsOpOf layout.slots scan.start.op slot o → d ≡ planned layout.slots scan.start top image o
planned_slot layout image scan slot op o top seen d tells at own is of =
    let same : op ≡ o = own_op layout scan slot op o tells.table.size own of in
    is (slot_checks layout scan.start.cluster slot scan.slots seen tells.table at) ∙ ap (λ (k : ℕ). planned_on scan.start top k seen) same
    ∙ sym (planned_is layout.slots top o scan.start image seen (rw (sym of.slot_is) at (tells.shows.each slot seen at)))
