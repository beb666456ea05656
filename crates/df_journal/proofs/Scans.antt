-- What is read of the rings is what they show.
use Rattle.std.{proofs.{Common.{◌≡◌, inl, inr, ℕ, ◌+◌, ◌*◌, ◌/◌, ◌%◌, ◌<◌, ◌≤◌, List, length, set, Option, Some, None, Result, Ok, Err, OnOk, refl, sym, ◌∙◌, ap, subst, arith}, lemmas.Bool.{cases_eq}, lemmas.Option.{slice_get_cases, slice_get_within}}, specs.List.{slice_get}}
use Rattle.{df_base.{specs.Image.{Image, bytes_at}, proofs.Laws.{get_set, get_set_other}}, df_disk.specs.Told.{Told, Shows}}
use Rattle.df_layout.specs.{declared.damage.Class.{Class}, declared.layout.Layout.{Layout}, declared.places.Place.{Place}, declared.places.Zone.TheVariants.{WalHeaders, WalPrepares}, Spans.{place_sectors, sectors_before, span_of}}
use Rattle.df_format.{specs.{Message.{Message}, Own.{place_in}, Shown.{bytes_of, class_at, class_of, header_or_class, unit_at, unit_in}}, proofs.Laws.{shown_belongs, valid_stale}}
use Rattle.{df_buffers.specs.{Rooms.{header_bytes}, declared.slots.SlotSeen.{SlotSeen}}, df_theory.specs.Units.{HeaderPlace, PreparePlace}}
use Rattle.{df_units.specs.{Meaning.{message_of}, Bytes.{message_unit}}, df_places.specs.Units.{IsSeen as IsPlaceSeen}}
use Rattle.df_units.specs.Bytes
use Rattle.df_journal.specs.{Seen.{class_of as class_where}, Shows.{IsSlot, ShowsHeader, ShowsPrepare, ShowsTable}, Scan.{Scan, entry, or_blank}, Scanned.{AreSeen, ClassIsShown, HoldsSector, IsScanned, IsSlotSeen, RingsAreShown, header_first, seen_at}}

-- ---- bytes

header_part : (layout : Layout) (image : Image) (slot : ℕ) (bytes : List ℕ) → length bytes ≡ 4096 → bytes ≡ bytes_at image
    (header_first layout slot) (length bytes / 4096) → header_bytes (slot % 16) bytes ≡ bytes_of layout image (place_in WalHeaders slot)
unfolding bytes_of span_of place_sectors
header_part layout image slot bytes size is = let one : length bytes / 4096 ≡ 1 = omega arith in
    ap (λ (b : List ℕ). header_bytes (slot % 16) b) (is ∙ ap (λ (n : ℕ). bytes_at image (header_first layout slot) n) one)

at_place : (layout : Layout) (cluster : ℕ) (image : Image) (place : Place) (bytes : List ℕ) → bytes ≡ bytes_of layout image place
    → header_or_class (unit_in layout cluster place bytes) (class_of layout cluster place bytes)
    ≡ header_or_class (unit_at layout cluster image place) (class_at layout cluster image place)
unfolding unit_at class_at
at_place layout cluster image place bytes is =
    ap (λ (b : List ℕ). header_or_class (unit_in layout cluster place b) (class_of layout cluster place b)) is

-- what is read of a slot is what the disk shows there
pub slot_seen : (layout : Layout) (cluster slot : ℕ) (told : Option Told) (sector : List ℕ) (seen : SlotSeen)
    → length sector ≡ 4096 → Shows told (header_first layout slot) sector
    → seen.header ≡ header_or_class (unit_in layout cluster (place_in WalHeaders slot) (header_bytes (slot % 16) sector))
    (class_of layout cluster (place_in WalHeaders slot) (header_bytes (slot % 16) sector))
    → IsPlaceSeen layout cluster told (place_in WalPrepares slot) seen.prepare → IsSlotSeen layout cluster told slot seen
slot_seen layout cluster slot None sector seen size shows header prepare = tt
slot_seen layout cluster slot (Some t) sector seen size shows header prepare = let one = header ∙ at_place layout
    cluster t.shown (place_in WalHeaders slot) (header_bytes (slot % 16) sector) (header_part layout t.shown slot sector size shows) in
    λ i. record { header = one i; prepare = prepare i }

-- ---- a header sector

-- the sector that was read for the first of its slots is that slot's
pub holds_read : (layout : Layout) (slot : ℕ) (told : Option Told) (bytes : List ℕ) {E : Type 0} (result : Result (Unit {0}) E)
    → slot % 16 ≡ 0 → OnOk result (Shows told (header_first layout (16 * (slot / 16))) bytes) → length bytes ≡ 4096
    → OnOk result (HoldsSector layout told slot bytes)
holds_read layout slot told bytes (Err e) first shows size = tt
holds_read layout slot told bytes (Ok x) first shows size = let same : 16 * (slot / 16) ≡ slot = omega arith in
    record { shows = rw same at shows; size = size }

-- and the next slot's, if that isn't the first of one
same_sector : (layout : Layout) (slot : ℕ) → 0 < (slot + 1) % 16 → header_first layout slot ≡ header_first layout (slot + 1)
unfolding span_of sectors_before
same_sector layout slot some = let same : slot / 16 ≡ (slot + 1) / 16 = omega arith in omega (arith, same)

pub held_still : (layout : Layout) (slot : ℕ) (told : Option Told) (bytes : List ℕ)
    → 0 < (slot + 1) % 16 → HoldsSector layout told slot bytes → HoldsSector layout told (slot + 1) bytes
held_still layout slot told bytes some holds = record { shows = rw (same_sector layout slot some) at holds.shows; size = holds.size }

-- ---- the table

pub seen_more : (layout : Layout) (cluster : ℕ) (told : Option Told) (k : ℕ) (table new : List SlotSeen) (seen : SlotSeen)
    → k < length table → new ≡ set table k seen → IsSlotSeen layout cluster told k seen → IsSlot layout cluster k seen
    → AreSeen layout cluster told k table → AreSeen layout cluster told (k + 1) new
seen_more layout cluster told k table new seen within put is valid are = record {
  seen = λ s other less at. elim (cases_eq s k) [
    | inl here ↦ let same : s ≡ k = here in let both : Some other ≡ Some seen =
        sym at ∙ ap (λ (l : List SlotSeen). slice_get l s) put ∙ ap (slice_get (set table k seen)) same ∙ get_set table k seen within in
        let one : seen ≡ other = cc in rw (sym same) at (subst (IsSlotSeen layout cluster told k) one is)
    | inr elsewhere ↦
        are.seen s other (omega arith) (sym (ap (λ (l : List SlotSeen). slice_get l s) put ∙ get_set_other table k s seen elsewhere) ∙ at)
  ];
  valid = λ s other less at. elim (cases_eq s k) [
    | inl here ↦ let same : s ≡ k = here in let both : Some other ≡ Some seen =
        sym at ∙ ap (λ (l : List SlotSeen). slice_get l s) put ∙ ap (slice_get (set table k seen)) same ∙ get_set table k seen within in
        let one : seen ≡ other = cc in rw (sym same) at (subst (IsSlot layout cluster k) one valid)
    | inr elsewhere ↦
        are.valid s other (omega arith) (sym (ap (λ (l : List SlotSeen). slice_get l s) put ∙ get_set_other table k s seen elsewhere) ∙ at)
  ];
}

pub seen_all : (layout : Layout) (told : Option Told) (k : ℕ) (scan : Scan)
    → length scan.slots ≡ layout.slots → layout.slots ≤ k → AreSeen layout scan.start.cluster told k scan.slots → IsScanned layout told scan
seen_all layout told k scan size all are = record {
  seen = λ s seen at. are.seen s seen (omega (arith, size, all, slice_get_within scan.slots s seen at)) at;
  is_table = record { size = size; each = λ s seen at. are.valid s seen (omega (arith, size, all, slice_get_within scan.slots s seen at)) at };
}

-- ---- in the words of the theory

header_shown : (s : ℕ) (o : Option Message) (class : Class) → ShowsHeader (message_unit (HeaderPlace s) o) (header_or_class o class)
header_shown s None class = refl
header_shown s (Some u) class = refl

prepare_shown : (s : ℕ) (o : Option Message) (class : Class) → ShowsPrepare (message_unit (PreparePlace s) o) (header_or_class o class)
prepare_shown s None class = refl
prepare_shown s (Some u) class = (message_of u, refl, refl)

none_past : (layout : Layout) (cluster s : ℕ) (image : Image) → layout.slots ≤ s
    → (unit_at layout cluster image (place_in WalHeaders s) ≡ None) × (unit_at layout cluster image (place_in WalPrepares s) ≡ None)
none_past layout cluster s image past = (headers (unit_at layout cluster image (place_in WalHeaders s)) refl, prepares (unit_at layout cluster image (place_in WalPrepares s)) refl)
  where
    headers : (o : Option Message) → unit_at layout cluster image (place_in WalHeaders s) ≡ o → o ≡ None
    headers None is = refl
    headers (Some u) is =
        let has : s < layout.slots = (shown_belongs layout cluster image (place_in WalHeaders s) u is).has in absurd (omega arith)

    prepares : (o : Option Message) → unit_at layout cluster image (place_in WalPrepares s) ≡ o → o ≡ None
    prepares None is = refl
    prepares (Some u) is =
        let has : s < layout.slots = (shown_belongs layout cluster image (place_in WalPrepares s) u is).has in absurd (omega arith)

pub rings_shown : RingsAreShown
rings_shown layout t scan is = record { table = is.is_table; shows = shows }
  where
    cluster : ℕ
    cluster = scan.start.cluster

    shows : ShowsTable (Bytes.unit_at layout cluster t.shown) scan.slots
    shows = record {
      each = λ s seen at. let same : seen ≡ seen_at layout cluster t.shown s = is.seen s seen at in record {
        header = rw same (header_shown
            s (unit_at layout cluster t.shown (place_in WalHeaders s)) (class_at layout cluster t.shown (place_in WalHeaders s)));
        prepare = rw same (prepare_shown
            s (unit_at layout cluster t.shown (place_in WalPrepares s)) (class_at layout cluster t.shown (place_in WalPrepares s)));
      };
      no_header = λ s past. ap (message_unit (HeaderPlace s)) (none_past layout cluster s t.shown (omega (arith, past, is.is_table.size))).0;
      no_prepare = λ s past. ap (message_unit (PreparePlace s)) (none_past layout cluster s t.shown (omega (arith, past, is.is_table.size))).1;
    }

class_by : (layout : Layout) (cluster : ℕ) (image : Image) (place : Place) (o : Option Message) → unit_at layout cluster image place ≡ o
    → class_where (header_or_class o (class_at layout cluster image place)) ≡ class_at layout cluster image place
unfolding unit_at class_at
class_by layout cluster image place None is = refl
class_by layout cluster image place (Some u) is = sym (valid_stale layout cluster place (bytes_of layout image place) u is)

pub class_shown : ClassIsShown
class_shown layout t scan s is inside = elim (slice_get_cases scan.slots s).1 [
  | inl there ↦ let cluster = scan.start.cluster in let here : entry scan s ≡ there.0 = ap or_blank there.2 in
      let seen : entry scan s ≡ seen_at layout cluster t.shown s = here ∙ is.seen s there.0 there.2 in (
        ap (λ (x : SlotSeen). class_where x.header) seen
            ∙ class_by layout cluster t.shown (place_in WalHeaders s) (unit_at layout cluster t.shown (place_in WalHeaders s)) refl,
        ap (λ (x : SlotSeen). class_where x.prepare) seen
            ∙ class_by layout cluster t.shown (place_in WalPrepares s) (unit_at layout cluster t.shown (place_in WalPrepares s)) refl,
      )
  | inr past ↦ absurd (omega (arith, past.0, is.is_table.size, inside))
]
