-- The moments of an append, and its end.
use Rattle.std.{specs.{Prelude.{Result, Ok, Err, OnOk}, List.{slice_get}}, proofs.{Common.{◌≡◌, inl, inr, ℕ, zero, suc, ◌+◌, ◌*◌, ◌/◌, ◌%◌, ◌<◌, ◌≤◌, List, [], ◌∷◌, take, length, set, length-append, ◌==◌, Option, Some, None, refl, sym, ◌∙◌, ap, subst, arith}, lemmas.Option.{same_Some}, lemmas.Bool.{cases_eq, cond-false, cond-true, eq-eqb, ne_eqb}}}
use Rattle.df_base.{specs.{declared.Failed.{Failed}, Image.{Image, IsImage, written}, Log.{Event}, Moments.{EachMoment, adds}}, proofs.Laws.{now_is_image, written_is_image, get_set}}
use Rattle.df_base.specs.Log
use Rattle.{df_disk.specs.{Told.{Told}, Adds.{Adds, AddsPart, after_all}}, df_buffers.specs.Sounds.{Holding}}
use Rattle.df_layout.specs.{declared.layout.Layout.{Layout}, declared.places.Zone.TheVariants.{WalHeaders, WalPrepares}}
use Rattle.df_format.{specs.{declared.header.Header.{Header}, Message.{Message, sectors_end}, Own.{place_in}, UnitLaws.{headers_bytes}, Valid.{IsInSlot}, Brings.{Brings}}, proofs.Laws.{is_own, own_is, valid_belongs}}
use Rattle.df_theory.specs.Units
use Rattle.df_theory.{specs.{Units.{AnyUnit, HeaderPlace, HeaderUnit, PreparePlace, PrepareUnit, or_else}, UnitLog.{put_one}, Cases.{IsEmpty}, Tails.{In}, Device.{AreSteps, IsGoodDisk, IsPut}, Found.{IsFound}, Holds.{Held}, Next.{appended}, Shape.{slots}, View.{Checkpoint, View, boot_of, head}}, proofs.Laws.{found_law, in_front, slot_law, decided_above}}
use Rattle.df_units.{specs.{Append.{AppendLeadsOnDisk, append_events}, Bytes.{first_at, unit_at}, Format.{format_of, shape_of}, Meaning.{header_of, message_of}, Puts.{IsNextSector, header_unit, put_headers}}, proofs.Laws.{all_added, append_on_disk, headers_put, of_places, part_moments, prepare_put}}
use Rattle.df_headers.{specs.Ring.{AreOfRing, IsHeader, IsHeaderTable}, proofs.Laws.{sector_at, sector_has, set_cases, table_kept, table_written}}
use Rattle.df_prepares.specs.Slots.{IsInOwnSlot, slot_place}
use Rattle.df_journal.specs.Append.{AppendLeaves, EndsAppended, MayAppendOn, OthersStay, ShowsRing, journal_events, journal_steps, new_sector, with_header}

-- the header of a prepare is valid in its slot of the header ring
pub in_header_ring : (layout : Layout) (u : Message) → IsInOwnSlot layout u → IsHeader layout u.header.cluster u.header.slot u.header
in_header_ring layout u is = let own = own_is layout WalPrepares u.header (place_in WalPrepares u.header.slot) is.own in
    let here : IsInSlot layout u.header.slot u.header =
    (valid_belongs layout u.header.cluster (place_in WalPrepares u.header.slot) u is).belongs in record {
      sealed = is.sealed;
      owner = is.owner;
      fits = is.fits;
      body = refl;
      own = is_own layout WalHeaders u.header (place_in WalHeaders u.header.slot) (record {
        op = own.op;
        named = rw here.kind refl;
        has = own.has;
      });
    }

pub slot_below : (layout : Layout) (u : Message) → IsInOwnSlot layout u → u.header.slot < layout.slots
slot_below layout u is = (valid_belongs layout u.header.cluster (place_in WalPrepares u.header.slot) u is).has

sector_inside : (layout : Layout) (u : Message) → IsInOwnSlot layout u → u.header.slot / 16 < layout.slots / 16
sector_inside layout u is = omega (arith, slot_below layout u is, layout.slots_within.2)

-- the sector that is written has the new header, and the others of the ring
pub next_sector : (layout : Layout) (u : Message) (table : List Header) (image : Image)
    → IsInOwnSlot layout u → IsHeaderTable layout u.header.cluster table → ShowsRing layout u.header.cluster image table
    → IsNextSector layout u.header.cluster image u.header (u.header.slot / 16) (new_sector u table)
next_sector layout u table image own is shows = let slot = u.header.slot in let new = with_header u table in
    let within : slot < length table = omega (arith, slot_below layout u own, is.count) in record {
      are = table_written layout u.header.cluster (slot / 16)
          new (table_kept layout u.header.cluster slot table u.header is (in_header_ring layout u own)) (sector_inside layout u own);
      here = refl;
      has = let same : slot ≡ 16 * (slot / 16) + slot % 16 = omega arith in
          sector_has (slot / 16) (slot % 16) new u.header (omega arith) (rw (← same) (get_set table slot u.header within));
      others = λ s h sector at. let same : 16 * (slot / 16) + s % 16 ≡ s = omega (arith, sector) in
          let there : slice_get new s ≡ Some h = rw same at (sector_at (slot / 16) (s % 16) new h at).1 in
          elim (set_cases table slot s u.header h there) [ inl here ↦ inl here.0 | inr elsewhere ↦ inr (shows s h elsewhere.1) ];
    }

-- the table with the new header is one of the layout, and its sector may be written
pub header_set : (layout : Layout) (u : Message) (table : List Header) (h : Header) (new : List Header) → h ≡ u.header → new
    ≡ set table h.slot h → IsInOwnSlot layout u → IsHeaderTable layout u.header.cluster table → IsHeaderTable layout u.header.cluster new
header_set layout u table h new same put own is =
    subst (IsHeaderTable layout u.header.cluster) (sym (put ∙ ap (λ (x : Header). set table x.slot x) same))
    (table_kept layout u.header.cluster u.header.slot table u.header is (in_header_ring layout u own))

pub append_steps : (layout : Layout) (u : Message) (table : List Header) → IsInOwnSlot layout u → IsHeaderTable
    layout u.header.cluster table → (bytes : List ℕ) → Brings layout u.header.cluster (place_in WalPrepares u.header.slot) u bytes
    → AreSteps (format_of layout u.header.cluster)
    (append_events layout u.header.slot bytes (u.header.slot / 16) (new_sector u table)) (journal_steps u table)
append_steps layout u table own is bytes brings = (
  prepare_put layout u.header.cluster u.header.slot u bytes brings,
  (headers_put layout u.header.cluster (u.header.slot / 16) (new_sector u table) (table_written layout u.header.cluster (u.header.slot / 16) (with_header u table) (table_kept layout u.header.cluster u.header.slot table u.header is (in_header_ring layout u own)) (sector_inside layout u own)), tt),
)

-- ---- what a stop leaves of the other slots

pub stays : (layout : Layout) (cluster : ℕ) (named : 0 < cluster) (parse : ℕ → List ℕ → Option Units.Parts)
    (image : Image) (v u : View) (count : ℕ) → IsImage image → Held (shape_of layout cluster named parse) (unit_at layout cluster image) u
    → u.checkpoint ≡ v.checkpoint → ((p : Units.Message) → In p v.tail → In p u.tail)
    → head v ≤ head u → head u ≤ head v + count → OthersStay (shape_of layout cluster named parse) (unit_at layout cluster image) v count
stays layout cluster named parse image v u count whole held same tail low high = let sh = shape_of layout cluster named parse in
    let units = unit_at layout cluster image in let found : IsFound sh units u = (found_law sh units u).0 held in
    let boot : boot_of u ≡ boot_of v = ap (λ (c : Checkpoint). c.content.boot) same in
    let places = of_places layout cluster named parse image whole in
    let op : u.checkpoint.content.op ≡ v.checkpoint.content.op = ap (λ (c : Checkpoint). c.content.op) same in record {
      taken = λ p is. rw same at (found.tail.takes p (tail p is));
      empty = λ o above within. let law = slot_law sh units u o places found (omega (arith, above, op)) (omega (arith, within, op)) in
          subst IsEmpty (decided_above (slots sh) (boot_of v) (head u) units o (omega (arith, above, high))
          ∙ sym (decided_above (slots sh) (boot_of v) (head v) units o (omega (arith, above))))
          (rw boot at (law.1 (omega (arith, above, high))));
    }

module _ (layout : Layout) (u : Message) (table : List Header) (t : Told) (may : MayAppendOn layout u table t) (own : IsInOwnSlot layout u) (is : IsHeaderTable layout u.header.cluster table) (bytes : List ℕ) (brings : Brings layout u.header.cluster (place_in WalPrepares u.header.slot) u bytes) where
  abbrev pub events : List Event
  events = append_events layout u.header.slot bytes (u.header.slot / 16) (new_sector u table)

  leads : AppendLeadsOnDisk (format_of layout u.header.cluster)
      (shape_of layout u.header.cluster may.named may.parse) t.log (adds events t.log) may.view (appended may.view (message_of u ∷ []))
  leads = append_on_disk layout u.header.cluster may.named may.parse t.log may.view u bytes (u.header.slot / 16)
      (new_sector u table) may.is_log may.tidy may.may brings (next_sector layout u table (Log.now t.log) own is may.ring)

  more : head (appended may.view (message_of u ∷ [])) ≡ head may.view + 1
  more = omega (arith, length-append may.view.tail (message_of u ∷ []))

  pub append_moments : (after : Told) → AddsPart events (Some t) (Some after) → EachMoment t.log after.log (AppendLeaves layout u table t may)
  append_moments after part log moment = let good = part_moments events t after (IsGoodDisk (format_of layout u.header.cluster) (shape_of
      layout u.header.cluster may.named may.parse) may.view (appended may.view (message_of u ∷ []))) part leads.moments log moment in
      record {
        good = good;
        others = λ image left chance. elim (good.left image left chance) [
          | inl before ↦ stays layout u.header.cluster may.named may.parse image may.view may.view 1 left.whole before refl (λ p is.
              is) (omega arith) (omega arith)
          | inr behind ↦ stays layout u.header.cluster may.named may.parse image may.view (appended may.view (message_of u ∷ []))
              1 left.whole behind refl (λ p is. in_front p may.view.tail (message_of u ∷ []) is) (omega (arith, more)) (omega (arith, more))
        ];
      }

  -- ---- the end

  first : IsPut (format_of layout u.header.cluster)
      (first_at layout (PreparePlace u.header.slot)) bytes (put_one (PreparePlace u.header.slot) (PrepareUnit (message_of u)))
  first = prepare_put layout u.header.cluster u.header.slot u bytes brings

  second : IsPut (format_of layout u.header.cluster) (first_at layout (HeaderPlace (16 * (u.header.slot / 16))))
      (headers_bytes (new_sector u table)) (put_headers (u.header.slot / 16) (new_sector u table))
  second = headers_put
      layout u.header.cluster (u.header.slot / 16) (new_sector u table) (next_sector layout u table (Log.now t.log) own is may.ring).are

  abbrev image : Image
  image = Log.now t.log

  whole : IsImage image
  whole = now_is_image t.log.start t.log.events may.is_log.start may.is_log.events

  abbrev one : Image
  one = written (first_at layout (PreparePlace u.header.slot)) bytes image

  at_header : (s : ℕ) → unit_at layout u.header.cluster one (HeaderPlace s) ≡ unit_at layout u.header.cluster image (HeaderPlace s)
  at_header s = first.shows image (HeaderPlace s) whole

  two_shows : (s : ℕ) → unit_at layout u.header.cluster (Log.now (adds events t.log)) (HeaderPlace s) ≡ or_else
      (put_headers (u.header.slot / 16) (new_sector u table) (HeaderPlace s)) (unit_at layout u.header.cluster one (HeaderPlace s))
  two_shows s = second.shows one (HeaderPlace s) (written_is_image (first_at layout (PreparePlace u.header.slot)) bytes image first.piece whole)

  ring_after : ShowsRing layout u.header.cluster (Log.now (adds events t.log)) (with_header u table)
  ring_after s h at = elim (cases_eq (s / 16) (u.header.slot / 16)) [
    | inl here ↦ let place : s ≡ 16 * (u.header.slot / 16) + s % 16 = omega (arith, here) in
        let there : slice_get (new_sector u table) (s % 16) ≡ Some h =
        sector_has (u.header.slot / 16) (s % 16) (with_header u table) h (omega arith) (rw place at at) in
        let puts : put_headers (u.header.slot / 16) (new_sector u table) (HeaderPlace s) ≡ Some (HeaderUnit (header_of h)) =
        cond-true (s / 16 == u.header.slot / 16)
        (header_unit (slice_get (new_sector u table) (s % 16))) None (eq-eqb (s / 16) (u.header.slot / 16) here) ∙ ap header_unit there in
        two_shows s ∙ ap (λ (x : Option AnyUnit). or_else x (unit_at layout u.header.cluster one (HeaderPlace s))) puts
    | inr elsewhere ↦ let none : put_headers (u.header.slot / 16) (new_sector u table) (HeaderPlace s) ≡ None =
        cond-false (s / 16 == u.header.slot / 16)
        (header_unit (slice_get (new_sector u table) (s % 16))) None (ne_eqb (s / 16) (u.header.slot / 16) elsewhere) in
        two_shows s ∙ ap (λ (x : Option AnyUnit). or_else x (unit_at layout u.header.cluster one (HeaderPlace s))) none ∙ at_header s
        ∙ elim (set_cases table u.header.slot s u.header h at) [
          | inl own_slot ↦ absurd (elsewhere (ap (λ (n : ℕ). n / 16) own_slot.0))
          | inr kept ↦ may.ring s h kept.1
        ]
  ]

  pub append_ends : (after : Told) (new : List Header)
      → Some after ≡ after_all events (Some t) → new ≡ with_header u table → EndsAppended layout u table t may after new
  append_ends after new all same = let log : after.log ≡ adds events t.log = all_added events t after all in record {
    tidy = rw log leads.tidy;
    ring = rw log (subst (ShowsRing layout u.header.cluster (Log.now (adds events t.log))) (sym same) ring_after);
  }

  pub ends_appended : (after : Told) (new : List Header) (result : Result Unit Failed) → Adds events (Some t) (Some after) result
      → OnOk result (new ≡ with_header u table) → OnOk result (EndsAppended layout u table t may after new)
  ends_appended after new (Ok done) all same = append_ends after new all same
  ends_appended after new (Err failed) all same = tt

-- ---- of what a disk told

-- the sector of a prepare's header is one of the ring
pub sector_of_ring : (layout room : Layout) (u : Message) (h : Header)
    → room ≡ layout → h ≡ u.header → IsInOwnSlot layout u → AreOfRing room (h.slot / 16 ∷ [])
sector_of_ring layout room u h here same own zero sector at = subst (λ (n : ℕ). n < room.slots / 16)
    (same_Some _ _ at) (omega (arith, sector_inside layout u own, ap (λ (x : Header). x.slot) same, ap (λ (l : Layout). l.slots) here))
sector_of_ring layout room u h here same own (suc i) sector at = absurd (cc)

module _ (layout : Layout) (held : Holding) (table : List Header) (own : IsInOwnSlot layout held.unit) (is : IsHeaderTable layout held.unit.header.cluster table) (brings : Brings layout held.unit.header.cluster (slot_place held.unit.header.slot) held.unit (take (sectors_end held.unit.header.size) held.bytes)) (old new : Option Told) where
  pub moments_of : AddsPart (journal_events layout held table) old new → (before after : Told) → old ≡ Some before → new ≡ Some after
      → (may : MayAppendOn layout held.unit table before) → EachMoment before.log after.log (AppendLeaves layout held.unit table before may)
  moments_of part before after first last may = append_moments layout held.unit table before may own is _ brings after
      (rw first at (rw last at part))

  pub ends_of : (made : List Header) (result : Result Unit Failed) → Adds (journal_events layout held table) old new result
      → made ≡ with_header held.unit table → (before after : Told) → old ≡ Some before → new ≡ Some after
      → (may : MayAppendOn layout held.unit table before) → OnOk result (EndsAppended layout held.unit table before may after made)
  ends_of made result adds same before after first last may =
      ends_appended layout held.unit table before may own is _ brings after made result (rw first at (rw last at adds)) (whole result)
    where
      whole : (r : Result Unit Failed) → OnOk r (made ≡ with_header held.unit table)
      whole (Ok done) = same
      whole (Err failed) = tt
