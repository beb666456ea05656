-- The moments of a flush, and its end.
use Rattle.std.{specs.{Prelude.{Result, Ok, Err, OnOk}, List.{slice_get}}, proofs.{Common.{◌≡◌, ◌⊎◌, inl, inr, ℕ, zero, suc, ◌+◌, ◌*◌, ◌/◌, ◌%◌, ◌<◌, ◌≤◌, List, [], ◌∷◌, ◌++◌, length, Option, Some, refl, sym, ◌∙◌, ap, subst, length-append, arith}, lemmas.Option.{same_Some, slice_get-get_or, slice_get_within}}}
use Rattle.{df_base.specs.{declared.Failed.{Failed}, Log.{Event}, Moments.{EachMoment, adds}}, df_buffers.specs.Sounds.{Holding}}
use Rattle.df_base.specs.Log
use Rattle.{df_disk.specs.{Told.{Told}, Adds.{Adds, AddsPart, after_all}}, df_layout.specs.declared.layout.Layout.{Layout}}
use Rattle.{df_format.specs.{declared.header.Header.{Header}, Message.{Message}}, df_headers.specs.Ring.{AreOfRing, IsHeaderTable}}
use Rattle.df_theory.specs.Units
use Rattle.df_theory.{specs.{Units.{HeaderPlace, HeaderUnit, PreparePlace, PrepareUnit}, UnitLog.{PutsOne, put_one}, Tails.{In}, Shape.{Shape}, View.{View, head}, Next.{appended}, Runs.{Step, Syncs}, MakingLaws.{all_puts}, WriterLaws.{AllPutPrepare, flush_steps as theory_steps}, MendLaws.{AllPutTable, Reaches}, GroupLaws.{IsGroupTable, flush_command}, TidyLaws.{IsTidy, LeadsTidily}, Device.{AreSteps, Format, IsGoodDisk, units_log}}, proofs.Laws.{flush_ring_law, in_front, moments_law, put_one_law, shown_law, steps_join_law, tidy_flush_law, tidy_moments_law}}
use Rattle.df_theory.specs.UnitLog
use Rattle.df_units.{specs.{Bytes.{unit_at}, Format.{format_of, shape_of}, Meaning.{header_of, message_of}}, proofs.Laws.{all_added, is_format, part_moments, prepare_put}}
use Rattle.df_prepares.specs.Slots.{IsInOwnSlot, prepare_put_events, put_steps}
use Rattle.df_journal.{specs.{Append.{ShowsRing, settle_events, settle_steps}, Flush.{AreOwn, EndsFlushed, LeavesGroup, MayFlushOn, MayPutGroup, first_slot, flush_events, flush_steps, group_puts, group_steps, held_prepares, last_slot, messages_of, sectors_between, sectors_of, with_headers}}, proofs.{GroupTables.{AreIn, at_slot, at_slot_is, ends_of_ring, get_cases, group_kept, own_get, reach_inside, sector_of_two, sector_units, sectors_put, slot_is, turn_apart, two_reach, writes_are_puts}, Moments.{stays}, RingWrites.{settle_are_steps}}}

-- ---- what the rooms hold

held_at : (helds : List Holding) (i : ℕ) (u : Message)
    → slice_get (held_prepares helds) i ≡ Some u → (held : Holding) × (slice_get helds i ≡ Some held) × (held.unit ≡ u)
held_at [] i u at = absurd (cc)
held_at (held ∷ helds) zero u at = (held, refl, (let both : Some held.unit ≡ Some u = at in cc))
held_at (held ∷ helds) (suc i) u at = held_at helds i u at

pub are_in : (layout : Layout) (cluster : ℕ) (helds : List Holding) (table : List Header)
    → MayPutGroup layout cluster helds table → AreOwn layout helds → AreIn layout cluster (held_prepares helds)
are_in layout cluster helds table may own i u at = let one = held_at helds i u at in
    subst (λ (w : Message). IsInOwnSlot layout w × (w.header.cluster ≡ cluster)) one.2 ((own i one.0 one.1).own, (may.each i one.0 one.1).1)

pub length_of_units : (helds : List Holding) → length (held_prepares helds) ≡ length helds
length_of_units [] = refl
length_of_units (held ∷ helds) = omega (arith, length_of_units helds)

-- ---- its device calls are steps

puts_are_steps : (layout : Layout) (cluster : ℕ) (helds : List Holding) → AreOwn layout helds → ((i : ℕ) (held : Holding) → slice_get helds i ≡ Some held → held.unit.header.cluster ≡ cluster) → AreSteps (format_of layout cluster) (group_puts layout helds) (group_steps (held_prepares helds))
puts_are_steps layout cluster [] own of_file = tt
puts_are_steps layout cluster (held ∷ helds) own of_file =
    let one : AreSteps (format_of layout held.unit.header.cluster) (prepare_put_events layout held) (put_steps held.unit) =
    (prepare_put layout held.unit.header.cluster held.unit.header.slot held.unit _ (own 0 held refl).brings, tt) in
    steps_join_law (format_of layout cluster)
    (prepare_put_events layout held) (group_puts layout helds) (put_steps held.unit) (group_steps (held_prepares helds))
    (rw (of_file 0 held refl) at one) (puts_are_steps layout cluster helds (λ i x at. own (suc i) x at) (λ i x at. of_file (suc i) x at))

-- a ring is whole sectors
ring_whole : (layout : Layout) → layout.slots ≡ 16 * (layout.slots / 16)
ring_whole layout = omega (arith, layout.slots_within.2)

pub flush_are_steps : (layout : Layout) (cluster : ℕ) (helds : List Holding) (table : List Header)
    → 0 < length helds → MayPutGroup layout cluster helds table → AreOwn layout helds
    → AreSteps (format_of layout cluster) (flush_events layout helds table) (flush_steps (held_prepares helds) table)
flush_are_steps layout cluster helds table some may own = let all = are_in layout cluster helds table may own in
    let us = held_prepares helds in steps_join_law (format_of layout cluster) (group_puts layout helds)
    (settle_events layout (with_headers us table) (sectors_of us)) (group_steps us) (settle_steps (with_headers us table) (sectors_of us))
    (puts_are_steps layout cluster helds own (λ i held at. (may.each i held at).1))
    (settle_are_steps layout (with_headers us table) (sectors_of us) (ends_of_ring layout cluster
    us all (omega (arith, some, length_of_units helds)) (ring_whole layout)) cluster (group_kept layout cluster us table all may.table_is))

-- ---- as the theory has them

abbrev prepare_units : List Message → List Units.Units
prepare_units [] = []
prepare_units (u ∷ us) = put_one (PreparePlace u.header.slot) (PrepareUnit (message_of u)) ∷ prepare_units us

puts_same : (us : List Message) → group_steps us ≡ all_puts (prepare_units us)
puts_same [] = refl
puts_same (u ∷ us) = ap (λ (ss : List Step). put_steps u ++ ss) (puts_same us)

theory_same : (us : List Message) (table : List Header)
    → flush_steps us table ≡ theory_steps (prepare_units us) (sector_units (with_headers us table) (sectors_of us))
theory_same us table = ap (λ (ss : List Step). ss ++ settle_steps (with_headers us table) (sectors_of us)) (puts_same us)
    ∙ ap (λ (ss : List Step).
    all_puts (prepare_units us) ++ Syncs ∷ (ss ++ Syncs ∷ [])) (writes_are_puts (with_headers us table) (sectors_of us))

in_messages : (us : List Message) (p : Units.Message)
    → In p (messages_of us) → (i : ℕ) × (u : Message) × (slice_get us i ≡ Some u) × (p ≡ message_of u)
in_messages [] p at = absurd at
in_messages (u ∷ us) p (inl here) = (0, u, refl, here)
in_messages (u ∷ us) p (inr there) = let rest = in_messages us p there in (suc rest.0, rest.1, rest.2, rest.3)

message_in : (us : List Message) (i : ℕ) (u : Message) → slice_get us i ≡ Some u → In (message_of u) (messages_of us)
message_in [] i u at = absurd (cc)
message_in (x ∷ us) zero u at = inl (let both : Some x ≡ Some u = at in cc)
message_in (x ∷ us) (suc i) u at = inr (message_in us i u at)

pub length_messages : (us : List Message) → length (messages_of us) ≡ length us
length_messages [] = refl
length_messages (u ∷ us) = omega (arith, length_messages us)

all_prepares : (layout : Layout) (cluster : ℕ) (sh : Shape) (us : List Message)
    → sh.layout.slots ≡ layout.slots → AreIn layout cluster us → AllPutPrepare sh (messages_of us) (prepare_units us)
all_prepares layout cluster sh [] ring all = tt
all_prepares layout cluster sh (u ∷ us) ring all = (
  rw (← (slot_is layout u (all 0 u refl).0 ∙ ap (λ (n : ℕ). u.header.op % n) (sym ring)))
      (put_one_law (PreparePlace u.header.slot) (PrepareUnit (message_of u))),
  all_prepares layout cluster sh us ring (λ i x at. all (suc i) x at),
)

-- ---- the flush

-- its steps are those of a group's flush in the words of the theory, over an image
pub record GroupPuts (sh : Shape) (units : Units.Units) (us : List Message) (steps : List Step) : Type 0 where
  pub prepares : List Units.Units
  pub table : ℕ → Units.Header
  pub headers : List Units.Units
  pub puts : AllPutPrepare sh (messages_of us) prepares
  pub sectors : AllPutTable table headers
  pub is_table : IsGroupTable sh units (messages_of us) table headers
  pub are : steps ≡ theory_steps prepares headers

module _ (layout : Layout) (cluster : ℕ) (helds : List Holding) (table : List Header) (t : Told) (put : MayPutGroup layout cluster
    helds table) (own : AreOwn layout helds) (some : 0 < length helds) (may : MayFlushOn layout cluster (held_prepares helds) table t) where
  abbrev us : List Message
  us = held_prepares helds

  abbrev v : View
  v = may.view

  abbrev ps : List Units.Message
  ps = messages_of us

  abbrev f : Format
  f = format_of layout cluster

  abbrev sh : Shape
  sh = shape_of layout cluster may.named may.parse

  abbrev new : List Header
  new = with_headers us table

  abbrev events : List Event
  events = flush_events layout helds table

  all : AreIn layout cluster us
  all = are_in layout cluster helds table put own

  count : length ps ≡ length us
  count = length_messages us

  room : length us ≤ layout.slots
  room = omega (arith, may.may.room, count)

  few : length us ≤ 8
  few = omega (arith, may.may.pipeline, count, may.tidy.rests.holds.bears.sound.pipeline.0)

  is : IsHeaderTable layout cluster new
  is = group_kept layout cluster us table all put.table_is

  some_slots : 0 < layout.slots
  some_slots = omega (arith, layout.slots_within.0)

  -- any header stands for those beside the ring
  past : Header
  past = (first_held helds some).unit.header
    where
      first_held : (hs : List Holding) → 0 < length hs → Holding
      first_held [] none = absurd (omega (arith, none))
      first_held (h ∷ hs) one = h

  abbrev image : Units.Units
  image = UnitLog.now (units_log f t.log)

  abbrev ring_is : Units.Units → Type 0
  ring_is units = (s : ℕ) (h : Header) → slice_get table s ≡ Some h → units (HeaderPlace s) ≡ Some (HeaderUnit (header_of h))

  shows : ring_is image
  shows s h at = sym (shown_law f t.log (Log.now t.log) (is_format layout cluster) (λ sector. refl) (HeaderPlace s)) ∙ may.ring s h at

  of_two : (i : ℕ) (u : Message)
      → slice_get us i ≡ Some u → (u.header.slot / 16 ≡ first_slot us / 16) ⊎ (u.header.slot / 16 ≡ last_slot 0 us / 16)
  of_two = sector_of_two layout cluster (head v + 1) _ us all may.may.is.turn some_slots (ring_whole layout) few

  group_table : (units : Units.Units)
      → ring_is units → IsGroupTable sh units ps (λ s. header_of (at_slot new past s)) (sector_units new (sectors_of us))
  group_table units ring = record {
    from = λ s below. let h = at_slot new past s in
        let there : slice_get new s ≡ Some h = slice_get-get_or new s past (omega (arith, below, is.count)) in
        elim (get_cases layout cluster us table s all put.table_is) [
          | inl changed ↦ let same : h ≡ changed.1.header = same_Some _ _ (sym there ∙ changed.4) in
              inr (message_of changed.1, message_in us changed.0 changed.1 changed.2, changed.3 ∙ slot_is layout changed.1 (all changed.0 changed.1 changed.2).0, ap header_of same)
          | inr old ↦ inl (ring s h (sym old ∙ there))
        ];
    inside = λ s reaches. reach_inside layout new (sectors_of us)
        s (ring_whole layout) (ends_of_ring layout cluster us all (omega (arith, may.may.is.some, count)) (ring_whole layout)) reaches;
    own = λ p at. let one = in_messages us p at in let slot = slot_is layout one.1 (all one.0 one.1 one.2).0 in
        let here : slice_get new one.1.header.slot ≡ Some one.1.header = own_get layout cluster
        us table one.0 one.1 all (turn_apart layout cluster (head v + 1) _ us all may.may.is.turn some_slots room) put.table_is one.2 in
        rw one.3 (ap (λ (s : ℕ). header_of (at_slot new past s)) (sym slot)
        ∙ ap header_of (sym (at_slot_is new past one.1.header.slot one.1.header here)));
    reached = λ p at. let one = in_messages us p at in let slot = slot_is layout one.1 (all one.0 one.1 one.2).0 in
        let here : slice_get new one.1.header.slot ≡ Some one.1.header = own_get layout cluster
        us table one.0 one.1 all (turn_apart layout cluster (head v + 1) _ us all may.may.is.turn some_slots room) put.table_is one.2 in
        rw one.3
        (rw slot at (two_reach new (first_slot us / 16) (last_slot 0 us / 16) one.1.header.slot one.1.header here (of_two one.0 one.1 one.2)));
  }

  is_group : IsGroupTable sh image ps (λ s. header_of (at_slot new past s)) (sector_units new (sectors_of us))
  is_group = group_table image shows

  -- what its steps put, over what the device shows
  pub flush_puts : GroupPuts sh (unit_at layout cluster (Log.now t.log)) us (flush_steps us table)
  flush_puts = record {
    prepares = prepare_units us;
    table = λ s. header_of (at_slot new past s);
    headers = sector_units new (sectors_of us);
    puts = all_prepares layout cluster sh us refl all;
    sectors = sectors_put new past (sectors_of us);
    is_table = group_table (unit_at layout cluster (Log.now t.log)) may.ring;
    are = theory_same us table;
  }

  leads : LeadsTidily sh (units_log f t.log) v (flush_command v ps (prepare_units us) (sector_units new (sectors_of us)))
  leads =
      (tidy_flush_law sh (units_log f t.log) v ps ps (prepare_units us) (λ s. header_of (at_slot new past s)) (sector_units new (sectors_of
      us)) may.tidy may.may (λ several. may.booted (omega (arith, several, count))) (record { there = λ p at. at; back = λ p at. at })
      (all_prepares layout cluster sh us refl all) (sectors_put new past (sectors_of us)) is_group).0

  are : AreSteps f events (theory_steps (prepare_units us) (sector_units new (sectors_of us)))
  are = subst (AreSteps f events) (theory_same us table) (flush_are_steps layout cluster helds table some put own)

  both : EachMoment t.log (adds events t.log) (IsGoodDisk f sh v (appended v ps)) × IsTidy sh (units_log f (adds events t.log)) (appended v ps)
  both = tidy_moments_law f sh v (flush_command v ps (prepare_units us) (sector_units new (sectors_of us)))
      t.log events (is_format layout cluster) may.is_log are leads

  more : head (appended v ps) ≡ head v + length us
  more = omega (arith, length-append v.tail ps, count)

  pub flush_moments : (after : Told)
      → AddsPart events (Some t) (Some after) → EachMoment t.log after.log (LeavesGroup layout cluster us table t may)
  flush_moments after part log moment = let good = part_moments events t after (IsGoodDisk f sh v (appended v ps)) part both.0 log moment in
      record {
        good = good;
        others = λ image left chance. elim (good.left image left chance) [
          | inl before ↦
              stays layout cluster may.named may.parse image v v (length us) left.whole before refl (λ p is. is) (omega arith) (omega arith)
          | inr behind ↦ stays layout cluster may.named may.parse image v (appended v ps) (length us) left.whole behind refl (λ p is.
              in_front p v.tail ps is) (omega (arith, more)) (omega (arith, more))
        ];
      }

  ring_after : ShowsRing layout cluster (Log.now (adds events t.log)) new
  ring_after s h at = let below : s < layout.slots = omega (arith, slice_get_within new s h at, is.count) in
      let units : units_log f (adds events t.log) ≡ _ = (moments_law f sh v (appended v ps)
      t.log events (theory_steps (prepare_units us) (sector_units new (sectors_of us))) (is_format layout cluster) may.is_log are).0 in
      shown_law f (adds events t.log) (Log.now (adds events t.log)) (is_format layout cluster) (λ sector. refl) (HeaderPlace s)
      ∙ ap (λ (l : UnitLog.UnitLog). UnitLog.now l (HeaderPlace s)) units
      ∙ flush_ring_law sh (units_log f t.log) ps ps (prepare_units us) (λ k. header_of (at_slot new past k)) (sector_units
      new (sectors_of us)) (all_prepares layout cluster sh us refl all) (sectors_put new past (sectors_of us)) is_group s below
      ∙ ap (λ (x : Header). Some (HeaderUnit (header_of x))) (sym (at_slot_is new past s h at))

  pub flush_ends : (after : Told) (last : List Header)
      → Some after ≡ after_all events (Some t) → last ≡ new → EndsFlushed layout cluster us table t may after last
  flush_ends after last told same = let log : after.log ≡ adds events t.log = all_added events t after told in record {
    tidy = rw (sym log) at both.1;
    ring = rw (sym log) at (subst (ShowsRing layout cluster (Log.now (adds events t.log))) (sym same) ring_after);
  }

-- ---- of what a disk told

module _ (layout : Layout) (cluster : ℕ) (helds : List Holding) (table : List Header)
    (put : MayPutGroup layout cluster helds table) (own : AreOwn layout helds) (some : 0 < length helds) (old new : Option Told) where
  pub group_moments : AddsPart (flush_events layout helds table) old new
      → (before after : Told) → old ≡ Some before → new ≡ Some after → (may : MayFlushOn layout cluster (held_prepares helds) table before)
      → EachMoment before.log after.log (LeavesGroup layout cluster (held_prepares helds) table before may)
  group_moments part before after first last may = flush_moments layout cluster helds table before put own some may after
      (rw first at (rw last at part))

  pub group_ends : (made : List Header) (result : Result Unit Failed) → Adds (flush_events layout helds table) old new result
      → made ≡ with_headers (held_prepares helds) table → (before after : Told) → old ≡ Some before → new ≡ Some after
      → (may : MayFlushOn layout cluster (held_prepares helds) table before)
      → OnOk result (EndsFlushed layout cluster (held_prepares helds) table before may after made)
  group_ends made result adds same before after first last may = go result (rw first at (rw last at adds))
    where
      go : (r : Result Unit Failed) → Adds (flush_events layout helds table) (Some before) (Some after) r
          → OnOk r (EndsFlushed layout cluster (held_prepares helds) table before may after made)
      go (Ok done) told = flush_ends layout cluster helds table before put own some may after made told same
      go (Err failed) told = tt

-- the two sectors are of the ring
pub between_of_ring : (layout room : Layout) (cluster : ℕ) (helds : List Holding) (table : List Header) (first last : ℕ)
    → MayPutGroup layout cluster helds table → AreOwn layout helds → 0 < length helds → room ≡ layout
    → first ≡ first_slot (held_prepares helds) / 16 → last ≡ last_slot 0 (held_prepares helds) / 16 → AreOfRing room (sectors_between first last)
between_of_ring layout room cluster helds table first last put own some here one two = let us = held_prepares helds in
    let are = ends_of_ring
    layout cluster us (are_in layout cluster helds table put own) (omega (arith, some, length_of_units helds)) (ring_whole layout) in
    let path : sectors_between first last ≡ sectors_of us = λ i. sectors_between (one i) (two i) in
    rw (sym here) at (subst (AreOfRing layout) (sym path) are)
