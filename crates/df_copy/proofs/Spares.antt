-- Up to the write of the first copy the sectors of the superblock are as they were: all that a copy writes before it stands after them.
use Rattle.std.proofs.{Common.{◌≡◌, ◌⊎◌, inl, inr, ℕ, ◌+◌, ◌*◌, ◌<◌, ◌≤◌, ◌||◌, Bool, false, List, [], ◌∷◌, ◌++◌, Option, Some, refl, sym, ◌∙◌, ap, subst, arith, append_assoc, append-nil}, lemmas.Bool.{and_left, lt-leb}}
use Rattle.df_base.{specs.{Image.{covers}, Log.{Event, Log, Stop, Sync, Write, add, loose, now}, Moments.{Passed, adds}}, proofs.Laws.{goes_on, stands, written_else}}
use Rattle.df_disk.{specs.{Told.{Told, after}, Adds.{AddsPart, after_all}}, proofs.Laws.{after_append}}
use Rattle.df_layout.{specs.{declared.{layout.Layout.{Layout}, places.Zone.TheVariants.{ClientReplies, Grid}}, Spans.{span_of}, Zones.{first_sector, zone_sectors}}, proofs.Laws.{zones_follow}}
use Rattle.df_format.{specs.{declared.header.Header.{Header}, Message.{Message}, Own.{place_in}, Super.{copy_bytes}}, proofs.Laws.{slot_from}}
use Rattle.{df_units.specs.Making.{header_writes}, df_superblock.specs.Events.{copy_written}, df_grid.specs.Writes.{made_events}}
use Rattle.df_opening.specs.{Below.{State}, Making.{reserved_table, sectors_in}}
use Rattle.df_copy.specs.{Run.{BeginsCopies, KeepsCopies, SparesCopies}, Targets.{copy_events, events_before_trailer, front_events, ring_events, superblock_of, trailer_of}, Units.{all_events, moved_from, reply_events}}

-- ---- events that write nothing there

-- each write begins after the four copies
abbrev pub SpareSuper : List Event → Type 0
SpareSuper [] = Unit {0}
SpareSuper ((Write at bytes) ∷ es) = (4 ≤ at) × SpareSuper es
SpareSuper (Sync ∷ es) = SpareSuper es
SpareSuper ((Stop changes) ∷ es) = ⊥

spare_join : (es fs : List Event) → SpareSuper es → SpareSuper fs → SpareSuper (es ++ fs)
spare_join [] fs spare also = also
spare_join ((Write at bytes) ∷ es) fs spare also = (spare.0, spare_join es fs spare.1 also)
spare_join (Sync ∷ es) fs spare also = spare_join es fs spare also
spare_join ((Stop changes) ∷ es) fs spare also = absurd spare

spare_each : (events : Message → List Event) → ((u : Message) → SpareSuper (events u)) → (us : List Message) → SpareSuper (all_events events us)
spare_each events each [] = tt
spare_each events each (u ∷ us) = spare_join (events u) (all_events events us) (each u) (spare_each events each us)

-- ---- the zones of a copy

replies_from : (layout : Layout) → 4 ≤ first_sector layout ClientReplies
unfolding first_sector zone_sectors
replies_from layout = omega arith

grid_from : (layout : Layout) → 4 ≤ first_sector layout Grid
grid_from layout = let behind = (zones_follow layout).grid in omega (arith, behind, replies_from layout)

place_from : (layout : Layout) (place : ℕ) → 4 ≤ (span_of layout (place_in ClientReplies place)).first
unfolding span_of
place_from layout place = omega (arith, replies_from layout)

address_from : (layout : Layout) (address : ℕ) → 4 ≤ (span_of layout (place_in Grid address)).first
unfolding span_of
address_from layout address = omega (arith, grid_from layout)

spare_ring : (layout : Layout) (sector : ℕ) (sectors : List (List Header)) → SpareSuper (header_writes layout sector sectors)
spare_ring layout sector [] = tt
spare_ring layout sector (headers ∷ rest) = (slot_from layout (16 * sector), spare_ring layout (sector + 1) rest)

spare_reply : (layout : Layout) (u : Message) → SpareSuper (reply_events layout u)
spare_reply layout u = (place_from layout u.header.slot, tt)

spare_block : (layout : Layout) (u : Message) → SpareSuper (made_events layout u)
spare_block layout u = (address_from layout u.header.op, tt)

pub spare_units : (layout : Layout) (cluster : ℕ) (rs bs : List Message) → SpareSuper (events_before_trailer layout cluster rs bs)
spare_units layout cluster rs bs = spare_join (ring_events layout cluster) (all_events (reply_events layout) rs
    ++ all_events (made_events layout) (moved_from 1 bs)) (spare_ring layout 0 (sectors_in layout (reserved_table layout cluster)))
    (spare_join (all_events (reply_events layout) rs) (all_events (made_events layout) (moved_from 1 bs))
    (spare_each (reply_events layout) (spare_reply layout) rs) (spare_each (made_events layout) (spare_block layout) (moved_from 1 bs)))

-- all that stands before the first copy, its sync included
abbrev pub before_copies : Layout → State → (rs bs : List Message) → List Event
before_copies layout s rs bs = front_events layout s rs bs ++ Sync ∷ []

pub spare_before : (layout : Layout) (s : State) (rs bs : List Message) → SpareSuper (before_copies layout s rs bs)
spare_before layout s rs bs = let trailer = all_events (made_events layout) (trailer_of layout s (moved_from 1 bs)) in
    spare_join (front_events layout s rs bs) (Sync ∷ [])
    (spare_join (events_before_trailer layout s.file.cluster rs bs) trailer (spare_units layout s.file.cluster rs bs)
    (spare_each (made_events layout) (spare_block layout) (trailer_of layout s (moved_from 1 bs)))) tt

-- ---- moments

pub uncovered : (at : ℕ) (bytes : List ℕ) (n : ℕ) → 4 ≤ at → n < 4 → covers at bytes n ≡ false
unfolding covers
uncovered at bytes n from inside = and_left _ _ (lt-leb at n (omega (arith, from, inside)))

keeps_self : (log : Log) → KeepsCopies log log
keeps_self log = record { shown = λ n inside. refl; firm = λ n inside firm. firm }

keeps_write : (before log : Log) (at : ℕ) (bytes : List ℕ) → 4 ≤ at → KeepsCopies before log → KeepsCopies before (add (Write at bytes) log)
keeps_write before log at bytes from keeps = record {
  shown = λ n inside. written_else at bytes (now log) n (uncovered at bytes n from inside) ∙ keeps.shown n inside;
  firm = λ n inside firm. ap (λ (b : Bool). b || loose log n) (uncovered at bytes n from inside) ∙ keeps.firm n inside firm;
}

keeps_sync : (before log : Log) → KeepsCopies before log → KeepsCopies before (add Sync log)
keeps_sync before log keeps = record { shown = keeps.shown; firm = λ n inside firm. refl }

kept_on : (before : Log) (es : List Event) (log : Log) → SpareSuper es → KeepsCopies before log → Passed log (adds es log) (KeepsCopies before)
kept_on before [] log spare keeps = stands (KeepsCopies before) log keeps
kept_on before ((Write at bytes) ∷ es) log spare keeps =
    goes_on (KeepsCopies before) (Write at bytes) log (adds es (add (Write at bytes) log))
    keeps (kept_on before es (add (Write at bytes) log) spare.1 (keeps_write before log at bytes spare.0 keeps))
kept_on before (Sync ∷ es) log spare keeps = goes_on
    (KeepsCopies before) Sync log (adds es (add Sync log)) keeps (kept_on before es (add Sync log) spare (keeps_sync before log keeps))
kept_on before ((Stop changes) ∷ es) log spare keeps = absurd spare

-- ---- what was done

-- a front of events that write nothing there, and then nothing, or the first copy and others
spares_by : (o : Told) (new : Option Told) (front superblock : List Event)
    → SpareSuper front → (superblock ≡ []) ⊎ BeginsCopies superblock → new ≡ after_all (front ++ superblock) (Some o) → SparesCopies o new
spares_by o new front superblock spare begins is = record { front = front; superblock = superblock; is = is; begins = begins; spared = (kept_on o.log front o.log spare (keeps_self o.log)).moments }

pub spares_all : (o : Told) (new : Option Told) (front : List Event) → SpareSuper front → new ≡ after_all front (Some o) → SparesCopies o new
spares_all o new front spare is =
    spares_by o new front [] spare (inl refl) (is ∙ ap (λ (l : List Event). after_all l (Some o)) (sym (append-nil front)))

-- a part of events, and what it is
pub record IsFront (es : List Event) (old new : Option Told) : Type 0 where
  pub part : List Event
  pub rest : List Event
  pub both : es ≡ part ++ rest
  pub is : new ≡ after_all part old

pub front_of_part : (es : List Event) (old new : Option Told) → AddsPart es old new → IsFront es old new
front_of_part [] old new is = record { part = []; rest = []; both = refl; is = is }
front_of_part (e ∷ es) old new (inl is) = record { part = []; rest = e ∷ es; both = refl; is = is }
front_of_part (e ∷ es) old new (inr more) = let there = front_of_part es (after e old) new more in
    record { part = e ∷ there.part; rest = there.rest; both = ap (λ (l : List Event). e ∷ l) there.both; is = there.is }

pub spare_front : (part rest : List Event) → SpareSuper (part ++ rest) → SpareSuper part
spare_front [] rest spare = tt
spare_front ((Write at bytes) ∷ part) rest spare = (spare.0, spare_front part rest spare.1)
spare_front (Sync ∷ part) rest spare = spare_front part rest spare
spare_front ((Stop changes) ∷ part) rest spare = absurd spare

pub spares_part : (o : Told) (new : Option Told) (es : List Event) → SpareSuper es → AddsPart es (Some o) new → SparesCopies o new
spares_part o new es spare part = let front = front_of_part es (Some o) new part in
    spares_all o new front.part (spare_front front.part front.rest (subst SpareSuper front.both spare)) front.is

-- a part of two lists of events is one of the first, or the first and one of the second
part_of_two : (es fs : List Event) (old new : Option Told)
    → AddsPart (es ++ fs) old new → AddsPart es old new ⊎ AddsPart fs (after_all es old) new
part_of_two [] fs old new part = inr part
part_of_two (e ∷ es) fs old new (inl is) = inl (inl is)
part_of_two (e ∷ es) fs old new (inr more) = elim (part_of_two es fs (after e old) new more) [
  | inl first ↦ inl (inr first)
  | inr second ↦ inr second
]

begins_or_none : (bytes : List ℕ) (es part rest : List Event) → Write 0 bytes ∷ es ≡ part ++ rest → (part ≡ []) ⊎ BeginsCopies part
begins_or_none bytes es [] rest both = inl refl
begins_or_none bytes es (e ∷ part) rest both = inr (bytes, (let first : Write 0 bytes ≡ e = cc in sym first))

-- the front, and a part of what begins with the first copy
spares_then : (o : Told) (new : Option Told) (es : List Event) (bytes : List ℕ) (fs : List Event)
    → SpareSuper es → AddsPart (es ++ (Write 0 bytes ∷ fs)) (Some o) new → SparesCopies o new
spares_then o new es bytes fs spare part = elim (part_of_two es (Write 0 bytes ∷ fs) (Some o) new part) [
  | inl first ↦ spares_part o new es spare first
  | inr second ↦ let front = front_of_part (Write 0 bytes ∷ fs) (after_all es (Some o)) new second in spares_by o new
      es front.part spare (begins_or_none bytes fs front.part front.rest front.both) (front.is ∙ sym (after_append es front.part (Some o)))
]

-- a part of all that is written, or all of it
pub spares_copy : (layout : Layout) (s : State) (rs bs : List Message) (o : Told) (new : Option Told)
    → AddsPart (copy_events layout s rs bs) (Some o) new → SparesCopies o new
spares_copy layout s rs bs o new part = let f = superblock_of layout s rs bs in
    let later : List Event = Sync ∷ copy_written 1 f ∷ Sync ∷ copy_written 2 f ∷ Sync ∷ copy_written 3 f ∷ Sync ∷ [] in
    spares_then o new (before_copies layout s rs bs) (copy_bytes 0 f) later (spare_before layout s rs bs)
    (rw (sym (append_assoc (front_events layout s rs bs) (Sync ∷ []) (Write 0 (copy_bytes 0 f) ∷ later))) at part)
