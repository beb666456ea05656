-- The device calls of a settling, sector by sector, and of a put with a settling after it.
use Rattle.std.{specs.{Prelude.{Result, Ok, Err, OnOk, OnErr}, List.{slice_get}}, proofs.{Common.{◌≡◌, inl, ℕ, zero, suc, ◌+◌, ◌*◌, ◌/◌, ◌<◌, ◌≤◌, List, [], ◌∷◌, ◌++◌, length, drop, slice_index_or, Option, Some, refl, sym, ◌∙◌, ap, arith}, lemmas.Option.{same_Some, slice_get-get_or}}}
use Rattle.{df_base.specs.{declared.Failed.{Failed}, Log.{Event, Sync}}, df_layout.specs.declared.layout.Layout.{Layout}}
use Rattle.df_disk.{specs.{Told.{Told, after}, Adds.{Adds, AddsPart, after_all}}, proofs.Laws.{adds_then, after_append, all_then, part_then}}
use Rattle.{df_format.specs.declared.header.Header.{Header}, df_buffers.specs.Sounds.{Holding}, df_units.specs.Format.{format_of}}
use Rattle.{df_theory.{specs.{Device.{AreSteps}, Runs.{Syncs}}, proofs.Laws.{steps_join_law}}, df_prepares.specs.Slots.{prepare_put_events}}
use Rattle.df_headers.{specs.Ring.{AreOfRing, IsHeaderTable, header_write_steps, sector_events, sector_writes}, proofs.Laws.{writes_are_steps}}
use Rattle.df_journal.specs.Append.{journal_events, settle_events, settle_steps, with_header}

-- ---- calls that fail, and a sync

pub sync_adds : {T E : Type 0} → (old new : Option Told) (result : Result T E)
    → OnOk result (new ≡ after Sync old) → OnErr result (new ≡ old) → Adds (Sync ∷ []) old new result
sync_adds old new (Ok x) ok err = ok
sync_adds old new (Err e) ok err = inl err

-- ---- sectors

-- after what is told, these events lead to where all of them lead from the start
pub record LeadsAs (all rest : List Event) (old mid : Option Told) : Type 0 where
  pub whole : after_all rest mid ≡ after_all all old
  pub part : (new : Option Told) → AddsPart rest mid new → AddsPart all old new

pub leads_first : (all : List Event) (old : Option Told) → LeadsAs all all old old
leads_first all old = record { whole = refl; part = λ new part. part }

pub leads_more : (all es fs : List Event) (old mid new : Option Told)
    → LeadsAs all (es ++ fs) old mid → new ≡ after_all es mid → LeadsAs all fs old new
leads_more all es fs old mid new before turn = record {
  whole = ap (after_all fs) turn ∙ sym (after_append es fs mid) ∙ before.whole;
  part = λ later part. before.part later (all_then es fs mid new later turn part);
}

-- the elements from one on are it and those after it
pub drop_from : {X : Type 0} (k : ℕ) (xs : List X) (x : X) → slice_get xs k ≡ Some x → drop k xs ≡ x ∷ drop (suc k) xs
drop_from k [] x at = absurd (cc)
drop_from zero (y ∷ xs) x at = ap (λ z. z ∷ xs) (same_Some _ _ at)
drop_from (suc k) (y ∷ xs) x at = drop_from k xs x at

pub drop_all : {X : Type 0} (k : ℕ) (xs : List X) → length xs ≤ k → drop k xs ≡ []
drop_all zero [] le = refl
drop_all (suc k) [] le = refl
drop_all zero (x ∷ xs) le = absurd (omega (arith, le))
drop_all (suc k) (x ∷ xs) le = drop_all k xs (omega (arith, le))

-- the writes from sector k on are its own and those after it
writes_from : (layout : Layout) (table : List Header) (sectors : List ℕ) (k sector : ℕ) → slice_get sectors k ≡ Some sector
    → sector_writes layout table (drop k sectors) ≡ sector_events layout sector table ++ sector_writes layout table (drop (k + 1) sectors)
writes_from layout table sectors k sector at = let one : suc k ≡ k + 1 = omega arith in
    ap (sector_writes layout table) (drop_from k sectors sector at ∙ ap (λ (n : ℕ). sector ∷ drop n sectors) one)

module _ (layout : Layout) (table : List Header) (sectors : List ℕ) (k past : ℕ) (inside : k < length sectors) where
  abbrev at_k : ℕ
  at_k = slice_index_or sectors k past

  there : slice_get sectors k ≡ Some at_k
  there = slice_get-get_or sectors k past inside

  -- each is a sector of the table
  pub in_table : (cluster : ℕ) → IsHeaderTable layout cluster table → AreOfRing layout sectors → 16 * at_k + 16 ≤ length table
  in_table cluster is are = omega (arith, are k at_k there, is.count, layout.slots_within.2)

  pub in_ring : AreOfRing layout sectors → at_k < 64
  in_ring are = omega (arith, are k at_k there, layout.slots_within.1)

  pub may_write : (cluster : ℕ)
      → IsHeaderTable layout cluster table → AreOfRing layout sectors → IsHeaderTable layout cluster table × (at_k < layout.slots / 16)
  may_write cluster is are = (is, are k at_k there)

  pub turn_leads : (room : Layout) (all : List Event) (old mid new : Option Told) → room ≡ layout
      → LeadsAs all (sector_writes layout table (drop k sectors)) old mid → new ≡ after_all (sector_events room at_k table) mid
      → LeadsAs all (sector_writes layout table (drop (k + 1) sectors)) old new
  turn_leads room all old mid new here before turn =
      leads_more all (sector_events layout at_k table) (sector_writes layout table (drop (k + 1) sectors)) old mid new
      (rw (writes_from layout table sectors k at_k there) at before) (rw here at turn)

  pub turn_fails : (room : Layout) (all : List Event) (old mid new : Option Told) → room ≡ layout → LeadsAs
      all (sector_writes layout table (drop k sectors)) old mid → AddsPart (sector_events room at_k table) mid new → AddsPart all old new
  turn_fails room all old mid new here before part = before.part new (rw ((writes_from layout table sectors k at_k there))
      (part_then (sector_events layout at_k table) (sector_writes layout table (drop (k + 1) sectors)) mid new (rw here at part)))

pub leads_end : (layout : Layout) (table : List Header) (sectors : List ℕ) (k : ℕ) (all : List Event) (old mid : Option Told)
    → length sectors ≤ k → LeadsAs all (sector_writes layout table (drop k sectors)) old mid → mid ≡ after_all all old
leads_end layout table sectors k all old mid past leads =
    let none : sector_writes layout table (drop k sectors) ≡ [] = ap (sector_writes layout table) (drop_all k sectors past) in
    ap (λ (es : List Event). after_all es mid) (sym none) ∙ leads.whole

-- ---- a settling

pub settle_fails : (layout : Layout) (table : List Header) (sectors : List ℕ) (old mid new : Option Told)
    → mid ≡ after Sync old → AddsPart (sector_writes layout table sectors) mid new → AddsPart (settle_events layout table sectors) old new
settle_fails layout table sectors old mid new first part = all_then (Sync ∷ []) (sector_writes layout table sectors
    ++ Sync ∷ []) old mid new first (part_then (sector_writes layout table sectors) (Sync ∷ []) mid new part)

pub settle_adds : (layout : Layout) (table : List Header) (sectors : List ℕ) (old mid last new : Option Told) (result : Result Unit Failed)
    → mid ≡ after Sync old → last ≡ after_all (sector_writes layout table sectors) mid
    → OnOk result (new ≡ after Sync last) → OnErr result (new ≡ last) → Adds (settle_events layout table sectors) old new result
settle_adds layout table sectors old mid last new result first more ok err =
    adds_then (Sync ∷ []) (sector_writes layout table sectors ++ Sync ∷ []) old mid new result first
    (adds_then (sector_writes layout table sectors) (Sync ∷ []) mid last new result more (sync_adds last new result ok err))

pub settle_are_steps : (layout : Layout) (table : List Header) (sectors : List ℕ)
    → AreOfRing layout sectors → (cluster : ℕ) → IsHeaderTable layout cluster table
    → AreSteps (format_of layout cluster) (settle_events layout table sectors) (settle_steps table sectors)
settle_are_steps layout table sectors are cluster is = steps_join_law (format_of layout cluster) (sector_writes layout table sectors)
    (Sync ∷ []) (header_write_steps table sectors) (Syncs ∷ []) (writes_are_steps layout cluster table sectors is are) tt

-- ---- an append: a put, and a settling after it

pub put_fails : (layout : Layout) (held : Holding) (table : List Header) (old new : Option Told)
    → AddsPart (prepare_put_events layout held) old new → AddsPart (journal_events layout held table) old new
put_fails layout held table old new part = part_then
    (prepare_put_events layout held) (settle_events layout (with_header held.unit table) (held.unit.header.slot / 16 ∷ [])) old new part

pub both_add : (layout room : Layout) (held : Holding) (table made : List Header) (sectors : List ℕ) (old mid new : Option Told)
    (result : Result Unit Failed) → room ≡ layout → made ≡ with_header held.unit table → sectors ≡ held.unit.header.slot / 16 ∷ []
    → mid ≡ after_all (prepare_put_events layout held) old
    → Adds (settle_events room made sectors) mid new result → Adds (journal_events layout held table) old new result
both_add layout room held table made sectors old mid new result here set one put settled = let slot = held.unit.header.slot in
    adds_then (prepare_put_events layout held) (settle_events layout (with_header held.unit table) (slot / 16 ∷ [])) old mid new result put
    (rw here at (rw set at (rw one at settled)))
