-- The device calls of a group's puts, one after the other, and of a settling after them.
use Rattle.std.{specs.{Prelude.{Result}, List.{slice_get}}, proofs.{Common.{◌≡◌, inl, inr, ℕ, zero, suc, ◌+◌, ◌<◌, List, [], ◌∷◌, length, drop, slice_index_or, Option, Some, sym, ◌∙◌, ap, subst, arith}, lemmas.{Bool.{cases_eq}, Option.{same_Some, slice_get-get_or}}}}
use Rattle.{df_base.specs.{declared.Failed.{Failed}, Log.{Event}}, df_layout.specs.declared.layout.Layout.{Layout}}
use Rattle.df_disk.{specs.{Told.{Told}, Adds.{Adds, AddsPart, after_all}}, proofs.Laws.{adds_then, part_then}}
use Rattle.{df_format.specs.declared.header.Header.{Header}, df_buffers.specs.Sounds.{Holding}}
use Rattle.df_prepares.specs.Slots.{prepare_put_events}
use Rattle.df_journal.{specs.{Append.{settle_events, with_header}, Flush.{IsOwn, flush_events, group_puts, held_prepares, last_slot, sectors_of, with_headers}}, proofs.RingWrites.{LeadsAs, drop_from, leads_more}}

-- what an index gives stands there
pub stands_at : (helds : List Holding) (i : ℕ) (held : Holding)
    → i < length helds → held ≡ slice_index_or helds i held → slice_get helds i ≡ Some held
stands_at helds i held inside is = slice_get-get_or helds i held inside ∙ ap Some (sym is)

-- what holds of the prepares before one holds of it too
pub own_more : (layout : Layout) (helds : List Holding) (n : ℕ) (one : Holding) → slice_get helds n ≡ Some one
    → IsOwn layout one → ((k : ℕ) (held : Holding) → k < n → slice_get helds k ≡ Some held → IsOwn layout held)
    → (k : ℕ) (held : Holding) → k < n + 1 → slice_get helds k ≡ Some held → IsOwn layout held
own_more layout helds n one there new old k held less at = elim (cases_eq k n) [
  | inl here ↦ subst (IsOwn layout) (same_Some _ _ (sym there ∙ ap (slice_get helds) (sym here) ∙ at)) new
  | inr apart ↦ old k held (omega (arith, less, apart)) at
]

-- the slot of the last
pub last_held : (slot : ℕ) (helds : List Holding) (k : ℕ) (held : Holding)
    → k + 1 ≡ length helds → slice_get helds k ≡ Some held → held.unit.header.slot ≡ last_slot slot (held_prepares helds)
last_held slot [] k held last at = absurd (omega (arith, last))
last_held slot (x ∷ []) zero held last at = ap (λ (h : Holding). h.unit.header.slot) (same_Some _ _ (sym at))
last_held slot (x ∷ []) (suc k) held last at = absurd (omega (arith, last))
last_held slot (x ∷ y ∷ helds) zero held last at = absurd (omega (arith, last))
last_held slot (x ∷ y ∷ helds) (suc k) held last at = last_held x.unit.header.slot (y ∷ helds) k held (omega (arith, last)) at

-- ---- the puts

module _ (layout : Layout) (helds : List Holding) (k : ℕ) (held : Holding) (at : slice_get helds k ≡ Some held) where
  -- those from one on are it and those after it
  from_here : drop k helds ≡ held ∷ drop (k + 1) helds
  from_here = let one : suc k ≡ k + 1 = omega arith in drop_from k helds held at ∙ ap (λ (n : ℕ). held ∷ drop n helds) one

  pub group_leads : (all : List Event) (old mid new : Option Told) → LeadsAs all (group_puts layout (drop k helds)) old mid
      → new ≡ after_all (prepare_put_events layout held) mid → LeadsAs all (group_puts layout (drop (k + 1) helds)) old new
  group_leads all old mid new before turn = leads_more all (prepare_put_events layout held)
      (group_puts layout (drop (k + 1) helds)) old mid new (rw (ap (group_puts layout) from_here) at before) turn

  pub group_fails : (all : List Event) (old mid new : Option Told)
      → LeadsAs all (group_puts layout (drop k helds)) old mid → AddsPart (prepare_put_events layout held) mid new → AddsPart all old new
  group_fails all old mid new before part = before.part new (rw ((ap (group_puts layout) from_here))
      (part_then (prepare_put_events layout held) (group_puts layout (drop (k + 1) helds)) mid new part))

  -- and so are the headers
  pub headers_turn : (old new goal : List Header) → new ≡ with_header held.unit old
      → with_headers (held_prepares (drop k helds)) old ≡ goal → with_headers (held_prepares (drop (k + 1) helds)) new ≡ goal
  headers_turn old new goal turn before = ap (with_headers (held_prepares (drop (k + 1) helds))) turn
      ∙ sym (ap (λ (hs : List Holding). with_headers (held_prepares hs) old) from_here) ∙ before

-- ---- a settling after them

pub puts_fail : (layout : Layout) (helds : List Holding) (table : List Header) (old new : Option Told)
    → AddsPart (group_puts layout helds) old new → AddsPart (flush_events layout helds table) old new
puts_fail layout helds table old new part = part_then (group_puts layout helds)
    (settle_events layout (with_headers (held_prepares helds) table) (sectors_of (held_prepares helds))) old new part

pub flush_adds : (layout room : Layout) (helds : List Holding) (table made : List Header) (sectors : List ℕ) (old mid new : Option Told) (result : Result Unit Failed) → room ≡ layout → made ≡ with_headers (held_prepares helds) table → sectors ≡ sectors_of (held_prepares helds)
    → mid ≡ after_all (group_puts layout helds) old
    → Adds (settle_events room made sectors) mid new result → Adds (flush_events layout helds table) old new result
flush_adds layout room helds table made sectors old mid new result here same there first more = adds_then (group_puts layout helds)
    (settle_events layout (with_headers (held_prepares helds) table) (sectors_of (held_prepares helds))) old mid new result first
    (rw here at (rw same at (rw there at more)))
