-- What the table of slots says of a prepare: the image shows it, it has a client, and a shown one is in the table.
use Rattle.std.{proofs.{Common.{◌≡◌, ◌≢◌, ℕ, ◌<◌, List, length, get_or, Option, Some, None, refl, sym, ◌∙◌, ap, subst, arith, inl, inr}, lemmas.Bool.{cases_lt}, lemmas.Option.{slice_get-get_or}}, specs.{List.{slice_get}, Prelude.{Result, Ok, Err}}}
use Rattle.{df_buffers.specs.declared.slots.SlotSeen.{SlotSeen}, df_places.specs.Units.{IsThere}, df_units.specs.Meaning.{header_of}}
use Rattle.df_format.{specs.{declared.header.Header.{Header}, declared.kind.Kind.{Kind}, Own.{place_in}, Rules.{ObeysKind, ObeysPrepare}}, proofs.Laws.{valid_belongs}}
use Rattle.df_format.specs.Message as format
use Rattle.df_layout.specs.{declared.damage.Class.{Class}, declared.layout.Layout.{Layout}, declared.places.Zone.TheVariants.{WalPrepares}}
use Rattle.df_journal.specs.{Scan.{Scan, entry, or_blank}, Seen.{header_of_seen}, Shows.{IsSeenTable, ShowsPrepare, TellsRings}}
use Rattle.df_theory.specs.Units.{AnyUnit, Message, PreparePlace, PrepareUnit, Units}

of_ring : (x : Option AnyUnit) (r : Result Header Class) (p : Message)
    → ShowsPrepare x r → x ≡ Some (PrepareUnit p) → (h : Header) × (header_of_seen r ≡ Some h) × (p.header ≡ header_of h)
of_ring x (Ok g) p shows is = let both : Some (PrepareUnit shows.0) ≡ Some (PrepareUnit p) = sym shows.1 ∙ is in
    let same : shows.0 ≡ p = cc in (g, refl, ap (λ (m : Message). m.header) (sym same) ∙ shows.2)
of_ring x (Err class) p shows is = absurd (let both : None ≡ Some (PrepareUnit p) = sym shows ∙ is in cc)

-- an entry of the table, or past it
at_slot : (slots : List SlotSeen) (s : ℕ) → s < length slots → (seen : SlotSeen) × (slice_get slots s ≡ Some seen)
at_slot slots s within = (get_or slots s (or_blank None), slice_get-get_or slots s (or_blank None) within)

module _ (layout : Layout) (image : Units) (scan : Scan) (s : ℕ) (tells : TellsRings layout image scan) where
  -- and what is shown is seen
  pub prepare_seen : (p : Message) → image (PreparePlace s) ≡ Some (PrepareUnit p)
      → (h : Header) × (header_of_seen (entry scan s).prepare ≡ Some h) × (p.header ≡ header_of h)
  prepare_seen p is = elim (cases_lt s (length scan.slots)) [
    | inl within ↦ let at = at_slot scan.slots s within in
        let it = of_ring (image (PreparePlace s)) at.0.prepare p (tells.shows.each s at.0 at.1).prepare is in (it.0, rw at.1 it.1, it.2)
    | inr past ↦ absurd (let both : None ≡ Some (PrepareUnit p) = sym (tells.shows.no_prepare s past) ∙ is in cc)
  ]

has_client : (layout : Layout) (cluster s : ℕ) (r : Result Header Class) (h : Header)
    → IsThere layout cluster (place_in WalPrepares s) r → header_of_seen r ≡ Some h → h.client ≢ 0
has_client layout cluster s (Ok g) h there seen = let same : g ≡ h = cc in let u : format.Message = record { header = g; body = there.0 } in
    let slot = (valid_belongs layout cluster (place_in WalPrepares s) u there.1).belongs in
    let rules : ObeysPrepare g = subst (λ (k : Kind). ObeysKind k g) slot.kind there.1.sealed.rules.kind in
    let some : 0 < h.client = rw same at rules.client in λ zero. omega (arith, some, zero)
has_client layout cluster s (Err class) h there seen = absurd (cc)

-- a prepare in the table has a client
pub seen_client : (layout : Layout) (cluster : ℕ) (scan : Scan) (s : ℕ) (h : Header)
    → IsSeenTable layout cluster scan.slots → s < length scan.slots → header_of_seen (entry scan s).prepare ≡ Some h → h.client ≢ 0
seen_client layout cluster scan s h table within seen = let at = at_slot scan.slots s within in
    has_client layout cluster s at.0.prepare h (table.each s at.0 at.1).prepare (rw at.1 at seen)
