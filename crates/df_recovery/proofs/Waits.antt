-- The checksums that wait, one more op at a time, and in the words of the machine.
use Rattle.std.{proofs.{Common.{◌≡◌, ◌∙◌, inl, inr, ℕ, ◌+◌, ◌-◌, ◌%◌, ◌==◌, ◌≤◌, Bool, true, false, List, [], ◌∷◌, ◌++◌, length, map, Option, Some, None, refl, sym, ap, arith}, lemmas.List.FromFn.{length-map-range_with_len, map-range_with_len_more}, lemmas.Option.{slice_get_cases}}, specs.{Prelude.{Result, Ok, Err, nat_lt, if◌then◌else◌}, List.{range_with_len, slice_get}}}
use Rattle.{df_base.specs.Fields.{field_at}, df_layout.specs.declared.damage.Class.{Class}, df_theory.specs.Units.{AnyUnit, PreparePlace}}
use Rattle.{df_format.specs.{Spelling.{no_checksum}, declared.header.Header.{Header}}, df_model.specs.Work.{checksum_of_op}}
use Rattle.df_theory.specs.Units
use Rattle.{df_units.{specs.Meaning.{number_of}, proofs.Laws.{no_number}}, df_buffers.specs.declared.slots.SlotSeen.{SlotSeen}}
use Rattle.df_journal.specs.{Scan.{Scan, entry, or_blank}, Seen.{header_of_seen}, Shows.{ShowsPrepare, ShowsTable}}
use Rattle.df_rooms.specs.State.{State, prepare_sum, sum_of_header}
use Rattle.df_recovery.specs.Waiting.{header_checksum, known_sum, shown_sum, waiting_at, waiting_in, waiting_sum}

pub waiting_count : (n : ℕ) (scan : Scan) (headers : List Header) (replies head : ℕ)
    → length (waiting_in n scan headers replies head) ≡ head - replies
waiting_count n scan headers replies head = length-map-range_with_len (waiting_at n scan headers) (replies + 1) (head - replies)

pub waiting_more : (n : ℕ) (scan : Scan) (headers : List Header) (replies op : ℕ) → replies ≤ op
    → waiting_in n scan headers replies (op + 1) ≡ waiting_in n scan headers replies op ++ waiting_at n scan headers (op + 1) ∷ []
waiting_more n scan headers replies op from = let one : op + 1 - replies ≡ (op - replies) + 1 = omega (arith, from) in
    let at : replies + 1 + (op - replies) ≡ op + 1 = omega (arith, from) in
    ap (λ (k : ℕ). map (waiting_at n scan headers) (range_with_len (replies + 1) k)) one
    ∙ map-range_with_len_more (waiting_at n scan headers) (replies + 1) (op - replies) (op + 1) at

pub waiting_none : (n : ℕ) (scan : Scan) (headers : List Header) (replies : ℕ) → waiting_in n scan headers replies replies ≡ []
waiting_none n scan headers replies = let none : replies - replies ≡ 0 = omega arith in
    ap (λ (k : ℕ). map (waiting_at n scan headers) (range_with_len (replies + 1) k)) none

-- ---- in the words of the machine

known_is : (header : Option Header) → number_of (header_checksum header) ≡ sum_of_header header
unfolding field_at
known_is None = refl
known_is (Some h) = refl

shown_is : (op : ℕ) (x : Option AnyUnit) (r : Result Header Class)
    → ShowsPrepare x r → number_of (shown_sum op (header_of_seen r)) ≡ checksum_of_op op x
shown_is op x (Err class) none = no_number ∙ sym (ap (checksum_of_op op) none)
shown_is op x (Ok h) (p, at, header) =
    pick (h.op == op) ∙ ap (λ (g : Units.Header). if g.op == op then g.checksum else 0) (sym header) ∙ sym (ap (checksum_of_op op) at)
  where
    pick : (b : Bool) → number_of (if b then h.checksum else no_checksum) ≡ (if b then number_of h.checksum else 0)
    pick true = refl
    pick false = no_number

-- past the table nothing is shown
entry_shown : (image : Units.Units) (scan : Scan) (slot op : ℕ) → ShowsTable image scan.slots
    → number_of (shown_sum op (header_of_seen (entry scan slot).prepare)) ≡ checksum_of_op op (image (PreparePlace slot))
entry_shown image scan slot op shows = elim (slice_get_cases scan.slots slot).1 [
  | inl there ↦ let seen : entry scan slot ≡ there.0 = ap or_blank there.2 in
      ap (λ (s : SlotSeen). number_of (shown_sum op (header_of_seen s.prepare))) seen
      ∙ shown_is op (image (PreparePlace slot)) there.0.prepare (shows.each slot there.0 there.2).prepare
  | inr past ↦ let seen : entry scan slot ≡ or_blank None = ap or_blank past.1 in
      ap (λ (s : SlotSeen). number_of (shown_sum op (header_of_seen s.prepare))) seen
      ∙ no_number ∙ sym (ap (checksum_of_op op) (shows.no_prepare slot past.0))
]

rule_is : (s : State) (image : Units.Units) (scan : Scan) (op : ℕ) → scan.start.op ≡ s.fields.op
    → ShowsTable image scan.slots → number_of (waiting_at s.file.layout.slots scan s.headers op) ≡ waiting_sum s image op
rule_is s image scan op start shows = ap (λ (n : ℕ). number_of (if nat_lt n op then known_sum s.headers (op % s.file.layout.slots)
    else shown_sum op (header_of_seen (entry scan (op % s.file.layout.slots)).prepare))) start ∙ pick (nat_lt s.fields.op op)
  where
    pick : (b : Bool) → number_of (if b then
        known_sum s.headers (op % s.file.layout.slots) else shown_sum op (header_of_seen (entry scan (op % s.file.layout.slots)).prepare))
        ≡ (if b then prepare_sum s op else checksum_of_op op (image (PreparePlace (op % s.file.layout.slots))))
    pick true = known_is (slice_get s.headers (op % s.file.layout.slots))
    pick false = entry_shown image scan (op % s.file.layout.slots) op shows

-- the rule of the tables is the machine's
pub waiting_known : (s : State) (image : Units.Units) (scan : Scan) (ops : List ℕ) → scan.start.op ≡ s.fields.op
    → ShowsTable image scan.slots → map number_of (map (waiting_at s.file.layout.slots scan s.headers) ops) ≡ map (waiting_sum s image) ops
waiting_known s image scan [] start shows = refl
waiting_known s image scan (op ∷ ops) start shows = let first = rule_is s image scan op start shows in
    let rest = waiting_known s image scan ops start shows in λ i. first i ∷ rest i
