-- What a flush leaves in memory is what the machine's flush leaves there.
use Rattle.std.{proofs.{Common.{◌≡◌, ℕ, suc, ◌+◌, ◌-◌, ◌%◌, ◌<◌, ◌≤◌, List, [], ◌∷◌, ◌++◌, length, map, refl, sym, ◌∙◌, ap, arith, append_assoc, append-nil}, Math.Nat.{mod-lt}, lemmas.List.{length-set, map-append}}, specs.{Prelude.{slice_set}, List.{range_with_len}}}
use Rattle.{df_format.specs.{declared.header.Header.{Header}, Message.{Message}}, df_units.specs.Meaning.{header_of, number_of}}
use Rattle.df_journal.{specs.Flush.{messages_of, with_headers}, proofs.Laws.{length_messages}}
use Rattle.df_sessions.specs.declared.session.Session as told
use Rattle.df_sessions.specs.{Requests.{sessions_of}, Table.{with_request}}
use Rattle.df_theory.specs.{Sessions.{sessions_after}, Tails.{last_checksum}}
use Rattle.df_theory.specs.Units as theory
use Rattle.df_model.specs.{Changing.{flushed_in, unstored_all}, Memory.{Memory, sum_of_message}, Work.{Request}}
use Rattle.df_opening.specs.Below.{IsState, State, memory, prepare_sum, stored_sum}
use Rattle.df_replica.{specs.{declared.flush.Group.{Group}, Appending.{unit_made}, Flushing.{checks_of, flush_units, flushed, group_in, group_prepares, header_in, last_check, with_requests}}, proofs.{AppendMemory.{noted_table, stored_table, sum_at, sums_on}, FlushUnits.{length_units}}}

-- ---- one after the other

last_same : (check : List ℕ) (us : List Message) → number_of (last_check check us) ≡ last_checksum (number_of check) (messages_of us)
last_same check [] = refl
last_same check (u ∷ us) = last_same u.header.checksum us

sums_same : (us : List Message) → map number_of (checks_of us) ≡ map sum_of_message (messages_of us)
sums_same [] = refl
sums_same (u ∷ us) = ap (λ (xs : List ℕ). number_of u.header.checksum ∷ xs) (sums_same us)

sessions_same : (us : List Message) (ss : List told.Session)
    → sessions_of (with_requests us ss) ≡ sessions_after (sessions_of ss) (messages_of us)
sessions_same [] ss = refl
sessions_same (u ∷ us) ss = sessions_same us (with_request u.header.client u.header.request u.header.op ss)
    ∙ ap (λ (xs : List theory.Session). sessions_after xs (messages_of us)) (noted_table (header_of u.header) ss)

stored_same : (us : List Message) (ss : List told.Session)
    → map stored_sum (with_requests us ss) ≡ unstored_all (sessions_of ss) (messages_of us) (map stored_sum ss)
stored_same [] ss = refl
stored_same (u ∷ us) ss = let h = u.header in stored_same us (with_request h.client h.request h.op ss)
    ∙ (λ i. unstored_all (noted_table (header_of h) ss i) (messages_of us) (stored_table h.client h.request h.op ss i))

-- ---- the prepares

-- the table shows the sums of a group after those that it showed
group_sums : (g : Group) (base a n op : ℕ) (parent : List ℕ) (rs : List Request) (hs : List Header)
    → a + n ≡ op → base < a → op + length rs ≤ base + g.file.layout.slots + 1 → 0 < g.file.layout.slots → g.file.layout.slots ≤ length hs
    → map (sum_at g.file.layout.slots (with_headers (group_prepares g op parent rs) hs)) (range_with_len a (n + length rs))
    ≡ map (sum_at g.file.layout.slots hs) (range_with_len a n) ++ map sum_of_message (messages_of (group_prepares g op parent rs))
group_sums g base a n op parent [] hs at above room some inside = let same : n + 0 ≡ n = omega arith in
    ap (λ (k : ℕ). map (sum_at g.file.layout.slots hs) (range_with_len a k)) same
    ∙ sym (append-nil (map (sum_at g.file.layout.slots hs) (range_with_len a n)))
group_sums g base a n op parent (r ∷ rs) hs at above room some inside = let u = unit_made (header_in g op parent r) r.body in
    let slots = g.file.layout.slots in let more = with_headers (group_prepares g (op + 1) u.header.checksum rs) in
    let next = slice_set hs (op % slots) u.header in let many : n + length (r ∷ rs) ≡ suc n + length rs = omega arith in
    let rest = map sum_of_message (messages_of (group_prepares g (op + 1) u.header.checksum rs)) in
    ap (λ (k : ℕ). map (sum_at slots (more next)) (range_with_len a k)) many ∙ group_sums g base a (suc n) (op + 1) u.header.checksum
    rs next (omega (arith, at)) above (omega (arith, room)) some (omega (arith, inside, length-set hs (op % slots) u.header))
    ∙ ap (λ (xs : List ℕ).
    xs ++ rest) (sums_on slots base hs u.header a n op at above (omega (arith, room)) (omega (arith, mod-lt op some, inside)))
    ∙ append_assoc (map (sum_at slots hs) (range_with_len a n)) (number_of u.header.checksum ∷ []) rest

-- ---- the whole

pub flushed_memory : (s : State) → IsState s → memory (flushed s (flush_units s)) ≡ flushed_in (memory s) (messages_of (flush_units s))
flushed_memory s is = let us : List Message = flush_units s in let ps : List theory.Message = messages_of us in
    let t : State = flushed s us in let g = group_in s in let m : Memory = memory s in let n = s.head - s.fields.op in
    let count : length us ≡ length ps = sym (length_messages us) in
    let long : length us ≡ length s.staged = length_units g (s.head + 1) s.head_checksum s.staged in
    let many : t.head - s.fields.op ≡ n + length s.staged = omega (arith, is.order, long) in
    let prepares : map (prepare_sum t) (range_with_len (s.fields.op + 1) (t.head - s.fields.op)) ≡ m.prepares ++ map sum_of_message ps =
    ap (λ (k : ℕ). map (sum_at s.file.layout.slots t.headers) (range_with_len (s.fields.op + 1) k)) many
    ∙ group_sums g s.fields.op (s.fields.op + 1) n (s.head + 1) s.head_checksum s.staged s.headers (omega (arith, is.order))
    (omega arith) (omega (arith, is.staging.behind)) (omega (arith, s.file.layout.slots_within.0)) (omega (arith, is.ring.count)) in
    let waiting : map number_of t.waiting ≡ m.waiting ++ map sum_of_message ps =
    map-append number_of s.waiting (checks_of us) ∙ ap (λ (xs : List ℕ). m.waiting ++ xs) (sums_same us) in λ i. record m {
      head = s.head + count i;
      head_checksum = last_same s.head_checksum us i;
      sessions = sessions_same us s.table.sessions i;
      prepares = prepares i;
      stored = stored_same us s.table.sessions i;
      waiting = waiting i;
      staged = [];
    }
