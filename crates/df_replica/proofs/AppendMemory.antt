-- What an append leaves in memory is what the machine's append leaves there.
use Rattle.std.{proofs.{Common.{◌≡◌, ◌≢◌, inl, inr, ℕ, zero, suc, ◌+◌, ◌-◌, ◌%◌, ◌<◌, ◌≤◌, List, [], ◌∷◌, ◌++◌, length, map, Option, refl, ◌∙◌, ap, arith}, lemmas.Bool.{cases_Bool}, lemmas.List.{map-append}}, specs.{Prelude.{slice_set}, List.{range_with_len, slice_get}}}
use Rattle.{df_base.proofs.Laws.{get_set, get_set_other}, df_format.specs.{declared.header.Header.{Header}, Message.{Message}}}
use Rattle.{df_journal.proofs.Laws.{one_op}, df_sessions.specs.{Requests.{session_of, sessions_of}, Table.{has_client, with_request}}}
use Rattle.df_sessions.specs.declared.session.Session as told
use Rattle.{df_theory.specs.Sessions.{noted}, df_units.specs.Meaning.{header_of, message_of, number_of}}
use Rattle.df_theory.specs.Units as theory
use Rattle.df_model.specs.{Memory.{Memory}, Changing.{appended_in, unstored}}
use Rattle.df_opening.specs.Below.{IsState, State, memory, prepare_sum, stored_sum, sum_of_header}
use Rattle.df_replica.specs.Appending.{next_unit, with_prepare_appended}

-- ---- the sessions

pub noted_table : (h : theory.Header) (ss : List told.Session)
    → map session_of (with_request h.client h.request h.op ss) ≡ noted h (map session_of ss)
noted_table h [] = refl
noted_table h (s ∷ ss) = elim (cases_Bool (has_client h.client s)) [
  | inl same ↦ rw same refl
  | inr other ↦ rw other (ap (λ (l : List theory.Session). session_of s ∷ l) (noted_table h ss))
]

pub stored_table : (client request op : ℕ) (ss : List told.Session)
    → map stored_sum (with_request client request op ss) ≡ unstored client (map session_of ss) (map stored_sum ss)
stored_table client request op [] = refl
stored_table client request op (s ∷ ss) = elim (cases_Bool (has_client client s)) [
  | inl same ↦ rw same refl
  | inr other ↦ rw other (ap (λ (l : List (Option ℕ)). stored_sum s ∷ l) (stored_table client request op ss))
]

-- ---- the prepares

-- the sum that a table shows for an op
abbrev pub sum_at : ℕ → List Header → ℕ → ℕ
sum_at slots hs op = sum_of_header (slice_get hs (op % slots))

pub sums_on : (slots base : ℕ) (hs : List Header) (h : Header) (a n e : ℕ) → a + n ≡ e → base < a → e ≤ base + slots → e % slots < length hs
    → map (sum_at slots (slice_set hs (e % slots) h)) (range_with_len a (suc n))
    ≡ map (sum_at slots hs) (range_with_len a n) ++ number_of h.checksum ∷ []
sums_on slots base hs h a zero e at above room inside =
    ap (λ (k : ℕ). sum_at slots (slice_set hs (e % slots) h) k ∷ []) (let same : a ≡ e = omega arith in same)
    ∙ ap (λ (o : Option Header). sum_of_header o ∷ []) (get_set hs (e % slots) h inside)
sums_on slots base hs h a (suc n) e at above room inside = let apart : (a % slots) ≢ (e % slots) = λ same. (
    let one : a ≡ e = one_op slots base (e % slots) a e (record { above = above; within = omega arith; slot_is = same })
    (record { above = omega arith; within = room; slot_is = refl }) in omega arith) in ap (λ (o : Option Header). sum_of_header o
    ∷ map (sum_at slots (slice_set hs (e % slots) h)) (range_with_len (a + 1) (suc n))) (get_set_other hs (e % slots) (a % slots) h apart)
    ∙ ap (λ (l : List ℕ). sum_at slots hs a ∷ l) (sums_on slots base hs h (a + 1) n e (omega arith) (omega arith) room inside)

-- ---- the whole

pub appended_memory : (s : State) (client request : ℕ) (body : List ℕ)
    → IsState s → s.head + 1 ≤ s.fields.op + s.file.layout.slots → (s.head + 1) % s.file.layout.slots < length s.headers
    → memory (with_prepare_appended s (next_unit s client request body)) ≡ appended_in (memory s) (message_of (next_unit s client request body))
appended_memory s client request body is room inside = let u : Message = next_unit s client request body in
    let t : State = with_prepare_appended s u in let T : List theory.Session → List ℕ
    → List (Option ℕ) → List ℕ → Memory = λ ss ps st ws. record (memory t) { sessions = ss; prepares = ps; stored = st; waiting = ws } in
    let sums = map (sum_at s.file.layout.slots t.headers) in
    ap (λ (ss : List theory.Session). T ss (map (prepare_sum t) (range_with_len (s.fields.op + 1) (s.head + 1 - s.fields.op)))
    (map stored_sum t.table.sessions) (map number_of t.waiting)) (noted_table (header_of u.header) s.table.sessions)
    ∙ ap (λ (n : ℕ). T (noted (header_of u.header) (sessions_of s.table.sessions)) (sums (range_with_len (s.fields.op + 1) n)) (map stored_sum t.table.sessions) (map number_of t.waiting)) (let e : s.head + 1 - s.fields.op ≡ suc (s.head - s.fields.op) = omega (arith, is.order) in e)
    ∙ ap (λ (ps : List ℕ).
    T (noted (header_of u.header) (sessions_of s.table.sessions)) ps (map stored_sum t.table.sessions) (map number_of t.waiting))
    (sums_on s.file.layout.slots s.fields.op
    s.headers u.header (s.fields.op + 1) (s.head - s.fields.op) (s.head + 1) (omega (arith, is.order)) (omega arith) room inside)
    ∙ ap (λ (st : List (Option ℕ)). T (noted (header_of u.header) (sessions_of s.table.sessions)) ((memory s).prepares
    ++ number_of u.header.checksum ∷ []) st (map number_of t.waiting)) (stored_table client request (s.head + 1) s.table.sessions)
    ∙ ap (λ (ws : List ℕ). T (noted (header_of u.header) (sessions_of s.table.sessions)) ((memory s).prepares
    ++ number_of u.header.checksum ∷ []) (unstored client (sessions_of s.table.sessions) (map stored_sum s.table.sessions)) ws)
    (map-append number_of s.waiting (u.header.checksum ∷ []))
