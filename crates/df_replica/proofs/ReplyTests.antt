-- What a reply that isn't refused may rely on: the session of the prepare that waits the longest, and its place.
use Rattle.std.{proofs.{Common.{◌≡◌, ◌≢◌, ◌∙◌, ℕ, zero, suc, ◌+◌, ◌<◌, ◌==◌, true, false, List, [], ◌∷◌, length, map, Option, Some, None, refl, sym, ap, subst, arith, ltb-false}, lemmas.Bool.{eq-eqb, ne_eqb, eqb-false}, lemmas.Option.{slice_get-map, slice_get_within, same_Some}}, specs.{Prelude.{option_map}, List.{AllByRecursion, slice_get}}}
use Rattle.df_sessions.specs.declared.session.Session as told
use Rattle.df_sessions.{specs.{Requests.{session_of, sessions_of}, Table.{clients_of}}, proofs.Laws.{session_at}}
use Rattle.{df_theory.specs.Units.{Session}, df_opening.specs.Below.{IsState, State, memory}}
use Rattle.df_model.{specs.{Making.{place_of_op}, Refusals.{first_refusal, reply_refusals}}, proofs.Laws.{all_pass, op_found}}
use Rattle.df_replica.specs.Replying.{MayReplyNext, place_waiting, session_waiting}

-- ---- where an op's session is found

-- none of the first k sessions has the op
abbrev pub LackBefore : ℕ → List told.Session → ℕ → Type 0
LackBefore op ss k = (i : ℕ) (t : told.Session) → i < k → slice_get ss i ≡ Some t → t.op ≢ op

-- it is the first that has the op
pub first_place : (op : ℕ) (ss : List told.Session) (k : ℕ) (s : told.Session)
    → slice_get ss k ≡ Some s → s.op ≡ op → LackBefore op ss k → k ≡ place_of_op op (map session_of ss)
first_place op [] k s at is before = absurd (let none : None ≡ Some s = at in cc)
first_place op (x ∷ ss) zero s at is before =
    let same : (x.op == op) ≡ true = eq-eqb x.op op (ap (λ (t : told.Session). t.op) (let one : x ≡ s = same_Some _ _ at in one) ∙ is) in
    rw same refl
first_place op (x ∷ ss) (suc k) s at is before = let other : (x.op == op) ≡ false = ne_eqb x.op op (before 0 x (omega arith) refl) in
    rw other (ap (λ (n : ℕ). suc n) (first_place op ss k s at is (λ i t below there. before (suc i) t (omega (arith, below)) there)))

pub no_place : (op : ℕ) (ss : List told.Session) → LackBefore op ss (length ss) → length ss ≡ place_of_op op (map session_of ss)
no_place op [] none = refl
no_place op (x ∷ ss) none = let other : (x.op == op) ≡ false = ne_eqb x.op op (none 0 x (omega arith) refl) in
    rw other (ap (λ (n : ℕ). suc n) (no_place op ss (λ i t below there. none (suc i) t (omega (arith, below)) there)))

-- ---- the session that waits

module _ (s : State) (is : IsState s) (waits : s.replies < s.head) where
  -- it is in the table
  pub waiting_there : (t : Session) × (session_waiting s ≡ Some t) × (t.op ≡ s.replies + 1)
  waiting_there =
      op_found (s.replies + 1) (sessions_of s.table.sessions) (is.tracks.pending (s.replies + 1) (omega arith) (omega (arith, waits)))

  pub waiting_told : (r : told.Session) × (slice_get s.table.sessions (place_waiting s) ≡ Some r) × (session_waiting s ≡ Some (session_of r))
  waiting_told = of (slice_get s.table.sessions (place_waiting s)) refl
    where
      of : (o : Option told.Session) → slice_get s.table.sessions (place_waiting s) ≡ o
          → (r : told.Session) × (slice_get s.table.sessions (place_waiting s) ≡ Some r) × (session_waiting s ≡ Some (session_of r))
      of (Some r) at = (r, at, session_at s.table.sessions (place_waiting s) r at)
      of None at = absurd (let none : None ≡ Some waiting_there.0 = sym (slice_get-map session_of s.table.sessions (place_waiting s)
          ∙ ap (option_map session_of) at) ∙ waiting_there.1 in cc)

  pub place_inside : place_waiting s < length s.table.sessions
  place_inside = slice_get_within s.table.sessions (place_waiting s) waiting_told.0 waiting_told.1

-- a client of the table has a number
pub client_named : (ss : List told.Session) (k : ℕ) (s : told.Session)
    → AllByRecursion (λ client. client ≢ 0) (clients_of ss) → slice_get ss k ≡ Some s → s.client ≢ 0
client_named [] k s all at = absurd (cc)
client_named (x ∷ ss) zero s all at = let one : x ≡ s = cc in subst (λ (t : told.Session). t.client ≢ 0) one all.0
client_named (x ∷ ss) (suc k) s all at = client_named ss k s all.1 at

-- ---- what isn't refused

pub reply_waits : (s : State) (op : ℕ) (body : List ℕ)
    → IsState s → first_refusal (reply_refusals (memory s) op body) ≡ None → s.replies < s.head
reply_waits s op body is none = let tests = all_pass (reply_refusals (memory s) op body) none in let some = eqb-false _ _ tests.0 in
    omega (arith, is.waiting)

pub may_reply : (s : State) (op : ℕ) (body : List ℕ)
    → IsState s → s.live ≡ true → first_refusal (reply_refusals (memory s) op body) ≡ None → MayReplyNext s (length body)
may_reply s op body is live none = let tests = all_pass (reply_refusals (memory s) op body) none in record {
  live = live;
  waits = reply_waits s op body is none;
  fits = (let fits = ltb-false _ _ tests.1.1.0 in omega (arith, s.file.layout.message_size_within.0));
}
