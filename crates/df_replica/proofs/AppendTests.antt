-- What an append that isn't refused may rely on, and where a client's session is found.
use Rattle.std.{proofs.{Common.{◌≡◌, inl, inr, ℕ, zero, suc, ◌^◌, ◌<◌, ◌≤◌, Bool, true, false, List, [], ◌∷◌, length, get_or, map, Option, Some, None, IsSome, refl, sym, ◌∙◌, ap, subst, arith, rules, ltb-false, eqb-true, ◌%◌}, lemmas.Bool.{cases_Bool, or_parts, not-false, eqb-false}, lemmas.List.{length-map}, lemmas.List.Quantifiers.{position-Some}, lemmas.Option.{slice_get-get_or}, Math.Nat.{mod-lt}}, specs.{Prelude.{option_map, if◌then◌else◌, IfSome}, List.{position}}}
use borrow.Author.Tests.{ltb-false}
use Rattle.{df_base.proofs.Laws.{and_false, none_passes, no_elements}, df_theory.specs.{Sessions.{MayAsk}, Units.{Header, Session}}}
use Rattle.df_sessions.specs.declared.session.Session as told
use Rattle.df_sessions.specs.{Requests.{session_of, sessions_of}, Table.{IsKnownClient, IsSessionTable, has_client, requested, with_request}}
use Rattle.df_model.{specs.Refusals.{append_refusals, first_refusal, is_new, last_op, next_request, session_of_client}, proofs.Laws.{all_pass, known_asks, new_asks, some_request}}
use Rattle.{df_journal.specs.Tail.{AreNumbered}, df_opening.specs.Below.{IsState, State, memory}}
use Rattle.df_replica.specs.{Refusing.{session_at}, Appending.{MayNext}}

-- ---- a client's session

at_first : (client : ℕ) (ss : List told.Session) (i : ℕ) (d : told.Session)
    → i < length ss → has_client client (get_or ss i d) ≡ true → ((k : ℕ) → k < i → has_client client (get_or ss k d) ≡ false)
    → session_of_client client (map session_of ss) ≡ Some (session_of (get_or ss i d))
at_first client [] i d within passes before = absurd (omega arith)
at_first client (s ∷ ss) zero d within passes before = let same : has_client client s ≡ true = passes in rw same refl
at_first client (s ∷ ss) (suc i) d within passes before = let other : has_client client s ≡ false = before 0 (omega arith) in
    rw other (at_first client ss i d (omega arith) passes (λ k h. before (suc k) (omega arith)))

at_none : (client : ℕ) (ss : List told.Session) (d : told.Session)
    → ((k : ℕ) → k < length ss → has_client client (get_or ss k d) ≡ false) → session_of_client client (map session_of ss) ≡ None
at_none client [] d none = refl
at_none client (s ∷ ss) d none = let other : has_client client s ≡ false = none 0 (omega arith) in
    rw other (at_none client ss d (λ k h. none (suc k) (omega arith)))

pub no_session : told.Session
no_session = record { client = 0; request = 0; op = 0; reply = None }

found_by : (client : ℕ) (ss : List told.Session) (o : Option ℕ)
    → position (has_client client) ss ≡ o → session_of_client client (map session_of ss) ≡ option_map session_of (session_at ss o)
found_by client ss None is = at_none client ss no_session (none_passes (has_client client) ss no_session is)
found_by client ss (Some i) is = let facts = position-Some (has_client client) ss i no_session is in
    at_first client ss i no_session facts.0 facts.1 facts.2 ∙ ap (option_map session_of) (sym (slice_get-get_or ss i no_session facts.0))

-- a client's session
pub session_found : (client : ℕ) (ss : List told.Session)
    → session_of_client client (map session_of ss) ≡ option_map session_of (session_at ss (position (has_client client) ss))
session_found client ss = found_by client ss (position (has_client client) ss) refl

known_by : (client : ℕ) (ss : List told.Session) (o : Option ℕ)
    → position (has_client client) ss ≡ o → is_new (session_of_client client (map session_of ss)) ≡ false → IsSome o
known_by client ss (Some i) is old = search rules
known_by client ss None is old = absurd (let new = ap is_new (found_by client ss None is) in cc)

-- a client that isn't new is known
pub known_client : (client : ℕ) (ss : List told.Session)
    → is_new (session_of_client client (map session_of ss)) ≡ false → IsKnownClient client ss
known_client client ss old = known_by client ss (position (has_client client) ss) refl old

pub small_session : (ss : List told.Session) (o : Option ℕ) (s : told.Session) → AreNumbered ss → session_at ss o ≡ Some s → s.request ≤ 2 ^ 62
small_session ss None s all at = absurd (cc)
small_session ss (Some i) s all at = all i s at

-- ---- what isn't refused

-- the client may make its request now
may_ask : (room client request replies : ℕ) (h : Header) (ss : List Session) (o : Option Session) → session_of_client client ss ≡ o
    → length ss ≤ room → (is_new o ≡ true → length ss ≡ room → ⊥) → last_op o ≤ replies → request ≡ next_request o
    → h.client ≡ client → h.request ≡ request → h.mark ≡ replies → MayAsk room h ss
may_ask room client request replies h ss None at few places answered next named asked mark =
    new_asks room h ss (subst (λ (n : ℕ). session_of_client n ss ≡ None) (sym named) at) (let full = places refl in omega arith) (asked ∙ next)
may_ask room client request replies h ss (Some s) at few places answered next named asked mark =
    known_asks room h ss s (subst (λ (n : ℕ). session_of_client n ss ≡ Some s) (sym named) at) few (asked ∙ next) (omega (arith, answered, mark))

pub may_next : (s : State) (client request : ℕ) (body : List ℕ) → IsState s → IsSessionTable s.table
    → s.live ≡ true → first_refusal (append_refusals (memory s) client request body) ≡ None → MayNext s client request (length body)
may_next s client request body is table live none = let tests = all_pass (append_refusals (memory s) client request body) none in
    let last = or_parts _ _ tests.1.1.1.1.1.1.1.1.0 in let rest = tests.1.1.1.1.1.1.1.1.1.0 in
    let asked = eqb-true _ _ (not-false _ tests.1.1.1.1.1.0) in record {
      live = live;
      note = record {
        unstaged = no_elements s.staged rest;
        named = (let named = eqb-false _ _ tests.0 in omega arith);
        request = (omega (arith, asked, some_request (session_of_client client (map session_of s.table.sessions))), ltb-false _ _ last.1);
        few = (let pipeline = eqb-false _ _ tests.1.1.1.1.1.1.0 in omega (arith, is.waiting, is.few));
        op = (let op = eqb-false _ _ last.0 in omega (arith, is.head_to));
        room = ltb-false _ _ tests.1.1.1.1.1.1.1.0;
        asks = λ h named same mark. may_ask s.file.layout.clients
            client request s.replies h (sessions_of s.table.sessions) (session_of_client client (sessions_of s.table.sessions)) refl
            (omega (arith, length-map s.table.sessions session_of, table.within, is.places)) (λ new.
            eqb-false _ _ (and_false _ _ tests.1.1.0 new)) (ltb-false _ _ tests.1.1.1.1.0) asked named same mark;
        place = elim (cases_Bool (is_new (session_of_client client (map session_of s.table.sessions)))) [
          | inl new ↦ inr (let full = eqb-false _ _ (and_false _ _ tests.1.1.0 new) in
              omega (arith, length-map s.table.sessions session_of, table.within, is.places))
          | inr old ↦ inl (known_client client s.table.sessions old)
        ];
      };
      fits = (let fits = ltb-false _ _ tests.1.0 in omega (arith, s.file.layout.message_size_within.0));
      first = is.first;
    }

-- ---- the requests after an append

numbered_case : (b : Bool) (client request op : ℕ) (x : told.Session) (ss : List told.Session)
    → AreNumbered (x ∷ ss) → request ≤ 2 ^ 62 → AreNumbered (with_request client request op ss)
    → AreNumbered (if b then requested client request op ∷ ss else x ∷ with_request client request op ss)
numbered_case true client request op x ss all small rest zero s at = let same : requested client request op ≡ s = cc in
    subst (λ (y : told.Session). y.request ≤ 2 ^ 62) same small
numbered_case true client request op x ss all small rest (suc k) s at = all (suc k) s at
numbered_case false client request op x ss all small rest zero s at = all 0 s at
numbered_case false client request op x ss all small rest (suc k) s at = rest k s at

pub numbered_on : (client request op : ℕ) (ss : List told.Session)
    → AreNumbered ss → request ≤ 2 ^ 62 → AreNumbered (with_request client request op ss)
numbered_on client request op [] all small zero s at = let same : requested client request op ≡ s = cc in
    subst (λ (y : told.Session). y.request ≤ 2 ^ 62) same small
numbered_on client request op [] all small (suc k) s at = absurd (cc)
numbered_on client request op (x ∷ ss) all small k s at = numbered_case (has_client client x) client request op x ss all small (λ j t there.
    numbered_on client request op ss (λ i r here. all (suc i) r here) small j t there) k s at

pub each_small : (o : Option told.Session) → ((s : told.Session) → o ≡ Some s → s.request ≤ 2 ^ 62) → IfSome o (λ s. s.request ≤ 2 ^ 62)
each_small None small = tt
each_small (Some s) small = small s refl

-- the slot of an op fits its field
pub small_slot : (op slots : ℕ) → 0 < slots → slots ≤ 1024 → op % slots < 2 ^ 32
small_slot op slots some few = omega (arith, mod-lt op some, few)
