-- Where a request and a reply change the list of sessions.
use Rattle.std.{proofs.{Common.{◌≡◌, ◌≢◌, ℕ, zero, suc, ◌<◌, Bool, true, false, Some, None, List, [], ◌∷◌, ◌++◌, length, get_or, set, refl, arith, rules, ap}, lemmas.Bool.{eq-eqb}, lemmas.List.{get_or-set_same, get_or-set_other, get_or_push, get_or_append_left, length-set, length_push}, lemmas.List.Quantifiers.{position-Some}, lemmas.List.Sums.{position_or_len_is}, lemmas.Option.{slice_get-get_or}}, specs.{Prelude.{nat_lt}, List.{position, position_or_len, slice_get}}}
use Rattle.df_base.proofs.Laws.{none_passes}
use Rattle.df_sessions.specs.{declared.session.Session.{Session}, Table.{has_client, requested, with_request, with_reply_stored}}

-- the first place whose element passes
pub record IsFirst {X : Type 0} (p : X → Bool) (xs : List X) (i : ℕ) (d : X) : Type 0 where
  pub within : i < length xs
  pub passes : p (get_or xs i d) ≡ true
  pub none_before : (k : ℕ) → k < i → p (get_or xs k d) ≡ false

pub first_place : {X : Type 0} (p : X → Bool) (xs : List X) (i : ℕ) (d : X) → position p xs ≡ Some i → IsFirst p xs i d
first_place p xs i d is = let facts = position-Some p xs i d is in record { within = facts.0; passes = facts.1; none_before = facts.2 }

-- the place that is found is one
pub no_gap : (client : ℕ) (ss : List Session) (k : ℕ) → position (has_client client) ss ≡ Some k → slice_get ss k ≡ None → ⊥
no_gap client ss k is none = let d : Session = record { client = 0; request = 0; op = 0; reply = None } in
    let some = slice_get-get_or ss k d (first_place (has_client client) ss k d is).within in cc

pub place_is_first : {X : Type 0} (p : X → Bool) (xs : List X) (i : ℕ) (d : X) → IsFirst p xs i d → position p xs ≡ Some i
place_is_first p xs i d first =
    let same : position_or_len p xs ≡ i = position_or_len_is p xs i d (omega arith) first.none_before (λ _. first.passes) in
    let inside : nat_lt i (length xs) ≡ true = search (rules, first.within) in rw (same, inside) refl

-- where the client has a session, it is replaced at its place
request_at : (client request op : ℕ) (sessions : List Session) (i : ℕ) (d : Session) → i < length sessions
    → has_client client (get_or sessions i d) ≡ true → ((k : ℕ) → k < i → has_client client (get_or sessions k d) ≡ false)
    → with_request client request op sessions ≡ set sessions i (requested client request op)
request_at client request op [] i d within passes before = absurd (omega arith)
request_at client request op (s ∷ sessions) zero d within passes before = let same : has_client client s ≡ true = passes in rw same refl
request_at client request op (s ∷ sessions) (suc i) d within passes before =
    let other : has_client client s ≡ false = before 0 (omega arith) in rw other (ap (λ (all : List Session).
    s ∷ all) (request_at client request op sessions i d (omega arith) passes (λ k h. before (suc k) (omega arith))))

pub request_known : (client request op : ℕ) (sessions : List Session) (i : ℕ) (d : Session) → IsFirst (has_client client) sessions i d
    → with_request client request op sessions ≡ set sessions i (requested client request op)
request_known client request op sessions i d first = request_at client request op sessions i d first.within first.passes first.none_before

-- where it has none, its session goes last
request_unknown : (client request op : ℕ) (sessions : List Session) (d : Session)
    → ((k : ℕ) → k < length sessions → has_client client (get_or sessions k d) ≡ false)
    → with_request client request op sessions ≡ sessions ++ requested client request op ∷ []
request_unknown client request op [] d none = refl
request_unknown client request op (s ∷ sessions) d none = let other : has_client client s ≡ false = none 0 (omega arith) in
    rw other (ap (λ (all : List Session). s ∷ all) (request_unknown client request op sessions d (λ k h. none (suc k) (omega arith))))

pub request_new : (client request op : ℕ) (sessions : List Session) (d : Session) → position (has_client client) sessions ≡ None
    → with_request client request op sessions ≡ sessions ++ requested client request op ∷ []
request_new client request op sessions d none = request_unknown client request op sessions d (none_passes (has_client client) sessions d none)

-- the client's place after its request
pub place_known : (client request op : ℕ) (sessions : List Session) (i : ℕ) (d : Session) → IsFirst (has_client client) sessions i d
    → position (has_client client) (with_request client request op sessions) ≡ Some i
place_known client request op sessions i d first =
    let is : with_request client request op sessions ≡ set sessions i (requested client request op) =
    request_known client request op sessions i d first in let within : i < length sessions = first.within in
    let passes : has_client client (get_or (set sessions i (requested client request op)) i d) ≡ true =
    rw (get_or-set_same sessions i (requested client request op) d within) (eq-eqb client client refl) in
    rw is (place_is_first (has_client client) (set sessions i (requested client request op)) i d (record {
      within = rw length-set within;
      passes = passes;
      none_before = λ k h. let other : k ≢ i = omega arith in
          rw (get_or-set_other sessions i k (requested client request op) d other) (first.none_before k h);
    }))

pub place_new : (client request op : ℕ) (sessions : List Session) (d : Session) → position (has_client client) sessions ≡ None
    → position (has_client client) (with_request client request op sessions) ≡ Some (length sessions)
place_new client request op sessions d none =
    let is : with_request client request op sessions ≡ sessions ++ requested client request op ∷ [] =
    request_new client request op sessions d none in
    rw is (place_is_first (has_client client) (sessions ++ requested client request op ∷ []) (length sessions) d (record {
      within = omega (arith, length_push sessions (requested client request op));
      passes = rw (get_or_push sessions (requested client request op) d (length sessions) refl) (eq-eqb client client refl);
      none_before = λ k h.
          rw (get_or_append_left sessions (requested client request op ∷ []) d k h) (none_passes (has_client client) sessions d none k h);
    }))

-- a stored reply changes the session at its place
pub reply_at : (place : ℕ) (reply : List ℕ) (sessions : List Session) (d : Session) → place < length sessions
    → with_reply_stored place reply sessions ≡ set sessions place (record (get_or sessions place d) { reply = Some reply })
reply_at place reply [] d within = absurd (omega arith)
reply_at zero reply (s ∷ sessions) d within = refl
reply_at (suc place) reply (s ∷ sessions) d within = ap (λ (all : List Session). s ∷ all) (reply_at place reply sessions d (omega arith))

-- what is at a place that is written, and at the others
pub get_set_same : (sessions : List Session) (i : ℕ) (s : Session) → i < length sessions → slice_get (set sessions i s) i ≡ Some s
get_set_same [] i s within = absurd (omega arith)
get_set_same (t ∷ sessions) zero s within = refl
get_set_same (t ∷ sessions) (suc i) s within = get_set_same sessions i s (omega arith)

pub get_set_other : (sessions : List Session) (i k : ℕ) (s : Session) → k ≢ i → slice_get (set sessions i s) k ≡ slice_get sessions k
get_set_other [] i k s other = refl
get_set_other (t ∷ sessions) zero zero s other = absurd (other refl)
get_set_other (t ∷ sessions) zero (suc k) s other = refl
get_set_other (t ∷ sessions) (suc i) zero s other = refl
get_set_other (t ∷ sessions) (suc i) (suc k) s other = get_set_other sessions i k s (λ e. other (ap suc e))

pub get_push_last : (sessions : List Session) (s : Session) → slice_get (sessions ++ s ∷ []) (length sessions) ≡ Some s
get_push_last [] s = refl
get_push_last (t ∷ sessions) s = get_push_last sessions s

pub get_push_other : (sessions : List Session) (k : ℕ) (s : Session)
    → k ≢ length sessions → slice_get (sessions ++ s ∷ []) k ≡ slice_get sessions k
get_push_other [] zero s other = absurd (other refl)
get_push_other [] (suc k) s other = refl
get_push_other (t ∷ sessions) zero s other = refl
get_push_other (t ∷ sessions) (suc k) s other = get_push_other sessions k s (λ e. other (ap suc e))
