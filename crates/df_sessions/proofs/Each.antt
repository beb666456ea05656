-- What holds of each session, and the ops of the sessions.
use Rattle.std.{proofs.{Common.{◌≡◌, ℕ, zero, suc, ◌<◌, Bool, false, inl, inr, Some, List, [], ◌∷◌, refl, ap, arith, IsTrue}, lemmas.Bool.{cases_Bool, eqb-true, and_parts}}, specs.{Prelude.{nat_eq}, List.{AllByRecursion, IsDistinct, list_all}}}
use Rattle.df_sessions.specs.{declared.session.Session.{Session}, Table.{has_client, ops_of, requested, with_request, with_reply_stored}}

pub passes_requested : (test : Session → Bool) (client request op : ℕ) (sessions : List Session) → IsTrue (list_all test sessions)
    → IsTrue (test (requested client request op)) → IsTrue (list_all test (with_request client request op sessions))
passes_requested test client request op [] all here = rw here refl
passes_requested test client request op (s ∷ sessions) all here = let parts = and_parts (test s) (list_all test sessions) all in
    elim (cases_Bool (has_client client s)) [
      | inl same ↦ rw (same, here) parts.1
      | inr other ↦ rw (other, parts.0) (passes_requested test client request op sessions parts.1 here)
    ]

pub passes_replied : (test : Session → Bool) (place : ℕ) (reply : List ℕ) (sessions : List Session)
    → ((s : Session) → IsTrue (test s) → IsTrue (test (record s { reply = Some reply })))
    → IsTrue (list_all test sessions) → IsTrue (list_all test (with_reply_stored place reply sessions))
passes_replied test place reply [] keeps all = refl
passes_replied test zero reply (s ∷ sessions) keeps all = let parts = and_parts (test s) (list_all test sessions) all in
    rw (keeps s parts.0) parts.1
passes_replied test (suc place) reply (s ∷ sessions) keeps all = let parts = and_parts (test s) (list_all test sessions) all in
    rw parts.0 (passes_replied test place reply sessions keeps parts.1)

-- a test of each op, as the sessions' and the request's pass it
all_ops : (P : ℕ → Type 0) (client request op : ℕ) (sessions : List Session)
    → P op → AllByRecursion P (ops_of sessions) → AllByRecursion P (ops_of (with_request client request op sessions))
all_ops P client request op [] here all = (here, tt)
all_ops P client request op (s ∷ sessions) here all = elim (cases_Bool (has_client client s)) [
  | inl same ↦ rw same (here, all.1)
  | inr other ↦ rw other (all.0, all_ops P client request op sessions here all.1)
]

-- a greater op differs from these
differs : (op : ℕ) (ops : List ℕ) → AllByRecursion (λ other. other < op) ops → AllByRecursion (λ y. nat_eq op y ≡ false) ops
differs op [] low = tt
differs op (o ∷ ops) low = (apart op o low.0, differs op ops low.1)
  where
    apart : (op o : ℕ) → o < op → nat_eq op o ≡ false
    apart op o h = elim (cases_Bool (nat_eq op o)) [ inl same ↦ absurd (let e : op ≡ o = eqb-true op o same in omega arith) | inr other ↦ other ]

pub ops_requested : (client request op : ℕ) (sessions : List Session) → AllByRecursion (λ other. other < op) (ops_of sessions)
    → IsDistinct nat_eq (ops_of sessions) → IsDistinct nat_eq (ops_of (with_request client request op sessions))
unfolding IsDistinct
ops_requested client request op [] low distinct = (tt, tt)
ops_requested client request op (s ∷ sessions) low distinct = elim (cases_Bool (has_client client s)) [
  | inl same ↦ rw same (differs op (ops_of sessions) low.1, distinct.1)
  | inr other ↦ let apart : nat_eq s.op op ≡ false = not_same s.op op low.0 in
      rw other (all_ops (λ y. nat_eq s.op y ≡ false) client request op sessions apart distinct.0, ops_requested client request op sessions low.1 distinct.1)
]
  where
    not_same : (o op : ℕ) → o < op → nat_eq o op ≡ false
    not_same o op h =
        elim (cases_Bool (nat_eq o op)) [ inl same ↦ absurd (let e : o ≡ op = eqb-true o op same in omega arith) | inr other ↦ other ]

pub ops_replied : (place : ℕ) (reply : List ℕ) (sessions : List Session) → ops_of (with_reply_stored place reply sessions) ≡ ops_of sessions
ops_replied place reply [] = refl
ops_replied zero reply (s ∷ sessions) = refl
ops_replied (suc place) reply (s ∷ sessions) = ap (λ (ops : List ℕ). s.op ∷ ops) (ops_replied place reply sessions)
