-- A request and a stored reply keep what is always so of a table.
use Rattle.std.{proofs.{Common.{Option, Some, None, IsSome, ◌∙◌, ◌≡◌, ◌≢◌, ℕ, zero, suc, ◌+◌, ◌<◌, ◌≤◌, ◌⊎◌, inl, inr, false, List, [], ◌∷◌, length, refl, arith, ap, sym}, lemmas.List.{length-set}, lemmas.Bool.{cases_Bool, eqb-true}}, specs.{Prelude.{nat_eq}, List.{AllByRecursion, IsDistinct, position}}}
use Rattle.df_sessions.{specs.{declared.session.Session.{Session}, Table.{IsSessionTable, IsKnownClient, clients_of, has_client, requested, with_request, with_reply_stored}}, proofs.Places.{first_place, request_known}}

-- what holds of each client, and of a request's, holds after the request
all_requested : (P : ℕ → Type 0) (client request op : ℕ) (sessions : List Session) → P client → AllByRecursion P (clients_of sessions)
    → AllByRecursion P (clients_of (with_request client request op sessions))
all_requested P client request op [] here all = (here, tt)
all_requested P client request op (s ∷ sessions) here all = elim (cases_Bool (has_client client s)) [
  | inl same ↦ rw same (here, all.1)
  | inr other ↦ rw other (all.0, all_requested P client request op sessions here all.1)
]

distinct_requested : (client request op : ℕ) (sessions : List Session) → IsDistinct nat_eq (clients_of sessions)
    → IsDistinct nat_eq (clients_of (with_request client request op sessions))
unfolding IsDistinct
distinct_requested client request op [] distinct = (tt, tt)
distinct_requested client request op (s ∷ sessions) distinct = elim (cases_Bool (has_client client s)) [
  | inl same ↦ let e : s.client ≡ client = eqb-true s.client client same in rw same (rw e at distinct)
  | inr other ↦ rw other (all_requested (λ y. nat_eq s.client y ≡ false) client request op sessions other distinct.0, distinct_requested client request op sessions distinct.1)
]

-- a known client takes no further place
length_at : (client request op : ℕ) (sessions : List Session) (place : Option ℕ) → position (has_client client) sessions ≡ place → IsSome place
    → length (with_request client request op sessions) ≡ length sessions
length_at client request op sessions None is some = cc
length_at client request op sessions (Some i) is some = let d : Session = requested client request op in
    ap length (request_known client request op sessions i d (first_place (has_client client) sessions i d is)) ∙ length-set sessions i d

length_known : (client request op : ℕ) (sessions : List Session)
    → IsKnownClient client sessions → length (with_request client request op sessions) ≡ length sessions
length_known client request op sessions known = length_at client request op sessions (position (has_client client) sessions) refl known

length_most : (client request op : ℕ) (sessions : List Session) → length (with_request client request op sessions) ≤ length sessions + 1
length_most client request op [] = omega arith
length_most client request op (s ∷ sessions) = elim (cases_Bool (has_client client s)) [
  | inl same ↦ rw same (omega arith)
  | inr other ↦ rw other (omega (arith, length_most client request op sessions))
]

within : (client request op : ℕ) (sessions : List Session) (max : ℕ)
    → length sessions ≤ max → IsKnownClient client sessions ⊎ (length sessions < max)
    → length (with_request client request op sessions) ≤ max
within client request op sessions max fits room = elim room [
  | inl known ↦ omega (arith, length_known client request op sessions known)
  | inr left ↦ omega (arith, length_most client request op sessions)
]

pub request_keeps : (max client request op : ℕ) (sessions : List Session)
    → IsSessionTable (record { max = max; sessions = sessions }) → client ≢ 0 → IsKnownClient client sessions ⊎ (length sessions < max)
    → IsSessionTable (record { max = max; sessions = with_request client request op sessions })
request_keeps max client request op sessions is named room = record {
  some = is.some;
  most = is.most;
  within = within client request op sessions max is.within room;
  distinct = distinct_requested client request op sessions is.distinct;
  named = all_requested (λ c. c ≢ 0) client request op sessions named is.named;
}

-- a stored reply changes no client
pub clients_replied : (place : ℕ) (reply : List ℕ) (sessions : List Session)
    → clients_of (with_reply_stored place reply sessions) ≡ clients_of sessions
clients_replied place reply [] = refl
clients_replied zero reply (s ∷ sessions) = refl
clients_replied (suc place) reply (s ∷ sessions) = ap (λ (cs : List ℕ). s.client ∷ cs) (clients_replied place reply sessions)

length_replied : (place : ℕ) (reply : List ℕ) (sessions : List Session) → length (with_reply_stored place reply sessions) ≡ length sessions
length_replied place reply [] = refl
length_replied zero reply (s ∷ sessions) = refl
length_replied (suc place) reply (s ∷ sessions) = ap suc (length_replied place reply sessions)

pub reply_keeps : (max place : ℕ) (reply : List ℕ) (sessions : List Session) → IsSessionTable (record { max = max; sessions = sessions })
    → IsSessionTable (record { max = max; sessions = with_reply_stored place reply sessions })
reply_keeps max place reply sessions is = let clients = clients_replied place reply sessions in record {
  some = is.some;
  most = is.most;
  within = omega (arith, length_replied place reply sessions);
  distinct = rw (sym clients) at is.distinct;
  named = rw (sym clients) at is.named;
}

pub empty_keeps : (max : ℕ) → 1 ≤ max → max ≤ 64 → IsSessionTable (record { max = max; sessions = [] })
unfolding IsDistinct
empty_keeps max some most = record { some = some; most = most; within = omega arith; distinct = tt; named = tt }
