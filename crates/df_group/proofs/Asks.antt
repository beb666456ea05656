-- The client's session, as the theory sees it.
use Rattle.std.{proofs.{Common.{◌≡◌, inl, inr, ℕ, zero, suc, ◌+◌, ◌-◌, ◌<◌, ◌≤◌, ◌↔◌, ◌⊎◌, Bool, true, false, List, [], ◌∷◌, length, get_or, Some, None, Option, refl, ap, subst, arith}, lemmas.Bool.{cases_Bool, eqb-true, eq-eqb}, lemmas.List.Sums.{fails_before_first}, lemmas.Option.{get_or_from_slice_get}}, specs.{List.{position, position_or_len, slice_get}, Prelude.{nat_lt}}}
use borrow.Author.Tests.{ltb-false}
use Rattle.{df_format.specs.declared.header.Header.{Header}, df_theory.specs.Sessions.{MayAsk, noted}, df_units.specs.Meaning.{header_of}}
use Rattle.df_sessions.{specs.{declared.session.Session.{Session}, Requests.{session_of, sessions_of}, Table.{IsKnownClient, has_client, with_request}}, proofs.Laws.{IsFirst, first_place}}
use Rattle.df_theory.specs.Units

-- a request is noted as the theory notes it
pub noted_is : (h : Header) (ss : List Session) → sessions_of (with_request h.client h.request h.op ss) ≡ noted (header_of h) (sessions_of ss)
noted_is h [] = refl
noted_is h (s ∷ ss) = elim (cases_Bool (has_client h.client s)) [
  | inl same ↦ rw same refl
  | inr other ↦ rw other (ap (λ (all : List Units.Session). session_of s ∷ all) (noted_is h ss))
]

-- what is asked of the client's own session
abbrev pub Follows : Session → Header → Type 0
Follows s h = (h.request ≡ s.request + 1) × (s.op ≤ h.mark)

another : (client : ℕ) (s : Session) → has_client client s ≡ false → s.client ≡ client → ⊥
another client s other same = let is : has_client client s ≡ true = eq-eqb s.client client same in cc

asks_at : (room : ℕ) (h : Header) (ss : List Session) (k : ℕ) (d : Session)
    → length ss ≤ room → k < length ss → has_client h.client (get_or ss k d) ≡ true
    → ((j : ℕ) → j < k → has_client h.client (get_or ss j d) ≡ false) → MayAsk room (header_of h) (sessions_of ss) ↔ Follows (get_or ss k d) h
asks_at room h [] k d fits within passes before = absurd (omega arith)
asks_at room h (s ∷ ss) zero d fits within passes before = let same : s.client ≡ h.client = eqb-true s.client h.client passes in
    (λ asks. elim asks [ inl own ↦ (own.1, own.2) | inr more ↦ absurd (more.0 same) ], λ follows. inl (same, follows.0, follows.1))
asks_at room h (s ∷ ss) (suc k) d fits within passes before =
    let other : s.client ≡ h.client → ⊥ = another h.client s (before 0 (omega arith)) in
    let rest : (left : ℕ) → length ss ≤ left → MayAsk left (header_of h) (sessions_of ss) ↔ Follows (get_or ss k d) h =
    λ left le. asks_at left h ss k d le (omega arith) passes (λ j less. before (suc j) (omega arith)) in (
      λ asks. elim asks [ inl own ↦ absurd (other own.0) | inr more ↦ (rest more.1 (omega (arith, more.2))).0 more.3 ],
      λ follows. inr (other, room - 1, omega arith, (rest (room - 1) (omega arith)).1 follows),
    )

pub asks_known : (room : ℕ) (h : Header) (ss : List Session) (k : ℕ) (s : Session)
    → length ss ≤ room → position (has_client h.client) ss ≡ Some k → slice_get ss k ≡ Some s
    → MayAsk room (header_of h) (sessions_of ss) ↔ Follows s h
asks_known room h ss k s fits is at = let first : IsFirst (has_client h.client) ss k s = first_place (has_client h.client) ss k s is in
    let here : get_or ss k s ≡ s = get_or_from_slice_get ss k s s at in subst (λ (x : Session).
    MayAsk room (header_of h) (sessions_of ss) ↔ Follows x h) here (asks_at room h ss k s fits first.within first.passes first.none_before)

none_passes : (p : Session → Bool) (xs : List Session) (d : Session) → position p xs ≡ None → (k : ℕ) → k < length xs → p (get_or xs k d) ≡ false
none_passes p xs d none k within = elim (cases_Bool (nat_lt (position_or_len p xs) (length xs))) [
  | inl inside ↦ let some : position p xs ≡ Some (position_or_len p xs) = (rw inside refl) in cc
  | inr outside ↦ fails_before_first p xs k d (omega (arith, ltb-false (position_or_len p xs) (length xs) outside))
]

asks_last : (room : ℕ) (h : Header) (ss : List Session) (d : Session) → ((k : ℕ) → k < length ss → has_client h.client (get_or ss k d) ≡ false)
    → MayAsk room (header_of h) (sessions_of ss) ↔ ((h.request ≡ 1) × (length ss < room))
asks_last room h [] d none = (λ asks. asks, λ asks. asks)
asks_last room h (s ∷ ss) d none = let other : s.client ≡ h.client → ⊥ = another h.client s (none 0 (omega arith)) in
    let rest : (left : ℕ) → MayAsk left (header_of h) (sessions_of ss) ↔ ((h.request ≡ 1) × (length ss < left)) =
    λ left. asks_last left h ss d (λ j less. none (suc j) (omega arith)) in (
      λ asks. elim asks [ inl own ↦ absurd (other own.0) | inr more ↦ (let is = (rest more.1).0 more.3 in (is.0, omega (arith, is.1, more.2))) ],
      λ may. inr (other, room - 1, omega (arith, may.1), (rest (room - 1)).1 (may.0, omega (arith, may.1))),
    )

pub asks_new : (room : ℕ) (h : Header) (ss : List Session)
    → position (has_client h.client) ss ≡ None → MayAsk room (header_of h) (sessions_of ss) ↔ ((h.request ≡ 1) × (length ss < room))
asks_new room h ss none = let d : Session = record { client = 0; request = 0; op = 0; reply = None } in
    asks_last room h ss d (none_passes (has_client h.client) ss d none)

-- a client that may ask has a place, or there is one
pub asks_room : (room : ℕ) (h : Header) (ss : List Session)
    → MayAsk room (header_of h) (sessions_of ss) → IsKnownClient h.client ss ⊎ (length ss < room)
asks_room room h ss asks = by (position (has_client h.client) ss) refl
  where
    by : (o : Option ℕ) → position (has_client h.client) ss ≡ o → IsKnownClient h.client ss ⊎ (length ss < room)
    by (Some k) is = inl (rw is refl)
    by None is = inr ((asks_new room h ss is).0 asks).1

-- the same by another word for the room
pub asks_within : (room places : ℕ) (h : Header) (ss : List Session)
    → room ≡ places → MayAsk room (header_of h) (sessions_of ss) → IsKnownClient h.client ss ⊎ (length ss < places)
asks_within room places h ss same asks = rw same at (asks_room room h ss asks)
