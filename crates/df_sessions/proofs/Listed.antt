-- A list of sessions whose clients have names and differ is a table.
use Rattle.std.{proofs.{Common.{◌≡◌, ◌≢◌, ℕ, suc, ◌≤◌, false, inl, inr, Some, List, [], ◌∷◌, length, refl, arith}, lemmas.Bool.{cases_Bool, eqb-true}}, specs.{Prelude.{nat_eq}, List.{AllByRecursion, IsDistinct, slice_get}}}
use Rattle.df_sessions.specs.{declared.session.Session.{Session}, Table.{AreDistinctClients, AreNamed, IsSessionTable, clients_of}}

named_all : (ss : List Session) → AreNamed ss → AllByRecursion (λ client. client ≢ 0) (clients_of ss)
named_all [] named = tt
named_all (s ∷ ss) named = (named 0 s refl, named_all ss (λ k t at. named (suc k) t at))

-- a client that none of these has
other_than : (client : ℕ) (ss : List Session) → ((k : ℕ) (s : Session) → slice_get ss k ≡ Some s → client ≡ s.client → ⊥)
    → AllByRecursion (λ y. nat_eq client y ≡ false) (clients_of ss)
other_than client [] other = tt
other_than client (s ∷ ss) other = (
  elim (cases_Bool (nat_eq client s.client)) [ inl same ↦ absurd (other 0 s refl (eqb-true client s.client same)) | inr differs ↦ differs ],
  other_than client ss (λ k t at. other (suc k) t at),
)

apart_distinct : (ss : List Session) → AreDistinctClients ss → IsDistinct nat_eq (clients_of ss)
unfolding IsDistinct
apart_distinct [] apart = tt
apart_distinct (s ∷ ss) apart = (
  other_than s.client ss (λ k t at same. first k (apart 0 (suc k) s t refl at same)),
  apart_distinct ss (λ j k t u one two same. down j k (apart (suc j) (suc k) t u one two same)),
)
  where
    first : (k : ℕ) → 0 ≡ suc k → ⊥
    first k e = omega arith

    down : (j k : ℕ) → suc j ≡ suc k → j ≡ k
    down j k e = omega arith

pub listed_table : (max : ℕ) (ss : List Session)
    → 1 ≤ max → max ≤ 64 → length ss ≤ max → AreNamed ss → AreDistinctClients ss → IsSessionTable (record { max = max; sessions = ss })
listed_table max ss some most few named apart =
    record { some = some; most = most; within = few; distinct = apart_distinct ss apart; named = named_all ss named }
