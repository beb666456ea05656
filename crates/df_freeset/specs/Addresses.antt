-- Addresses from 1 on, each of which is taken or free: a list with true where the address is taken.
use Rattle.std.specs.Prelude.{◌≡◌, ℕ, ◌-◌, ◌≤◌, ◌<◌, Bool, true, false, List, length, Some, slice_get, count_by, not}

abbrev pub SetHasAddress : List Bool → ℕ → Type 0
SetHasAddress taken address = (1 ≤ address) × (address ≤ length taken)

abbrev pub IsTaken : List Bool → ℕ → Type 0
IsTaken taken address = slice_get taken (address - 1) ≡ Some true

abbrev pub IsFree : List Bool → ℕ → Type 0
IsFree taken address = slice_get taken (address - 1) ≡ Some false

-- the address is free, and every lower one is taken
pub record IsLeastFree (taken : List Bool) (address : ℕ) : Type 0 where
  pub has : SetHasAddress taken address
  pub free : IsFree taken address
  pub below : (lower : ℕ) → 1 ≤ lower → lower < address → IsTaken taken lower

abbrev pub AreAllTaken : List Bool → Type 0
AreAllTaken taken = (address : ℕ) → SetHasAddress taken address → IsTaken taken address

-- how many addresses are free
abbrev pub count_free : List Bool → ℕ
count_free taken = count_by not taken
