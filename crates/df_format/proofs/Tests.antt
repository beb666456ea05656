-- Tests of numbers and checksums, each with what it decides.
use Rattle.std.{proofs.{Common.{inl, inr, ◌≡◌, ◌≤◌, ◌==◌, ◌||◌, ℕ, Bool, not, List}, lemmas.Bool.{or_cases, or_left, or_right, both_ways, not-true, not_from_false, leb-true, le-leb, eq-eqb, ne_eqb, cases_eq}, lemmas.Bool.Decides.{Decides-like}, lemmas.Slice.Eq.{bytes_eq-Decides}}, specs.{Prelude.{nat_le}, Bool.{Decides}, Str.{bytes_eq}}}

pub at_most : (a b : ℕ) → Decides (nat_le a b) (a ≤ b)
at_most a b = (leb-true a b, le-leb a b)

-- a checksum that has to be another one where two numbers are equal
pub same_where : (n m : ℕ) (checksum other : List ℕ) → Decides (not (n == m) || bytes_eq checksum other) (n ≡ m → checksum ≡ other)
same_where n m checksum other = (
  λ is equal. elim (or_cases _ _ is) [
    | inl differ ↦ absurd (both_ways _ (not-true _ differ) (eq-eqb n m equal))
    | inr same ↦ (bytes_eq-Decides checksum other).0 same
  ],
  λ same. elim (cases_eq n m) [
    | inl equal ↦ or_right _ _ ((bytes_eq-Decides checksum other).1 (same equal))
    | inr differ ↦ or_left _ _ (not_from_false _ (ne_eqb n m differ))
  ],
)

-- what is decided, in other words
pub told : {P Q : Type 0} (r : Bool) → Decides r P → (P → Q) → (Q → P) → Decides r Q
told r is to from = Decides-like r to from is
