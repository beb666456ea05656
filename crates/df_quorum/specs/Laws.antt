-- The laws of the choice, for every content of every copy.
use Rattle.std.specs.Prelude.{◌≡◌, ◌<◌, ◌⊎◌, ℕ, Some}
use Rattle.df_format.specs.Copies.{Content, rank_of_copy}
use Rattle.df_quorum.specs.Quorum.{Copies, CopiesAgree, IsChosenContent}

abbrev pub OneLaw : Type 0
OneLaw = (copies : Copies) (c d : Content) → IsChosenContent copies c → IsChosenContent copies d → c ≡ d

-- all copies but at most one show the content
abbrev pub ThreeLaw : Type 0
ThreeLaw = (copies : Copies) (c : Content) (odd : ℕ) → ((n : ℕ) → n < 4 → (n ≡ odd → ⊥) → copies n ≡ Some c) → IsChosenContent copies c

abbrev pub TwoLaw : Type 0
TwoLaw = (copies : Copies) (c : Content) (a b : ℕ) → a < 4 → b < 4 → (a ≡ b → ⊥) → copies a ≡ Some c → copies b ≡ Some c
    → ((d : Content) → CopiesAgree copies d → (d ≡ c) ⊎ (rank_of_copy d < rank_of_copy c)) → IsChosenContent copies c

abbrev pub SameLaw : Type 0
SameLaw = (one two : Copies) (c : Content) → ((n : ℕ) → n < 4 → one n ≡ two n) → IsChosenContent one c → IsChosenContent two c
