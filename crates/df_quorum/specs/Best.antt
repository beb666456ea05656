-- The choice as it is made, one copy after the other.
use Rattle.std.specs.Prelude.{◌≡◌, ◌<◌, ◌≤◌, ◌⊎◌, ◌==◌, ◌&&◌, ◌||◌, ℕ, Bool, nat_lt, if◌then◌else◌, Option, Some, None}
use Rattle.df_format.specs.Copies.{Content, rank_of_copy}
use Rattle.df_quorum.specs.Quorum.{Copies}

-- another copy shows this content too
pub record HasOtherCopy (copies : Copies) (n : ℕ) (c : Content) : Type 0 where
  pub other : ℕ
  pub inside : other < 4
  pub apart : other ≡ n → ⊥
  pub shown : copies other ≡ Some c

-- the copy of this number shows the content, and so does another one
abbrev pub IsCandidate : Copies → ℕ → Content → Type 0
IsCandidate copies n c = (copies n ≡ Some c) × HasOtherCopy copies n c

-- the content for which the copy of this number speaks, where another one agrees
abbrev pub Votes : Copies → ℕ → Option Content → Type 0
Votes copies n None = (c : Content) → IsCandidate copies n c → ⊥
Votes copies n (Some c) = IsCandidate copies n c

-- a pair of sequence and boot is below another: by sequence, and by boot where these are equal
abbrev pub is_below : ℕ → ℕ → ℕ → ℕ → Bool
is_below sequence boot other_sequence other_boot = nat_lt sequence other_sequence || ((sequence == other_sequence) && nat_lt boot other_boot)

-- of two contents the one of greater rank, the first where they tie
abbrev pub better_of : Option Content → Option Content → Option Content
better_of None next = next
better_of (Some c) None = Some c
better_of (Some c) (Some d) = if nat_lt (rank_of_copy c) (rank_of_copy d) then Some d else Some c

-- this content ranks below the other, or ties with it and stands no lower
abbrev pub RanksBelow : Content → ℕ → Content → ℕ → Type 0
RanksBelow d i c k = (rank_of_copy d < rank_of_copy c) ⊎ ((rank_of_copy d ≡ rank_of_copy c) × (k ≤ i))

-- the candidate of copy k is the best of those of the first n copies
pub record BestAt (copies : Copies) (n : ℕ) (c : Content) (k : ℕ) : Type 0 where
  pub within : k < n
  pub candidate : IsCandidate copies k c
  pub best : (i : ℕ) (d : Content) → i < n → IsCandidate copies i d → RanksBelow d i c k

-- the best candidate of the first n copies
abbrev pub Best : Copies → ℕ → Option Content → Type 0
Best copies n None = (i : ℕ) (d : Content) → i < n → IsCandidate copies i d → ⊥
Best copies n (Some c) = (k : ℕ) × BestAt copies n c k
