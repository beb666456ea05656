-- What the four copies of the superblock agree on.
use Rattle.std.specs.Prelude.{◌≡◌, ◌⊎◌, ◌<◌, ◌≤◌, ◌+◌, ◌*◌, ℕ, Some}
use Rattle.df_theory.specs.Units.{CopyPlace, Content, CopyUnit, Units}

-- the order of contents: by sequence, and by boot where these are equal; a boot is below 2^64
abbrev pub rank_of : Content → ℕ
rank_of c = 18446744073709551616 * c.sequence + c.boot

-- d is the next content after c
abbrev pub IsNextContent : Content → Content → Type 0
IsNextContent c d = ((d.sequence ≡ c.sequence + 1) × (d.boot ≡ c.boot)) ⊎ ((d.sequence ≡ c.sequence) × (d.boot ≡ c.boot + 1))

-- two copies show this content
pub record Agree (image : Units) (c : Content) : Type 0 where
  pub first : ℕ
  pub second : ℕ
  pub apart : first < second
  pub inside : second < 4
  pub at_first : image (CopyPlace first) ≡ Some (CopyUnit c)
  pub at_second : image (CopyPlace second) ≡ Some (CopyUnit c)

-- the greatest content on which at least two copies agree; where two tie, the one of the lowest-numbered copy
pub record IsChosen (image : Units) (c : Content) : Type 0 where
  pub agreed : Agree image c
  pub greatest : (d : Content) → Agree image d → rank_of d ≤ rank_of c
  pub lowest : (d : Content) → Agree image d → rank_of d ≡ rank_of c → (n : ℕ) → n < 4 → image (CopyPlace n) ≡ Some (CopyUnit d) → (k : ℕ) × (k ≤ n) × (image (CopyPlace k) ≡ Some (CopyUnit c))

-- no two copies agree
abbrev pub IsSplit : Units → Type 0
IsSplit image = (c : Content) → Agree image c → ⊥
