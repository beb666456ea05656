-- What the sectors of a disk hold, and what a write makes of them.
use Rattle.std.specs.Prelude.{◌≡◌, ◌<◌, ◌+◌, ◌-◌, ◌*◌, ◌%◌, ◌==◌, ℕ, zero, suc, Bool, ◌&&◌, nat_le, nat_lt, if◌then◌else◌, List, [], ◌∷◌, ◌++◌, length, take, drop, replicate, slice_index}
use Rattle.df_base.specs.declared.TheConstants.{SECTOR}

-- the bytes of each sector, by the sector's number
abbrev pub Image : Type 0
Image = ℕ → List ℕ

-- the bytes of one sector: 4096 numbers below 256
pub record IsSector (bytes : List ℕ) : Type 0 where
  pub size : length bytes ≡ SECTOR
  pub each : (i : ℕ) → slice_index bytes i < 256

-- each sector of the image holds the bytes of a sector
pub record IsImage (image : Image) : Type 0 where
  pub sectors : (sector : ℕ) → IsSector (image sector)

-- zeros, which a sector that was never written holds
unfoldable pub blank : Image
blank sector = replicate SECTOR 0

-- the bytes of a write: one sector or more, all of them whole
pub record IsPiece (bytes : List ℕ) : Type 0 where
  pub some : 0 < length bytes
  pub whole : length bytes % SECTOR ≡ 0
  pub each : (i : ℕ) → slice_index bytes i < 256

-- a write of these bytes from sector at on has bytes for this sector
unfoldable pub covers : ℕ → List ℕ → ℕ → Bool
covers at bytes sector = nat_le at sector && nat_lt (SECTOR * (sector - at)) (length bytes)

-- an image after a write of these bytes from sector at on
unfoldable pub written : ℕ → List ℕ → Image → Image
written at bytes image sector = if covers at bytes sector then take SECTOR (drop (SECTOR * (sector - at)) bytes) else image sector

-- an image after these sectors were changed, one after the other
abbrev pub changed : List (ℕ × List ℕ) → Image → Image
changed [] image = image
changed (c ∷ cs) image = changed cs (λ sector. if sector == c.0 then c.1 else image sector)

-- the bytes of n sectors from sector at on
abbrev pub bytes_at : Image → ℕ → ℕ → List ℕ
bytes_at image at zero = []
bytes_at image at (suc n) = image at ++ bytes_at image (at + 1) n
