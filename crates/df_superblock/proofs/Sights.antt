-- What the places of the copies show after a write of one copy, and what a stop leaves of them.
use Rattle.std.proofs.Common.{◌≡◌, ℕ, false, ◌||◌, List, Some, ap}
use Rattle.df_base.{specs.{Image.{Image, covers, written}, Log.{Write, Log, add, loose, now}}, proofs.Laws.{written_else}}
use Rattle.df_format.specs.Copies.{Content, content_at, content_in_copy, copy_at, copy_in, if_here}

-- one sector decides what a place shows
pub seen_same : (one two : Image) (n : ℕ) → one n ≡ two n → content_at one n ≡ content_at two n
unfolding copy_at
seen_same one two n same = ap (λ (bytes : List ℕ). content_in_copy (if_here n (copy_in bytes))) same

pub seen_apart : (at : ℕ) (bytes : List ℕ) (image : Image) (n : ℕ)
    → covers at bytes n ≡ false → content_at (written at bytes image) n ≡ content_at image n
seen_apart at bytes image n out = seen_same (written at bytes image) image n (written_else at bytes image n out)

-- ---- a write of one copy

-- these bytes, written from sector n on, are a copy of this content and touch no other place
pub record PutsCopy (n : ℕ) (bytes : List ℕ) (c : Content) : Type 0 where
  pub shows : (image : Image) → content_at (written n bytes image) n ≡ Some c
  pub alone : (m : ℕ) → (m ≡ n → ⊥) → covers n bytes m ≡ false

pub loose_wrote : (log : Log) (k n : ℕ) (bytes : List ℕ) (e : Content)
    → PutsCopy k bytes e → (n ≡ k → ⊥) → loose log n ≡ false → loose (add (Write k bytes) log) n ≡ false
loose_wrote log k n bytes e put away firm = λ i. put.alone n away i || firm i

-- ---- what a stop leaves

-- the image has what the log leaves in each sector that isn't loose
abbrev pub Keeps : Log → Image → Type 0
Keeps log image = (sector : ℕ) → loose log sector ≡ false → image sector ≡ now log sector

pub firm_shows : (log : Log) (image : Image) (n : ℕ) → Keeps log image → loose log n ≡ false → content_at image n ≡ content_at (now log) n
firm_shows log image n keeps firm = seen_same image (now log) n (keeps n firm)
