-- What the buffers of a reader hold.
use Rattle.std.specs.Prelude.{◌≡◌, ℕ, Bool, false, IsTrue, List, [], ◌+◌, ◌*◌, ◌/◌, ◌^◌, max, length, Option, Some, None, ⊤}
use Rattle.df_layout.specs.declared.layout.Layout.{Layout}
use Rattle.df_lines.specs.Text.{Reading, unread}

-- the bytes that a buffer of this size holds, and whether the source has said that it has ended
pub record Contents : Type 0 where
  pub bytes : List ℕ
  pub size : ℕ
  pub ended : Bool

-- a reader: what it has of the script, whether the source has said that it has ended, and the buffer of the bodies
pub record ReaderParts : Type 0 where
  pub reading : Reading
  pub ended : Bool
  pub body : List ℕ

-- how many bytes a line may have over a file of this layout, its byte 10 aside: the longest body's digits, and 64 more
abbrev pub line_bound : Layout → ℕ
line_bound layout = 2 * max layout.message_size layout.block_size + 64

-- a reader for lines of at most this many bytes that has read nothing
pub record IsFresh (bound : ℕ) (room : ReaderParts) : Type 0 where
  pub reading : room.reading ≡ record { held = []; bound = bound; budget = 2 ^ 32 }
  pub ended : room.ended ≡ false
  pub body : length room.body ≡ bound / 2 + 1

-- nothing is left, where that is told
abbrev pub IsAtEnd : Option (List ℕ) → Type 0
IsAtEnd None = ⊤
IsAtEnd (Some left) = left ≡ []

-- This text is still to be executed, and a source that has said that it has ended has nothing left.
pub record HasTextToCome (room : ReaderParts) (left : Option (List ℕ)) (text : List ℕ) : Type 0 where
  pub is : unread room.reading.held left ≡ Some text
  pub ended : IsTrue room.ended → IsAtEnd left
