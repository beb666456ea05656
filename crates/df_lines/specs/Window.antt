-- The bytes that were read of a source and are still to be taken.
use Rattle.std.specs.{Prelude.{◌≡◌, ◌<◌, ◌≤◌, ◌+◌, ◌==◌, ◌⊎◌, ℕ, Bool, IsTrue, List, [], length}, List.{position_or_len}}
use Rattle.df_lines.specs.{declared.window.Found.{Found}, Room.{Contents}}
use Rattle.df_lines.specs.declared.window.Found.TheVariants as founds

-- the byte 10 ends a line
abbrev pub is_feed : ℕ → Bool
is_feed byte = byte == 10

-- where the first byte 10 stands, or how many bytes there are where none does
abbrev pub line_end : List ℕ → ℕ
line_end bytes = position_or_len is_feed bytes

-- a line of this size is whole: it ends before a byte 10 or with the source, and the buffer has room for a byte more
pub record IsWholeLine (window : Contents) (size taken : ℕ) : Type 0 where
  pub line : size ≡ line_end window.bytes
  pub fits : size < window.size
  pub ends : ((size < length window.bytes) × (taken ≡ size + 1))
      ⊎ (IsTrue window.ended × (size ≡ length window.bytes) × (taken ≡ size) × (0 < size))

-- the buffer is full, and has no byte 10
pub record IsOverfull (window : Contents) : Type 0 where
  pub none : line_end window.bytes ≡ length window.bytes
  pub full : window.size ≤ length window.bytes

-- nothing is held, and the source has ended
pub record IsSpentWindow (window : Contents) : Type 0 where
  pub none : window.bytes ≡ []
  pub ended : IsTrue window.ended

-- what the window has of the next line
abbrev pub FindsLine : Contents → Found → Type 0
FindsLine window (founds.Line line taken) = IsWholeLine window line taken
FindsLine window founds.TooLong = IsOverfull window
FindsLine window founds.End = IsSpentWindow window
