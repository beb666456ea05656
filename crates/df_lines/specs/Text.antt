-- The lines of a script's text, from the first on.
use Rattle.std.specs.{Prelude.{◌≤◌, ◌-◌, ◌==◌, ℕ, List, ◌++◌, length, Option, Some, None}, List.{before_first, after_first}}

-- the first line of a text, up to its byte 10 or the text's end
abbrev pub line_of : List ℕ → List ℕ
line_of text = before_first (λ b. b == 10) text

-- the text after its first line and the byte 10 that ends it
abbrev pub after_line : List ℕ → List ℕ
after_line text = after_first (λ b. b == 10) text

-- how many bytes the first line takes, with the byte 10 that ends it where there is one
abbrev pub taken : List ℕ → ℕ
taken text = length text - length (after_line text)

-- What a reader has of a script: the bytes that it holds already, how many bytes a line may have without its byte 10,
-- and how many bytes may still be taken.
pub record Reading : Type 0 where
  pub held : List ℕ
  pub bound : ℕ
  pub budget : ℕ

-- the first line is within the bound, and within the budget with its byte 10
pub record IsLineWithin (bound budget : ℕ) (text : List ℕ) : Type 0 where
  pub line : length (line_of text) ≤ bound
  pub all : taken text ≤ budget

-- the text that is still to be executed: what the reader holds, and what the source still has, where it tells that
abbrev pub unread : List ℕ → Option (List ℕ) → Option (List ℕ)
unread held None = None
unread held (Some left) = Some (held ++ left)
