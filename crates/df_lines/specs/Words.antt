-- The words of a line.
use Rattle.std.specs.{Prelude.{◌≡◌, ◌==◌, ℕ, Bool, List, ◌∷◌, ◌++◌, length, Option, position}, List.{before_first, after_first, position_or_len}}

-- a space, the byte 32
abbrev pub is_space : ℕ → Bool
is_space byte = byte == 32

-- where the first space stands
abbrev pub space_in : List ℕ → Option ℕ
space_in line = position is_space line

-- no byte is a space
abbrev pub HasNoSpace : List ℕ → Type 0
HasNoSpace line = position_or_len is_space line ≡ length line

-- the bytes before the first space, and those after it
pub record Cuts (line before after : List ℕ) : Type 0 where
  pub whole : line ≡ before ++ (32 ∷ after)
  pub front : before ≡ before_first is_space line
  pub rest : after ≡ after_first is_space line
