-- What a kind of line is to its reader.
use Rattle.std.specs.Prelude.{ℕ, List}

-- A grammar of lines: what a line may say, with its body, and which line says it; what was read of a line, whose body is at the front of a
-- buffer, and how many bytes of that the body has.
pub record Grammar (L : Type 0) : Type 1 where
  pub Said : Type 0
  pub says : List ℕ → Said → Type 0
  pub said_with : List ℕ → L → Said
  pub body_length : L → ℕ
