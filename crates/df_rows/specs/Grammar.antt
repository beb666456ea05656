-- What one line of a table's script says.
use Rattle.std.specs.Prelude.{◌≡◌, ℕ, ◌^◌, ◌<◌, List, [], ◌∷◌, take, codes, decimal, ⊤}
use Rattle.df_lines.specs.{Grammar.{IsBody, spaced}, Kind.{Grammar}}
use Rattle.df_rows.specs.declared.line.Line.{Line}
use Rattle.df_rows.specs.declared.line.Line.TheVariants as lines

-- a line, with its value
pub data Said : Type 0 where
  Put : (key : ℕ) (value : List ℕ) → Said
  Drop : (key : ℕ) → Said
  Get : (key : ℕ) → Said
  Count : Said

-- The words of a line, where this word stands for its value. A key is its decimal digits, with no zero before them.
abbrev pub table_line_words : Said → List ℕ → List (List ℕ)
table_line_words (Put key value) word = codes "put" ∷ decimal key ∷ word ∷ []
table_line_words (Drop key) word = codes "drop" ∷ decimal key ∷ []
table_line_words (Get key) word = codes "get" ∷ decimal key ∷ []
table_line_words Count word = codes "count" ∷ []

-- a key is below 2^128, and this word stands for the value
abbrev pub FitsTableLine : Said → List ℕ → Type 0
FitsTableLine (Put key value) word = (key < 2 ^ 128) × IsBody word value
FitsTableLine (Drop key) word = key < 2 ^ 128
FitsTableLine (Get key) word = key < 2 ^ 128
FitsTableLine Count word = ⊤

-- The line says this. How long a value may be is no matter of the grammar: a longer one is refused.
pub record SaysTableLine (line : List ℕ) (said : Said) : Type 0 where
  pub word : List ℕ
  pub is : line ≡ spaced (table_line_words said word)
  pub fits : FitsTableLine said word

-- what was read of a line, with its value at the front of the buffer
abbrev pub said_with : List ℕ → Line → Said
said_with buffer (lines.Put key n) = Put key (take n buffer)
said_with buffer (lines.Drop key) = Drop key
said_with buffer (lines.Get key) = Get key
said_with buffer lines.Count = Count

-- how many bytes of the buffer are the line's value
abbrev pub value_length : Line → ℕ
value_length (lines.Put key n) = n
value_length line = 0

-- all of this, for a reader
abbrev pub table_lines : Grammar Line
table_lines = record { Said = Said; says = SaysTableLine; said_with = said_with; body_length = value_length }
