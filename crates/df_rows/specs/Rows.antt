-- The bytes of a row of a table.
use Rattle.std.specs.{Prelude.{ℕ, ◌-◌, ◌^◌, ◌<◌, ◌≤◌, List, [], ◌∷◌, length, replicate}, List.{flat_map}}
use Rattle.df_base.specs.{Text.{Piece, text}, Text.Piece.{Byte, Number, Bytes}}

-- a key and its value
abbrev pub Entry : Type 0
Entry = ℕ × List ℕ

-- the bytes of the longest value
abbrev pub longest_value : ℕ
longest_value = 47

-- a key has 16 bytes, and a value at most 47
pub record IsEntry (e : Entry) : Type 0 where
  pub key : e.0 < 2 ^ 128
  pub value : length e.1 ≤ longest_value

-- what stands in front of a row's zeros, with a value of this many bytes: its key, how many bytes its value has, and the value
abbrev pub row_pieces : ℕ → List (Piece Entry)
row_pieces size = Number 16 (λ e. e.0) ∷ Byte (λ e. length e.1) ∷ Bytes size (λ e. e.1) ∷ []

-- the 64 bytes of a row: its pieces, and zeros
abbrev pub row_of : Entry → List ℕ
row_of e = text (row_pieces (length e.1)) e (replicate (longest_value - length e.1) 0)

-- rows, one after the other
abbrev pub rows_of : List Entry → List ℕ
rows_of entries = flat_map row_of entries
