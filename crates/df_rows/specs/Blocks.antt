-- The blocks of a table, and the table of blocks.
use Rattle.std.specs.{Prelude.{◌≡◌, ℕ, List, [], ◌∷◌, length, map, All}, Fork.{slice_chunk}, List.{range_with_len}}
use Rattle.df_rows.specs.{Rows.{Entry, IsEntry, rows_of}, Limits.{block_count}, Tables.{Table, AreNew, with_rows}}

-- rows in chunks of this many; the last may have fewer
abbrev pub chunks_of : (per : ℕ) → List Entry → List (List Entry)
chunks_of per entries = map (λ k. slice_chunk entries per k) (range_with_len 0 (block_count per (length entries)))

-- the bodies of the blocks of these rows
abbrev pub bodies_of : (per : ℕ) → List Entry → List (List ℕ)
bodies_of per entries = map rows_of (chunks_of per entries)

-- the body is these rows, whole, and the table takes them
pub record TableTakes (t : Table) (body : List ℕ) (entries : List Entry) : Type 0 where
  pub whole : body ≡ rows_of entries
  pub fit : All IsEntry entries
  pub new : AreNew entries t

-- the table after the bodies of blocks, each of which it takes
abbrev pub TakesAll : Table → List (List ℕ) → Table → Type 0
TakesAll t [] new = new ≡ t
TakesAll t (body ∷ bodies) new = (entries : List Entry) × TableTakes t body entries × TakesAll (with_rows entries t) bodies new
