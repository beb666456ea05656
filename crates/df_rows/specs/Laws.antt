-- What holds of rows, commands, lines and blocks.
use Rattle.std.specs.Prelude.{◌≡◌, ℕ, ◌<◌, ◌≤◌, List, ◌++◌, All}
use Rattle.std.specs.FinMap as map
use Rattle.df_layout.specs.declared.layout.Layout.{Layout}
use Rattle.df_rows.specs.{declared.command.Command.{Command}, Rows.{Entry, IsEntry, row_of}, Commands.{IsCommand, Map, body_of, all_applied}, Tables.{Table}, Limits.{FitsLayout, most_rows}}
use Rattle.df_rows.specs.{Blocks.{TakesAll, bodies_of}, Grammar.{Said, SaysTableLine}}

-- 64 bytes are one row, and a body is one command
abbrev pub OneRow : Type 0
OneRow = (one other : Entry) → IsEntry one → IsEntry other → row_of one ≡ row_of other → one ≡ other

abbrev pub OneCommand : Type 0
OneCommand = (one other : Command) → IsCommand one → IsCommand other → body_of one ≡ body_of other → one ≡ other

-- a line says one thing
abbrev pub OneTableLineMeaning : Type 0
OneTableLineMeaning = (line : List ℕ) (one other : Said) → SaysTableLine line one → SaysTableLine line other → one ≡ other

-- commands, and then others
abbrev pub InTurn : Type 0
InTurn = (some more : List Command) (rows : Map) → all_applied (some ++ more) rows ≡ all_applied more (all_applied some rows)

-- the blocks of a table, read into an empty one, are the table
abbrev pub BlocksAreTable : Type 0
BlocksAreTable = (per : ℕ) (t : Table) → 0 < per → All IsEntry (map.entries t.rows) → map.len t.rows ≤ t.max
    → TakesAll (record { max = t.max; rows = map.empty }) (bodies_of per (map.entries t.rows)) t

-- blocks are one table
abbrev pub OneTable : Type 0
OneTable = (t one other : Table) (bodies : List (List ℕ)) → TakesAll t bodies one → TakesAll t bodies other → one ≡ other

-- a table of as many rows as a layout allows fits its blocks
abbrev pub TablesFit : Type 0
TablesFit = (layout : Layout) (rows : ℕ) → rows ≤ most_rows layout → FitsLayout layout rows
