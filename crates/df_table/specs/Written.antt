-- The table of a view whose blocks were written in a log: what an image that is left shows, where it shows the blocks that the view references.
use Rattle.std.specs.Prelude.{ℕ, List}
use Rattle.df_damage.specs.Written.{IsWritten}
use Rattle.df_theory.specs.{UnitLog.{UnitLog}, View.{View}}
use Rattle.df_rows.specs.Tables.{Table}
use Rattle.df_session.specs.Below.{DataFile}
use Rattle.df_table.specs.Table.{HasBlockBody, HaveBodies, IsTableBy}

-- a block with this checksum, no trailer's, was written at this address, and this is its body
abbrev pub WroteBody : UnitLog → (ℕ × ℕ) → List ℕ → Type 0
WroteBody log x body = HasBlockBody (IsWritten log) x body

abbrev pub WroteBodies : UnitLog → List (ℕ × ℕ) → List (List ℕ) → Type 0
WroteBodies log references bodies = HaveBodies (IsWritten log) references bodies

-- the table of a view, the blocks of which were written in the log
abbrev pub IsTableIn : DataFile → UnitLog → View → Table → Type 0
IsTableIn file log v t = IsTableBy (IsWritten log) file v t
