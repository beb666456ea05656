-- What a run has around it, and which of it failed.
use Rattle.std.specs.Prelude.{◌≡◌, ℕ, List, Option}
use Rattle.df_model.specs.declared.errors.OpenError.{OpenError}
use Rattle.df_program.specs.One as one
use Rattle.df_program.specs.One.{Faults}
use Rattle.df_program.specs.Telling as telling
use Rattle.df_program.specs.declared.turn.Turn as turns
use Rattle.df_table.specs.{declared.status.Status.{Status}, declared.status.Status.TheVariants.{DiskFault, Memory, ReadFault, Refused, Words, WriteFault}}
pub use Rattle.df_program.specs.{One.{Faults, NoneFailed, Outside, around, back, counts, failed, seen}, Telling.{Blames}}

-- each fault has its cause
abbrev pub HasTableCauses : (before now : Faults) → Status → Type 0
HasTableCauses before now status = one.HasCausesOfOne DiskFault ReadFault WriteFault before now status

-- what becomes of a session by one turn
abbrev pub Step : Type 0
Step = turns.Turn Status

-- a text is written, and the call ends with this status; or a front of the text is there, where the sink failed
abbrev pub WritesTableText : List ℕ → Status → Option (List ℕ) → Option (List ℕ) → Status → Type 0
WritesTableText text given old new status = telling.Writes WriteFault text given old new status

-- why a file isn't opened: the refusal's line is written; a failing disk has none
abbrev pub PrintsTableError : OpenError → (old new : Option (List ℕ)) → Status → Type 0
PrintsTableError error old new status = telling.PrintsError Refused DiskFault WriteFault error old new status

-- it ended by what it did with the file: neither for want of memory nor for its words
abbrev pub EndsWithFile : Status → Type 0
EndsWithFile status = (status ≡ Memory → ⊥) × (status ≡ Words → ⊥)
