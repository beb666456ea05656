-- What a run has around it: the disk, the source of the script and the sink of the answers; and which of them failed.
use Rattle.std.specs.Prelude.{◌≡◌, ℕ, List, Option, Result}
use Rattle.df_program.specs.One as one
use Rattle.df_program.specs.{One.{Faults}, Telling.{Writes}}
use Rattle.df_program.specs.Telling as telling
use Rattle.df_program.specs.declared.turn.Turn as turns
use Rattle.df_top.specs.{declared.status.Status.{Status}, declared.status.Status.TheVariants.{Done, DiskFault, Memory, ReadFault, Script, Words, WriteFault}}
pub use Rattle.df_program.specs.{One.{Faults, NoneFailed, Outside, around, back, counts, failed, seen}, Telling.{Blames}}

-- each fault has its cause
abbrev pub HasCauses : (before now : Faults) → Status → Type 0
HasCauses before now status = one.HasCausesOfOne DiskFault ReadFault WriteFault before now status

-- what becomes of a session by one turn
abbrev pub Turn : Type 0
Turn = turns.Turn Status

-- a text is printed and the call ends with this status, or a front of the text is there where the sink failed
abbrev pub PrintsLine : List ℕ → Status → Option (List ℕ) → Option (List ℕ) → Status → Type 0
PrintsLine line given old new status = Writes WriteFault line given old new status

-- how a call ends that prints
abbrev pub status_or : {T E : Type 0} → Status → Result T E → Status
status_or given result = telling.status_or WriteFault given result

-- it ended by what it did with the file: neither for want of memory nor for its words
abbrev pub EndsWithFile : Status → Type 0
EndsWithFile status = (status ≡ Memory → ⊥) × (status ≡ Words → ⊥)

-- nothing failed: the script came to its end, or its next line was refused
abbrev pub IsThrough : Status → Type 0
IsThrough Done = Unit {0}
IsThrough Script = Unit {0}
IsThrough status = ⊥
