-- What is decided of a slot by what the table of slots says of it.
use Rattle.std.specs.Prelude.{◌≡◌, ◌<◌, ◌≤◌, ◌+◌, ◌%◌, ℕ, Option, Some, None, Result, Ok, Err}
use Rattle.df_layout.specs.{declared.damage.Class.{Class}, declared.damage.Class.TheVariants.{Stale}}
use Rattle.df_format.specs.{declared.header.Header.{Header}, Spelling.{IsCheck}}
use Rattle.df_theory.specs.Cases.{Decision, IsTake, Nothing, Seen, case, seen as seen_of_header}
use Rattle.df_units.specs.Meaning.{header_of}
use Rattle.df_buffers.specs.declared.slots.SlotSeen.{SlotSeen}
use Rattle.df_journal.specs.declared.table.Start.{Start}

-- what a ring shows, where the op is wanted in this boot
abbrev pub seen_in : ℕ → ℕ → Result Header Class → Seen
seen_in boot op (Ok h) = seen_of_header boot op (header_of h)
seen_in boot op (Err class) = Nothing

-- the decision of the one table of recovery cases
abbrev pub decision_on : ℕ → ℕ → SlotSeen → Decision
decision_on boot op seen = case (seen_in boot op seen.header) (seen_in boot op seen.prepare)

-- the checksum of a header that is shown has sixteen bytes
abbrev pub IsOfCheck : Result Header Class → Type 0
IsOfCheck (Ok h) = IsCheck h.checksum
IsOfCheck (Err class) = Unit {0}

-- so have both of a slot
abbrev pub HasChecks : SlotSeen → Type 0
HasChecks seen = IsOfCheck seen.header × IsOfCheck seen.prepare

-- the prepare with this header is taken: above the head that the superblock names by the table, and up to that head, where its checksum is known, as it is shown
pub record IsTakenPrepare (start : Start) (op : ℕ) (seen : SlotSeen) (h : Header) : Type 0 where
  pub shown : seen.prepare ≡ Ok h
  pub op_is : h.op ≡ op
  pub take : start.head < op → IsTake (decision_on start.boot op seen)

-- it is taken, or no prepare is; as an answer
abbrev pub TakesNow : Start → ℕ → SlotSeen → Option Header → Type 0
TakesNow start op seen None = (h : Header) → IsTakenPrepare start op seen h → ⊥
TakesNow start op seen (Some h) = IsTakenPrepare start op seen h

-- the class of a slot where another unit is wanted
abbrev pub class_of : Result Header Class → Class
class_of (Ok h) = Stale
class_of (Err class) = class

-- the header of a unit that is shown
abbrev pub header_of_seen : Result Header Class → Option Header
header_of_seen (Ok h) = Some h
header_of_seen (Err class) = None

-- the one op above a checkpoint's that belongs in the slot
pub record IsOpOf (n op slot o : ℕ) : Type 0 where
  pub above : op < o
  pub within : o ≤ op + n
  pub slot_is : o % n ≡ slot
