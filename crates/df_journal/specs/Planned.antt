-- What is decided of a slot once the head is known.
use Rattle.std.specs.Prelude.{◌==◌, ◌%◌, nat_le, nat_lt, ℕ, Bool, false, not, if◌then◌else◌, List, Option, Some, Result, Ok, Err}
use Rattle.df_layout.specs.declared.damage.Class.{Class}
use Rattle.df_format.specs.declared.header.Header.{Header}
use Rattle.df_theory.specs.{Units.{AnyUnit, HeaderPlace, HeaderUnit, PreparePlace, PrepareUnit, Units}, Cases.{Decision, Lost, Take, cut, decided}}
use Rattle.df_units.specs.Meaning.{number_of}
use Rattle.df_buffers.specs.declared.slots.SlotSeen.{SlotSeen}
use Rattle.df_journal.specs.{declared.table.Start.{Start}, Seen.{decision_on, seen_in}}

-- the header ring shows the header with this checksum
abbrev pub shows_header : ℕ → Option AnyUnit → Bool
shows_header checksum (Some (HeaderUnit h)) = h.checksum == checksum
shows_header checksum x = false

-- the prepare that the superblock names is taken from its slot, whatever the table says of it; its header is mended where it isn't that prepare's
abbrev pub named : Option AnyUnit → Option AnyUnit → Decision
named header (Some (PrepareUnit p)) = Take (not (shows_header p.header.checksum header))
named header x = Lost

-- up to the head that the superblock names its prepare, and above it what the table says once this head is known
abbrev pub planned : ℕ → Start → ℕ → Units → ℕ → Decision
planned n start top image o = if nat_le o start.head then named (image (HeaderPlace (o % n))) (image (PreparePlace (o % n))) else decided n start.boot top image o

-- ---- by what the table of slots says of it

-- the header ring shows the header with this checksum
abbrev pub has_header_of : List ℕ → Result Header Class → Bool
has_header_of checksum (Ok h) = number_of h.checksum == number_of checksum
has_header_of checksum (Err class) = false

abbrev pub named_by : Result Header Class → Result Header Class → Decision
named_by header (Ok h) = Take (not (has_header_of h.checksum header))
named_by header (Err class) = Lost

-- the decision on the slot of a prepare that the superblock names
abbrev pub named_on : SlotSeen → Decision
named_on seen = named_by seen.header seen.prepare

-- the decision on a slot where the op is wanted, with this head found
abbrev pub planned_on : Start → ℕ → ℕ → SlotSeen → Decision
planned_on start top op seen =
    if nat_le op start.head then named_on seen else (if nat_lt top op then cut (seen_in start.boot op seen.header) (decision_on start.boot op seen) else decision_on start.boot op seen)
