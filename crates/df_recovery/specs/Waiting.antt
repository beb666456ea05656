-- The checksums of the prepares that wait for their replies, by the table of slots and the header table of an open.
use Rattle.std.specs.{Prelude.{◌+◌, ◌-◌, ◌%◌, ◌==◌, ℕ, nat_lt, if◌then◌else◌, List, [], map, slice_get, Option, Some, None}, List.{range_with_len}}
use Rattle.df_format.specs.{Spelling.{no_checksum}, declared.header.Header.{Header}}
use Rattle.df_theory.specs.Units.{PreparePlace, Units}
use Rattle.df_model.specs.Work.{checksum_of_op}
use Rattle.df_journal.specs.{Scan.{Scan, entry}, Seen.{header_of_seen}}
use Rattle.df_rooms.specs.State.{State, prepare_sum}

-- the checksum of a header
abbrev pub header_checksum : Option Header → List ℕ
header_checksum None = []
header_checksum (Some h) = h.checksum

abbrev pub known_sum : List Header → ℕ → List ℕ
known_sum headers slot = header_checksum (slice_get headers slot)

-- that of the prepare with this op, where the slot showed it, and zeros where it didn't
abbrev pub shown_sum : ℕ → Option Header → List ℕ
shown_sum op None = no_checksum
shown_sum op (Some h) = if h.op == op then h.checksum else no_checksum

-- of an op above the checkpoint's that of the header table of a ring of n, and of any other one that of what its slot showed
abbrev pub waiting_at : ℕ → Scan → List Header → ℕ → List ℕ
waiting_at n scan headers op = if nat_lt scan.start.op op then known_sum headers (op % n) else shown_sum op (header_of_seen (entry scan (op % n)).prepare)

-- those of the prepares above the stored replies, up to the head
abbrev pub waiting_in : ℕ → Scan → List Header → (replies head : ℕ) → List (List ℕ)
waiting_in n scan headers replies head = map (waiting_at n scan headers) (range_with_len (replies + 1) (head - replies))

-- the same rule in the words of the machine, of the image that was read
abbrev pub waiting_sum : State → Units → ℕ → ℕ
waiting_sum s image op = if nat_lt s.fields.op op then prepare_sum s op else checksum_of_op op (image (PreparePlace (op % s.file.layout.slots)))
