-- How bits and checksums stand in a reader's rooms, and what they say of the blocks.
use Rattle.std.specs.{Prelude.{◌≡◌, ℕ, ◌+◌, ◌-◌, ◌/◌, ◌%◌, ◌≤◌, ◌==◌, if◌then◌else◌, List, [], map, get_or, replicate, Option, Some, None, slice_index}, Int.{bit_at, to_le_bytes, w64}}
use Rattle.df_base.specs.Fields.{field_at}
use Rattle.df_sessions.specs.declared.session.Session as table
use Rattle.df_theory.specs.Units as model
use Rattle.df_trailer.specs.{declared.parts.Parts.{Parts}, Spelling.{listed}, Text.{bits_in}}

-- one of the eight bytes of a word
abbrev pub byte_of_word : ℕ → ℕ → ℕ
byte_of_word word place = slice_index (to_le_bytes w64 word) place

-- a byte of words that stand one after the other
abbrev pub byte_in_words : List ℕ → ℕ → ℕ
byte_in_words words place = byte_of_word (slice_index words (place / 8)) (place % 8)

-- the first bytes of words, as one number
abbrev pub bits_in_words : ℕ → List ℕ → ℕ
bits_in_words bytes words = bits_in (listed (byte_in_words words) bytes)

-- a byte of checksums that stand one after the other
abbrev pub byte_in_checks : List (List ℕ) → ℕ → ℕ
byte_in_checks checks place = slice_index (get_or checks (place / 16) []) (place % 16)

-- a session of the table, as a trailer has it
abbrev pub trailer_session : table.Session → model.Session
trailer_session s = record { client = s.client; request = s.request; op = s.op }

-- a session of a trailer, as the table has it while no reply is stored
abbrev pub without_reply : model.Session → table.Session
without_reply s = record { client = s.client; request = s.request; op = s.op; reply = None }

-- what the parts say of the block at an address
abbrev pub reference_in : ℕ → Parts → ℕ → Option ℕ
reference_in blocks parts address =
    if bit_at (bits_in_words ((blocks + 7) / 8) parts.bits.items) (address - 1) == 1 then Some (field_at 16 0 (get_or parts.checks.items (address - 1) [])) else None

-- these are the parts of a trailer, in the reader's rooms
pub record AreParts (l : model.Layout) (parts : Parts) (said : model.Parts) : Type 0 where
  pub root : parts.root.items ≡ said.root
  pub sessions : parts.sessions.items ≡ map without_reply said.sessions
  pub references : (address : ℕ) → 1 ≤ address → address ≤ l.blocks → reference_in l.blocks parts address ≡ said.references address
  -- zeros stand where no block is referenced
  pub zeros : (address : ℕ) → 1 ≤ address → address ≤ l.blocks → said.references address ≡ None → get_or parts.checks.items (address - 1) [] ≡ replicate 16 0

-- a checksum as the number that its bytes spell
abbrev pub number_in : Option (List ℕ) → Option ℕ
number_in None = None
number_in (Some check) = Some (field_at 16 0 check)
