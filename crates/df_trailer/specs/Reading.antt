-- What a reader keeps of a text, and what fails in that.
use Rattle.std.specs.Prelude.{◌≡◌, ℕ, ◌+◌, ◌-◌, ◌*◌, ◌/◌, ◌^◌, ◌<◌, ◌≤◌, ◌==◌, nat_lt, nat_le, Bool, true, not, if◌then◌else◌, List, [], ◌∷◌, ◌++◌, length, Option, Some, None, slice_index}
use Rattle.std.specs.Int.{bit_at}
use Rattle.df_base.specs.Fields.{field_at}
use Rattle.df_layout.specs.declared.layout.Layout as file
use Rattle.df_layout.specs.declared.fields.Field.TheVariants.{TrailerBits, TrailerEnd}
use Rattle.df_theory.specs.Units.{Layout}
use Rattle.df_units.specs.Meaning.{layout_of}
use Rattle.df_model.specs.Refusals.{first_refusal}
use Rattle.df_trailer.specs.{Rooms.{byte_in_checks, byte_in_words}, Spelling.{bits_size, listed}, Text.{bits_in, bits_of, fails, head_end, head_tests, is_whole, ones}}
use Rattle.df_trailer.specs.{declared.fault.Failing.{Failing}, declared.fault.Cause.TheVariants.{Ends, Says}, declared.reader.Reader.{Reader}}

-- a text whose head is this, with these bits after it as far as this many bytes go
pub record IsTextFront (l : Layout) (text head bits : List ℕ) (behind : ℕ) : Type 0 where
  pub rest : List ℕ
  pub is : text ≡ head ++ rest
  pub size : behind ≡ length rest
  pub fits : length head ≤ head_end head
  pub whole : 0 < length rest → is_whole head ≡ true
  pub room : length bits ≡ (l.blocks + 7) / 8
  pub bits_are : (i : ℕ) → i < length rest → i < length bits → slice_index bits i ≡ slice_index rest i

-- the bytes after head and bits, as far as they came
abbrev pub AreChecksKept : List ℕ → ℕ → List ℕ → Type 0
AreChecksKept text at checks = (i : ℕ) → i < length checks → at + i < length text → slice_index checks i ≡ slice_index text (at + i)

-- the tests of the bits after a head of this many bytes: as many bytes as they need, which are this number
abbrev pub bits_tests : (blocks head size bits behind : ℕ) → List (Bool × Failing)
bits_tests blocks head size bits behind =
    (nat_lt behind size, fails Ends TrailerBits (head + behind))
    ∷ (nat_le (2 ^ blocks) bits, fails Says TrailerBits (head + size - 1))
    ∷ []

-- the test of the end: this many bytes in all
abbrev pub end_tests : (blocks head size bits behind : ℕ) → List (Bool × Failing)
end_tests blocks head size bits behind = (not (behind == size + 16 * ones (bits_of blocks bits)), fails Ends TrailerEnd (head + behind)) ∷ []

-- the tests of what comes after a head
abbrev pub rest_tests : (blocks head size bits behind : ℕ) → List (Bool × Failing)
rest_tests blocks head size bits behind = bits_tests blocks head size bits behind ++ end_tests blocks head size bits behind

-- the first that fails
abbrev pub failing_of : Layout → ℕ → List ℕ → List ℕ → ℕ → Option Failing
failing_of l op head bits behind = first_refusal (head_tests l.clients op head ++ rest_tests l.blocks (length head) (bits_size l) (bits_in bits) behind)

-- the bytes of the bits and of the checksums, in a reader's rooms
abbrev pub bits_room : Reader → List ℕ
bits_room r = listed (byte_in_words r.parts.bits.items) (bits_size (layout_of r.layout))

abbrev pub checks_room : Reader → List ℕ
checks_room r = listed (byte_in_checks r.parts.checks.items) (16 * r.layout.blocks)

-- what fails in the head and the bits that a reader keeps
abbrev pub failing_before_end : Reader → Option Failing
failing_before_end r =
    first_refusal (head_tests r.layout.clients r.op r.front.head.items ++ bits_tests r.layout.blocks (length r.front.head.items) (bits_size (layout_of r.layout)) (bits_in (bits_room r)) r.behind)

-- what fails in what a reader keeps
abbrev pub failing_in : Reader → Option Failing
failing_in r = failing_of (layout_of r.layout) r.op r.front.head.items (bits_room r) r.behind

-- an address of the grid has a bit
abbrev pub HasBit : Reader → ℕ → Type 0
HasBit r address = (1 ≤ address) × (address ≤ r.layout.blocks)

-- how many addresses below one are referenced, by the bits that a reader keeps
abbrev pub referenced_below : Reader → ℕ → ℕ
referenced_below r address = ones (bits_of (address - 1) (bits_in (bits_room r)))

-- what a reader keeps of the block at an address: its checksum stands after those of the lower ones
abbrev pub kept_at : Reader → ℕ → Option ℕ
kept_at r address =
    if bit_at (bits_in (bits_room r)) (address - 1) == 1 then Some (field_at 16 (16 * referenced_below r address) (checks_room r)) else None

-- how many bytes a reader took
abbrev pub bytes_read : Reader → ℕ
bytes_read r = length r.front.head.items + r.behind

-- the reader of a trailer of this layout and op was fed this text, in whatever pieces
pub record HasRead (layout : file.Layout) (op : ℕ) (r : Reader) (text : List ℕ) : Type 0 where
  pub of_layout : r.layout ≡ layout
  pub of_op : r.op ≡ op
  pub kept : IsTextFront (layout_of layout) text r.front.head.items (bits_room r) r.behind
  pub checks : AreChecksKept text (length r.front.head.items + bits_size (layout_of layout)) (checks_room r)

-- a reader took a piece after the head: its bytes stand in the rooms, as far as these go, and earlier ones stay
pub record IsRestTaken (old new : Reader) (piece : List ℕ) : Type 0 where
  pub bits_stay : (i : ℕ) → i < (old.layout.blocks + 7) / 8 → i < old.behind → byte_in_words new.parts.bits.items i ≡ byte_in_words old.parts.bits.items i
  pub bits_here : (i : ℕ) → i < length piece → old.behind + i < (old.layout.blocks + 7) / 8 → byte_in_words new.parts.bits.items (old.behind + i) ≡ slice_index piece i
  pub checks_stay : (i : ℕ) → i < 16 * old.layout.blocks → (old.layout.blocks + 7) / 8 + i < old.behind → byte_in_checks new.parts.checks.items i ≡ byte_in_checks old.parts.checks.items i
  pub checks_here : (i j : ℕ) → j < length piece → (old.layout.blocks + 7) / 8 + i ≡ old.behind + j → i < 16 * old.layout.blocks → byte_in_checks new.parts.checks.items i ≡ slice_index piece j
