-- How the text of a trailer is read: what stands where in it, and the first part of it that fails.
use Rattle.std.specs.Prelude.{ℕ, zero, suc, ◌+◌, ◌-◌, ◌*◌, ◌/◌, ◌%◌, ◌^◌, ◌==◌, nat_lt, nat_le, Bool, true, false, ◌||◌, not, if◌then◌else◌, List, [], ◌∷◌, ◌++◌, length, take, drop, min, Option, Some, None, Result, Ok, Err}
use Rattle.df_base.specs.{declared.TheConstants.{GREATEST}, Fields.{field_at}}
use Rattle.df_theory.specs.Units.{Layout, Parts, Session}
use Rattle.df_model.specs.Refusals.{first_refusal}
use Rattle.df_trailer.specs.{Spelling.{bits_size}, declared.fault.Fault.{Fault}, declared.fault.Failing.{Failing}, declared.fault.Cause.{Cause}, declared.fault.Cause.TheVariants.{Ends, Says}}
use Rattle.df_layout.specs.{declared.fields.Field.{Field}, declared.fields.Field.TheVariants.{TrailerRoot, TrailerSessions, TrailerBits, TrailerEnd}}

-- ---- what stands where

abbrev pub root_size : List ℕ → ℕ
root_size text = field_at 4 0 text

-- where the number of sessions stands
abbrev pub count_at : List ℕ → ℕ
count_at text = 4 + root_size text

abbrev pub count : List ℕ → ℕ
count text = field_at 4 (count_at text) text

abbrev pub sessions_at : List ℕ → ℕ
sessions_at text = count_at text + 4

abbrev pub session : ℕ → List ℕ → Session
session at text = record { client = field_at 16 at text; request = field_at 8 (at + 16) text; op = field_at 8 (at + 24) text }

-- n sessions from an offset on
abbrev pub read_sessions : ℕ → ℕ → List ℕ → List Session
read_sessions zero at text = []
read_sessions (suc n) at text = session at text ∷ read_sessions n (at + 32) text

abbrev pub bits_at : List ℕ → ℕ
bits_at text = sessions_at text + 32 * count text

-- all bits as one number
abbrev pub bits : Layout → List ℕ → ℕ
bits l text = field_at (bits_size l) (bits_at text) text

-- the number that bytes spell
abbrev pub bits_in : List ℕ → ℕ
bits_in bytes = field_at (length bytes) 0 bytes

-- the lowest n bits of a number, the lowest first
abbrev pub bits_of : ℕ → ℕ → List Bool
bits_of zero x = []
bits_of (suc n) x = (x % 2 == 1) ∷ bits_of n (x / 2)

abbrev pub checks_at : Layout → List ℕ → ℕ
checks_at l text = bits_at text + bits_size l

-- the blocks with these bits, whose checksums stand from an offset on
abbrev pub read_blocks : List Bool → ℕ → List ℕ → List (Option ℕ)
read_blocks [] at text = []
read_blocks (false ∷ bs) at text = None ∷ read_blocks bs at text
read_blocks (true ∷ bs) at text = Some (field_at 16 at text) ∷ read_blocks bs (at + 16) text

abbrev pub ones : List Bool → ℕ
ones [] = 0
ones (false ∷ bs) = ones bs
ones (true ∷ bs) = suc (ones bs)

-- where the checksums end
abbrev pub end_at : Layout → List ℕ → ℕ
end_at l text = checks_at l text + 16 * ones (bits_of l.blocks (bits l text))

-- where the bits begin, as far as a front tells: the end of the item that isn't there whole, or of the last one
abbrev pub head_end : List ℕ → ℕ
head_end text = if nat_lt (length text) 4 then 4 else (if nat_lt (length text) (sessions_at text) then sessions_at text else bits_at text)

-- the longest head: two lengths, a root, and 64 sessions
abbrev pub longest_head : ℕ
longest_head = 3080

-- the head is there whole, or is longer than any may be
abbrev pub is_whole : List ℕ → Bool
is_whole head = nat_le longest_head (length head) || nat_le (head_end head) (length head)

-- ---- the parts

abbrev pub at_place : List (Option ℕ) → ℕ → Option ℕ
at_place [] place = None
at_place (b ∷ bs) zero = b
at_place (b ∷ bs) (suc place) = at_place bs place

-- addresses begin with 1
abbrev pub known_at_address : List (Option ℕ) → ℕ → Option ℕ
known_at_address bs zero = None
known_at_address bs (suc place) = at_place bs place

abbrev pub parts_of : Layout → List ℕ → Parts
parts_of l text = record {
  root = take (root_size text) (drop 4 text);
  sessions = read_sessions (count text) (sessions_at text) text;
  references = known_at_address (read_blocks (bits_of l.blocks (bits l text)) (checks_at l text) text);
}

-- ---- the first part that fails

-- one of the sessions has this client or this op
abbrev pub is_repeated : ℕ → ℕ → List Session → Bool
is_repeated client op [] = false
is_repeated client op (t ∷ ts) = (t.client == client) || ((t.op == op) || is_repeated client op ts)

-- the session breaks a rule, after the earlier ones
abbrev pub is_wrong : ℕ → List Session → Session → Bool
is_wrong op before s =
    (s.client == 0) || ((s.request == 0) || (nat_lt GREATEST s.request || ((s.op == 0) || (nat_lt op s.op || is_repeated s.client s.op before))))

-- the place of the first session that is wrong, after the earlier ones; past the end where none is
abbrev pub wrong_place : ℕ → List Session → List Session → ℕ
wrong_place op before [] = 0
wrong_place op before (s ∷ ss) = if is_wrong op before s then 0 else suc (wrong_place op (s ∷ before) ss)

-- the first n sessions, the last one first
abbrev pub earlier : ℕ → ℕ → List ℕ → List Session
earlier zero at text = []
earlier (suc n) at text = session (at + 32 * n) text ∷ earlier n at text

-- how many sessions are there whole
abbrev pub whole : List ℕ → ℕ
whole text = min (count text) ((length text - sessions_at text) / 32)

abbrev pub first_wrong : ℕ → List ℕ → ℕ
first_wrong op text = wrong_place op [] (read_sessions (whole text) (sessions_at text) text)

abbrev pub fails : Cause → Field → ℕ → Failing
fails cause field value = record { cause = cause; fault = record { field = field; value = value } }

-- the tests of root and sessions in their order
abbrev pub head_tests : ℕ → ℕ → List ℕ → List (Bool × Failing)
head_tests clients op text =
    (nat_lt (length text) 4, fails Ends TrailerRoot (length text))
    ∷ (nat_lt 1024 (root_size text), fails Says TrailerRoot (root_size text))
    ∷ (nat_lt (length text) (count_at text), fails Ends TrailerRoot (root_size text))
    ∷ (nat_lt (length text) (sessions_at text), fails Ends TrailerSessions (length text))
    ∷ (nat_lt clients (count text), fails Says TrailerSessions (count text))
    ∷ (nat_lt (first_wrong op text) (whole text), fails Says TrailerSessions (first_wrong op text))
    ∷ (nat_lt (length text) (bits_at text), fails Ends TrailerSessions (count text))
    ∷ []

-- the tests of all parts in their order
abbrev pub tests : Layout → ℕ → List ℕ → List (Bool × Failing)
tests l op text =
    head_tests l.clients op text
    ++ (nat_lt (length text) (checks_at l text), fails Ends TrailerBits (length text))
    ∷ (nat_le (2 ^ l.blocks) (bits l text), fails Says TrailerBits (checks_at l text - 1))
    ∷ (not (length text == end_at l text), fails Ends TrailerEnd (length text))
    ∷ []

abbrev pub says : Cause → Bool
says Ends = false
says Says = true

abbrev pub fault_in : Option Failing → Option Fault
fault_in None = None
fault_in (Some f) = Some f.fault

abbrev pub refusal_in : Option Failing → Option Fault
refusal_in None = None
refusal_in (Some f) = if says f.cause then Some f.fault else None

-- what a call answers where this fails
abbrev pub answer : Option Fault → Result (Unit {0}) Fault
answer None = Ok tt
answer (Some f) = Err f

-- the first part of a whole text that fails
abbrev pub fault : Layout → ℕ → List ℕ → Option Fault
fault l op text = fault_in (first_refusal (tests l op text))

-- what fails in a text, whatever comes after it
abbrev pub refusal : Layout → ℕ → List ℕ → Option Fault
refusal l op text = refusal_in (first_refusal (tests l op text))

abbrev pub unless : {X : Type 0} → Option Fault → X → Option X
unless None parts = Some parts
unless (Some f) parts = None

-- the parts of a text, unless a part fails
abbrev pub parse : Layout → ℕ → List ℕ → Option Parts
parse l op text = unless (fault l op text) (parts_of l text)

-- the parts of a text, where no op is above 2^62, whatever a superblock says
abbrev pub parse_of : Layout → ℕ → List ℕ → Option Parts
parse_of l op text = parse l (min op GREATEST) text
