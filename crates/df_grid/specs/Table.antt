-- The table in the words of the machine: which blocks are live, what the running and the durable checkpoint hold, and so which
-- addresses are free.
use Rattle.std.specs.Prelude.{◌≡◌, ℕ, zero, suc, ◌+◌, ◌*◌, ◌/◌, ◌<◌, ◌≤◌, Bool, true, false, ◌||◌, not, if◌then◌else◌, List, [], ◌∷◌, ◌++◌, length, map, take, drop, slice_get, Option, Some, None}
use Rattle.std.specs.List.{count_by, filter, range_with_len}
use Rattle.df_model.specs.{Work.{is_in}, Blocks.{Blocks, is_held_in, trailer_written, with_entry}, Sense.{RiseFrom}}
use Rattle.df_format.specs.declared.reference.Reference.{Reference}
use Rattle.df_units.specs.Meaning.{number_of}
use Rattle.df_grid.specs.{declared.entry.Entry.{Entry}, declared.entry.Reason.{Reason}, declared.entry.Reason.TheVariants.{Live, Durable, Any}, Entries.{HasEntry, is_marked}}

-- how many addresses the table has, and what it says of their blocks
pub record TableState : Type 0 where
  pub size : ℕ
  pub blocks : Blocks

-- ---- the reasons

abbrev pub is_live : Entry → Bool
is_live e = e.live

abbrev pub is_captured : Entry → Bool
is_captured e = e.captured

abbrev pub is_durable : Entry → Bool
is_durable e = e.durable

-- the one that is counted
abbrev pub is_held_for : Reason → Entry → Bool
is_held_for Live = is_live
is_held_for Durable = is_durable
is_held_for Any = is_marked

-- ---- counts of captured blocks

-- how many of the first n entries are of captured blocks
abbrev pub captured_among : List Entry → ℕ → ℕ
captured_among es n = count_by is_captured (take n es)

-- a count for each full group of 256 among the first n entries: of the first group, of the first two, and so on
pub record AreCounts (es : List Entry) (n : ℕ) (counts : List ℕ) : Type 0 where
  pub size : length counts ≡ n / 256
  pub each : (g count : ℕ) → slice_get counts g ≡ Some count → count ≡ captured_among es (256 * (g + 1))

-- The counts that there are are right; while an address of the running trailer is to come, all are there. No layout has more entries.
pub record IsCounted (es : List Entry) (left counts : List ℕ) : Type 0 where
  pub few : length es ≤ 16384
  pub each : (g count : ℕ) → slice_get counts g ≡ Some count → (256 * (g + 1) ≤ length es) × (count ≡ captured_among es (256 * (g + 1)))
  pub all : (left ≡ [] → ⊥) → length counts ≡ length es / 256

-- ---- lists of addresses with their checksums

-- the entries that pass a test, from this address on
abbrev pub picked : (Entry → Bool) → ℕ → List Entry → List (ℕ × ℕ)
picked test a [] = []
picked test a (e ∷ es) = if test e then (a, number_of e.checksum) ∷ picked test (a + 1) es else picked test (a + 1) es

abbrev pub sum_from : List Entry → ℕ → ℕ
sum_from [] i = 0
sum_from (e ∷ es) zero = number_of e.checksum
sum_from (e ∷ es) (suc i) = sum_from es i

-- the checksum of an address
abbrev pub sum_at_address : List Entry → ℕ → ℕ
sum_at_address es zero = 0
sum_at_address es (suc i) = sum_from es i

-- addresses, each with its checksum
abbrev pub paired : List Entry → List ℕ → List (ℕ × ℕ)
paired es [] = []
paired es (a ∷ rest) = (a, sum_at_address es a) ∷ paired es rest

-- what the table says: the chains are from the last block to the first
abbrev pub blocks_in : List Entry → (written left chain : List ℕ) → Blocks
blocks_in es written left chain = record {
  live = picked is_live 1 es;
  captured = picked is_captured 1 es;
  written = paired es written;
  left = left;
  durable = picked is_durable 1 es;
  chain = paired es chain;
}

-- no address is held
abbrev pub no_blocks : Blocks
no_blocks = record { live = []; captured = []; written = []; left = []; durable = []; chain = [] }

-- the entry of an address, if there is one
abbrev pub entry_at : List Entry → ℕ → Option Entry
entry_at es zero = None
entry_at es (suc i) = slice_get es i

-- the addresses up to this one that aren't held, from the least on
abbrev pub unheld : ℕ → Blocks → List ℕ
unheld size b = filter (λ a. not (is_held_in b a)) (range_with_len 1 size)

-- ---- how it changes

-- no checkpoint runs
pub record IsIdle (b : Blocks) : Type 0 where
  pub captured : b.captured ≡ []
  pub written : b.written ≡ []
  pub left : b.left ≡ []

-- a checkpoint was begun: no block of its trailer is written, and there is a next one
pub record IsReadyTrailer (b : Blocks) : Type 0 where
  pub written : b.written ≡ []
  pub left : b.left ≡ [] → ⊥

-- the running trailer's next block has this checksum
abbrev pub written_of : Blocks → ℕ → List ℕ → Blocks
written_of b sum [] = b
written_of b sum (a ∷ more) = trailer_written b a sum more

abbrev pub next_written : Blocks → ℕ → Blocks
next_written b sum = written_of b sum b.left

-- a block that the durable checkpoint references, which is live, or the next block of its trailer
abbrev pub adopted : Blocks → Bool → ℕ → ℕ → Blocks
adopted b true a sum = record b { live = with_entry a sum b.live; durable = with_entry a sum b.durable }
adopted b false a sum = record b { chain = (a, sum) ∷ b.chain }

-- a live block is captured
abbrev pub capturing : Entry → Entry
capturing e = record e { captured = e.live }

-- what the running checkpoint holds the durable one does
abbrev pub finishing : Entry → Entry
finishing e = record e { captured = false; written = false; durable = e.captured; chained = e.written }

-- an address is taken where its entry is marked
abbrev pub AreMarked : List Entry → List Bool → Type 0
AreMarked es taken = (i : ℕ) (e : Entry) → slice_get es i ≡ Some e → slice_get taken i ≡ Some (is_marked e)

-- the first entries are finished, and their addresses are taken where they are marked
pub record AreFinished (n : ℕ) (before es : List Entry) (taken : List Bool) : Type 0 where
  pub entries : es ≡ map finishing (take n before) ++ drop n before
  pub size : length taken ≡ length before
  pub holds : (i : ℕ) (e : Entry) → i < n → slice_get es i ≡ Some e → slice_get taken i ≡ Some (is_marked e)

-- the addresses that are free, from the first one on
abbrev pub open_from : ℕ → List Bool → List ℕ
open_from a [] = []
open_from a (t ∷ ts) = if t then open_from (a + 1) ts else a ∷ open_from (a + 1) ts

-- the least free addresses of a set are taken
pub record AreTaken (n : ℕ) (before after : List Bool) (left : List ℕ) : Type 0 where
  pub least : left ≡ take n (open_from 1 before)
  pub rest : open_from 1 after ≡ drop n (open_from 1 before)
  pub size : length after ≡ length before
  pub each : (a i : ℕ) (b : Bool) → a ≡ suc i → slice_get before i ≡ Some b → slice_get after i ≡ Some (b || is_in a left)

-- ---- what is answered

-- an address and its checksum
abbrev pub pair_in : Option Reference → Option (ℕ × ℕ)
pair_in None = None
pair_in (Some r) = Some (r.address, number_of r.checksum)

-- the last block of the running trailer, where all are written
abbrev pub last_trailer_block : List ℕ → List (ℕ × ℕ) → Option (ℕ × ℕ)
last_trailer_block [] written = slice_get written 0
last_trailer_block (a ∷ more) written = None

-- ---- what holds of every table

-- An address is taken exactly where it is marked or is one of the running trailer's that are to come; the marks of trailer blocks are
-- those of the chains. The addresses that are to come rise, and nothing is known of them yet.
pub record IsGridTable (es : List Entry) (taken : List Bool) (written left chain : List ℕ) : Type 0 where
  pub size : length taken ≡ length es
  pub holds : (a i : ℕ) (e : Entry) → a ≡ suc i → slice_get es i ≡ Some e → slice_get taken i ≡ Some (is_marked e || is_in a left)
  pub writes : (a i : ℕ) (e : Entry) → a ≡ suc i → slice_get es i ≡ Some e → e.written ≡ is_in a written
  pub chains : (a i : ℕ) (e : Entry) → a ≡ suc i → slice_get es i ≡ Some e → e.chained ≡ is_in a chain
  pub spare : (a i : ℕ) (e : Entry) → a ≡ suc i → slice_get es i ≡ Some e → is_in a left ≡ true → is_marked e ≡ false
  pub inside : (a : ℕ) → (is_in a written || is_in a left) ≡ true → HasEntry es a
  pub once : RiseFrom 1 left
  pub room : length written + length left ≤ 70
