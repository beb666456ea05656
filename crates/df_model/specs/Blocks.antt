-- What a replica keeps of the grid: live blocks, what the running and the durable checkpoint hold, and so which addresses are free.
use Rattle.std.specs.{Prelude.{ℕ, ◌==◌, Bool, ◌||◌, nat_lt, not, if◌then◌else◌, List, [], ◌∷◌, map, Option, Some, None}, List.{filter, range_with_len}}
use Rattle.df_theory.specs.{Units.{Block, Layout}, Shape.{Shape}}
use Rattle.df_model.specs.Work.{Running, Work, is_in, is_known, or_known}

-- maps of addresses to checksums as lists of their entries, in order of address; chains from the last block to the first
pub record Blocks : Type 0 where
  pub live : List (ℕ × ℕ)
  pub captured : List (ℕ × ℕ)  -- what the running checkpoint references, the blocks of its trailer so far, and the addresses of those to come
  pub written : List (ℕ × ℕ)
  pub left : List ℕ
  pub durable : List (ℕ × ℕ)  -- what the durable checkpoint references, and its trailer
  pub chain : List (ℕ × ℕ)

-- ---- those of a state

-- an address goes into the list where something is known of it
abbrev pub entry : ℕ → Option ℕ → List (ℕ × ℕ) → List (ℕ × ℕ)
entry a None rest = rest
entry a (Some c) rest = (a, c) ∷ rest

-- a map as the list of its entries, at these addresses
abbrev pub entries : (ℕ → Option ℕ) → List ℕ → List (ℕ × ℕ)
entries f [] = []
entries f (a ∷ more) = entry a (f a) (entries f more)

-- the addresses of the grid
abbrev pub addresses : Layout → List ℕ
addresses l = range_with_len 1 l.blocks

-- a block by its address and its checksum
abbrev pub pair_of : ℕ × Block → ℕ × ℕ
pair_of x = (x.0, x.1.checksum)

abbrev pub captured_of : Layout → Option Running → List (ℕ × ℕ)
captured_of l None = []
captured_of l (Some r) = entries r.parts.references (addresses l)

abbrev pub written_of : Option Running → List (ℕ × ℕ)
written_of None = []
written_of (Some r) = map pair_of r.written

abbrev pub left_of : Option Running → List ℕ
left_of None = []
left_of (Some r) = r.left

abbrev pub blocks_of : Shape → Work → Blocks
blocks_of sh w = record {
  live = entries w.live (addresses sh.layout);
  captured = captured_of sh.layout w.running;
  written = written_of w.running;
  left = left_of w.running;
  durable = entries w.view.checkpoint.parts.references (addresses sh.layout);
  chain = map pair_of w.view.checkpoint.chain;
}

-- ---- what is looked up in them

-- the checksum of an address in a list of entries
abbrev pub sum_at : ℕ → List (ℕ × ℕ) → Option ℕ
sum_at a [] = None
sum_at a (x ∷ xs) = if x.0 == a then Some x.1 else sum_at a xs

-- the five reasons for which an address is held
abbrev pub is_held_in : Blocks → ℕ → Bool
is_held_in b a = is_known (sum_at a b.live) || ((is_known (sum_at a b.captured) || (is_known (sum_at a b.written) || is_in a b.left)) || (is_known (sum_at a b.durable) || is_known (sum_at a b.chain)))

-- the checksum of the block that is to be shown at an address
abbrev pub reference_in : Blocks → ℕ → Option ℕ
reference_in b a = or_known (sum_at a b.live) (or_known (or_known (sum_at a b.captured) (sum_at a b.written)) (or_known (sum_at a b.durable) (sum_at a b.chain)))

-- the addresses that aren't held, from the least on
abbrev pub free_in : Layout → Blocks → List ℕ
free_in l b = filter (λ a. not (is_held_in b a)) (addresses l)

-- each address that a check reads, with the checksum that is known
abbrev pub referenced_in : Layout → Blocks → List (ℕ × ℕ)
referenced_in l b = entries (reference_in b) (addresses l)

-- ---- how they change

-- a block is live, in order of address
abbrev pub with_entry : ℕ → ℕ → List (ℕ × ℕ) → List (ℕ × ℕ)
with_entry a c [] = (a, c) ∷ []
with_entry a c (x ∷ xs) = if nat_lt a x.0 then (a, c) ∷ x ∷ xs else (if x.0 == a then (a, c) ∷ xs else x ∷ with_entry a c xs)

abbrev pub without_entry : ℕ → List (ℕ × ℕ) → List (ℕ × ℕ)
without_entry a [] = []
without_entry a (x ∷ xs) = if x.0 == a then xs else x ∷ without_entry a xs

abbrev pub block_written : Blocks → (a sum : ℕ) → Blocks
block_written b a sum = record b { live = with_entry a sum b.live }

abbrev pub block_released : Blocks → (a : ℕ) → Blocks
block_released b a = record b { live = without_entry a b.live }

-- the live blocks are captured, and the trailer takes these addresses
abbrev pub blocks_captured : Blocks → List ℕ → Blocks
blocks_captured b left = record b { captured = b.live; written = []; left = left }

-- the next block of the trailer is written
abbrev pub trailer_written : Blocks → (a sum : ℕ) → List ℕ → Blocks
trailer_written b a sum more = record b { written = (a, sum) ∷ b.written; left = more }

-- the running checkpoint is the durable one
abbrev pub capture_finished : Blocks → Blocks
capture_finished b = record b { captured = []; written = []; left = []; durable = b.captured; chain = b.written }
