-- The replica's state: the view of the file, and what it knows beside.
use Rattle.std.specs.{Prelude.{ℕ, ◌+◌, ◌-◌, ◌%◌, ◌==◌, Bool, true, false, ◌||◌, nat_lt, if◌then◌else◌, List, [], ◌∷◌, map, Option, Some, None}, List.{range_with_len, slice_get}}
use Rattle.df_layout.specs.declared.damage.Finding.{Finding}
use Rattle.df_theory.specs.{Units.{AnyUnit, Block, BlockUnit, Content, CopyUnit, HeaderUnit, Message, Parts, PreparePlace, PrepareUnit, ReplyUnit, Units}, Shape.{Shape, slots}, View.{View, head}}
use Rattle.df_theory.specs.Next.{booted}

-- a checkpoint that was begun: the op that it reaches with that prepare's checksum, what its trailer is to say, the trailer's blocks so far from the last to the first, and the addresses of those to come
pub record Running : Type 0 where
  pub op : ℕ
  pub op_checksum : ℕ
  pub parts : Parts
  pub written : List (ℕ × Block)
  pub left : List ℕ

-- a request that is staged: it is in memory alone
pub record Request : Type 0 where
  pub client : ℕ
  pub request : ℕ  -- its number among its client's
  pub body : List ℕ

-- how far the scrubber came: the last address, and how many blocks it checked and found failing
pub record Tour : Type 0 where
  pub last : ℕ
  pub checked : ℕ
  pub failing : ℕ

pub record Work : Type 0 where
  pub view : View
  pub live : ℕ → Option ℕ  -- the checksum of each live block, by address
  pub running : Option Running
  pub waiting : List ℕ  -- the checksums of the prepares that wait for their replies, in order of op
  pub staged : List Request  -- the requests that the next flush appends as one group, in order
  pub tour : Tour
  pub findings : List Finding

-- what is kept of the state when the program stops
abbrev pub kept : Work → View
kept w = w.view

-- ---- addresses

abbrev pub is_known : Option ℕ → Bool
is_known (Some c) = true
is_known None = false

abbrev pub is_in : ℕ → List ℕ → Bool
is_in a [] = false
is_in a (x ∷ xs) = (a == x) || is_in a xs

abbrev pub is_of : ℕ → List (ℕ × Block) → Bool
is_of a [] = false
is_of a (x ∷ xs) = (a == x.0) || is_of a xs

-- the running checkpoint holds the blocks that it references and those of its trailer
abbrev pub is_captured : ℕ → Option Running → Bool
is_captured a None = false
is_captured a (Some r) = is_known (r.parts.references a) || (is_of a r.written || is_in a r.left)

-- an address is held where it is live, or the running or the durable checkpoint holds it
abbrev pub is_held : Work → ℕ → Bool
is_held w a = is_known (w.live a) || (is_captured a w.running || (is_known (w.view.checkpoint.parts.references a) || is_of a w.view.checkpoint.chain))

-- ---- what is known of blocks

abbrev pub or_known : Option ℕ → Option ℕ → Option ℕ
or_known (Some c) other = Some c
or_known None other = other

-- the checksum of the block of a chain at this address
abbrev pub sum_in : ℕ → List (ℕ × Block) → Option ℕ
sum_in a [] = None
sum_in a (x ∷ xs) = if a == x.0 then Some x.1.checksum else sum_in a xs

abbrev pub captured_sum : ℕ → Option Running → Option ℕ
captured_sum a None = None
captured_sum a (Some r) = or_known (r.parts.references a) (sum_in a r.written)

-- the checksum of the block that is to be shown at an address: that of each held one, those aside that the running trailer has yet to write
abbrev pub reference_of : Work → ℕ → Option ℕ
reference_of w a = or_known (w.live a) (or_known (captured_sum a w.running) (or_known (w.view.checkpoint.parts.references a) (sum_in a w.view.checkpoint.chain)))

-- ---- the start

abbrev pub checksum_of_op : ℕ → Option AnyUnit → ℕ
checksum_of_op op (Some (PrepareUnit p)) = if p.header.op == op then p.header.checksum else 0
checksum_of_op op (Some (CopyUnit x)) = 0
checksum_of_op op (Some (HeaderUnit x)) = 0
checksum_of_op op (Some (ReplyUnit x)) = 0
checksum_of_op op (Some (BlockUnit x)) = 0
checksum_of_op op None = 0

abbrev pub prepare_checksum : Option Message → ℕ
prepare_checksum (Some p) = p.header.checksum
prepare_checksum None = 0

-- the checksum of a prepare that waits for its reply: the tail's, or of an op that the checkpoint reaches what its slot shows
abbrev pub waiting_checksum : Shape → Units → View → ℕ → ℕ
waiting_checksum sh image v op = if nat_lt v.checkpoint.content.op op then prepare_checksum (slice_get v.tail (op - v.checkpoint.content.op - 1)) else checksum_of_op op (image (PreparePlace (op % slots sh)))

abbrev pub first_tour : Tour
first_tour = record { last = 0; checked = 0; failing = 0 }

-- the state after an open that found this view in this image: nothing is staged
abbrev pub opened : Shape → Units → View → Work
opened sh image v = record {
  view = v;
  live = v.checkpoint.parts.references;
  running = None;
  waiting = map (waiting_checksum sh image v) (range_with_len (v.replies + 1) (head v - v.replies));
  staged = [];
  tour = first_tour;
  findings = [];
}

-- the state after the boot update of that open, which writes this superblock
abbrev pub raised : Work → Content → Work
raised w d = record w { view = booted w.view d }
