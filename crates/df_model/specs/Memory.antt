-- What a replica keeps in memory of its state: refusals, new units and what reads want are functions of it alone.
use Rattle.std.specs.{Prelude.{ℕ, ◌-◌, List, [], ◌∷◌, length, map, Option, Some, None}, List.{range_with_len, slice_get}}
use Rattle.df_base.specs.declared.TheConstants.{HEADER}
use Rattle.df_layout.specs.declared.damage.Finding.{Finding}
use Rattle.df_theory.specs.{Units.{Block, Content, Layout, Message, Parts, Session}, Shape.{Shape}, Tails.{last_checksum}, View.{head, sessions}}
use Rattle.df_model.specs.{Work.{Request, Running, Tour, Work}, Blocks.{Blocks, blocks_of, free_in, referenced_in}}

-- the running checkpoint: what it captured, its trailer's text, and of the trailer's blocks those that are written, the last one first, and the addresses of those to come
pub record Course : Type 0 where
  pub op : ℕ
  pub op_checksum : ℕ
  pub root : List ℕ
  pub text : List ℕ
  pub count : ℕ  -- how many blocks are written, and the last of them
  pub last : ℕ
  pub last_checksum : ℕ
  pub left : List ℕ

pub record Memory : Type 0 where
  pub layout : Layout
  pub content : Content  -- the durable superblock's
  pub root : List ℕ  -- the durable checkpoint's
  pub head : ℕ
  pub head_checksum : ℕ
  pub replies : ℕ
  pub sessions : List Session
  pub prepares : List ℕ  -- the checksums of the tail's prepares, in order of op
  pub stored : List (Option ℕ)  -- by place that of each session's reply, where it is stored
  pub waiting : List ℕ  -- those of the prepares that wait for their replies, in order of op
  pub staged : List Request
  pub blocks : Blocks
  pub running : Option Course
  pub tour : Tour
  pub findings : List Finding

-- ---- that of a state

-- the address and the checksum of a chain's last block
abbrev pub last_address : List (ℕ × Block) → ℕ
last_address [] = 0
last_address (x ∷ xs) = x.0

abbrev pub last_sum : List (ℕ × Block) → ℕ
last_sum [] = 0
last_sum (x ∷ xs) = x.1.checksum

abbrev pub course : (Parts → List ℕ) → Running → Course
course spell r = record {
  op = r.op;
  op_checksum = r.op_checksum;
  root = r.parts.root;
  text = spell r.parts;
  count = length r.written;
  last = last_address r.written;
  last_checksum = last_sum r.written;
  left = r.left;
}

abbrev pub course_of : (Parts → List ℕ) → Option Running → Option Course
course_of spell None = None
course_of spell (Some r) = Some (course spell r)

abbrev pub sum_of_message : Message → ℕ
sum_of_message p = p.header.checksum

abbrev pub stored_sum : Option Message → Option ℕ
stored_sum None = None
stored_sum (Some r) = Some r.header.checksum

abbrev pub memory_of : Shape → (Parts → List ℕ) → Work → Memory
memory_of sh spell w = record {
  layout = sh.layout;
  content = w.view.checkpoint.content;
  root = w.view.checkpoint.parts.root;
  head = head w.view;
  head_checksum = last_checksum w.view.checkpoint.content.op_checksum w.view.tail;
  replies = w.view.replies;
  sessions = sessions w.view;
  prepares = map sum_of_message w.view.tail;
  stored = map (λ k. stored_sum (w.view.stored k)) (range_with_len 0 (length (sessions w.view)));
  waiting = w.waiting;
  staged = w.staged;
  blocks = blocks_of sh w;
  running = course_of spell w.running;
  tour = w.tour;
  findings = w.findings;
}

-- ---- what is looked up in it

-- the addresses that aren't held, from the least on
abbrev pub free_of : Memory → List ℕ
free_of m = free_in m.layout m.blocks

-- each address that a check reads, with the checksum that is known
abbrev pub referenced_of : Memory → List (ℕ × ℕ)
referenced_of m = referenced_in m.layout m.blocks

-- the checksum that is known of the prepare with this op
abbrev pub prepare_sum : Memory → (op : ℕ) → Option ℕ
prepare_sum m op = slice_get m.prepares (op - m.content.op - 1)

abbrev pub joined : Option (Option ℕ) → Option ℕ
joined None = None
joined (Some known) = known

-- that of the reply at this place of the table
abbrev pub reply_sum : Memory → (place : ℕ) → Option ℕ
reply_sum m place = joined (slice_get m.stored place)

-- the longest body of a prepare or a reply, and of a block
abbrev pub message_room : Layout → ℕ
message_room l = l.message_size - HEADER

abbrev pub block_room : Layout → ℕ
block_room l = l.block_size - HEADER
