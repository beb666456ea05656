-- The units that commands make, and what a checkpoint captures: functions of what is in memory.
use Rattle.std.specs.{Prelude.{ℕ, suc, ◌+◌, ◌-◌, ◌*◌, ◌/◌, ◌==◌, if◌then◌else◌, List, [], ◌∷◌, length, map, take, drop, Option, Some, None}, List.{range_with_len, slice_get}}
use Rattle.df_theory.specs.Units.{Block, Content, Message, Parts, Session}
use Rattle.df_model.specs.{Work.{Request}, Memory.{Course, Memory, block_room, free_of, reply_sum}, Blocks.{sum_at}}

abbrev pub first_of : List ℕ → ℕ
first_of [] = 0
first_of (x ∷ xs) = x

-- ---- prepares

-- a request as the prepare with this op and this checksum, after the prepare with the checksum `parent`, of the group of the ops from `first` to `last`
abbrev pub prepare_in : Memory → (first last op parent sum : ℕ) → Request → Message
prepare_in m first last op parent sum r = record {
  header = record {
    checksum = sum;
    parent = parent;
    client = r.client;
    op = op;
    request = r.request;
    mark = m.replies;
    checkpoint = m.content.sequence;
    boot = m.content.boot;
    group = first;
    group_last = last;
  };
  body = r.body;
}

-- the next prepare, with this checksum: a group of its own
abbrev pub prepare_of : Memory → (sum client request : ℕ) → List ℕ → Message
prepare_of m sum client request body = prepare_in m (m.head + 1) (m.head + 1) (m.head + 1) m.head_checksum sum (record { client = client; request = request; body = body })

-- requests as prepares of one group, one after the other from this op on, with these checksums
abbrev pub prepares_in : Memory → (first last op parent : ℕ) → List Request → List ℕ → List Message
prepares_in m first last op parent [] sums = []
prepares_in m first last op parent (r ∷ rs) sums = prepare_in m first last op parent (first_of sums) r ∷ prepares_in m first last (op + 1) (first_of sums) rs (drop 1 sums)

-- the next group: all that is staged, in order, with these checksums
abbrev pub group_of : Memory → List ℕ → List Message
group_of m sums = prepares_in m (m.head + 1) (m.head + length m.staged) (m.head + 1) m.head_checksum m.staged sums

-- ---- replies

-- the place of the session whose last request has this op
abbrev pub place_of_op : ℕ → List Session → ℕ
place_of_op op [] = 0
place_of_op op (s ∷ ss) = if s.op == op then 0 else suc (place_of_op op ss)

abbrev pub client_of : Option Session → ℕ
client_of None = 0
client_of (Some s) = s.client

abbrev pub request_of : Option Session → ℕ
request_of None = 0
request_of (Some s) = s.request

-- the place of the next reply
abbrev pub place_of_reply : Memory → ℕ
place_of_reply m = place_of_op (m.replies + 1) m.sessions

-- the next reply, with this checksum: its parent is the prepare that waits the longest
abbrev pub reply_of : Memory → (sum : ℕ) → List ℕ → Message
reply_of m sum body =
    let session = slice_get m.sessions (place_of_reply m) in
    record {
      header = record {
        checksum = sum;
        parent = first_of m.waiting;
        client = client_of session;
        op = m.replies + 1;
        request = request_of session;
        mark = m.head;
        checkpoint = m.content.sequence;
        boot = m.content.boot;
        group = m.replies + 1;
        group_last = m.replies + 1;
      };
      body = body;
    }

-- ---- blocks

-- a block, made in this boot
abbrev pub block_of : (boot sum kind : ℕ) → List ℕ → Block
block_of boot sum kind body = record { checksum = sum; kind = kind; sequence = 0; index = 0; before = 0; before_checksum = 0; boot = boot; body = body }

-- the least address that isn't held
abbrev pub next_address : Memory → ℕ
next_address m = first_of (free_of m)

-- ---- checkpoints

-- what a checkpoint that is begun now captures
abbrev pub parts_of : Memory → (root : List ℕ) → Parts
parts_of m root = record { root = root; sessions = m.sessions; references = λ a. sum_at a m.blocks.live }

-- how many pieces of this room a text of this size has
abbrev pub pieces_of : (room size : ℕ) → ℕ
pieces_of room size = (size + room - 1) / room

-- how many blocks its trailer has
abbrev pub needed_of : (Parts → List ℕ) → Memory → (root : List ℕ) → ℕ
needed_of spell m root = pieces_of (block_room m.layout) (length (spell (parts_of m root)))

abbrev pub piece_of : (room index : ℕ) → List ℕ → List ℕ
piece_of room index text = take room (drop (room * index) text)

-- the next block of the running trailer, with this checksum
abbrev pub trailer_block : Memory → Course → (sum : ℕ) → Block
trailer_block m r sum = record {
  checksum = sum;
  kind = 0;
  sequence = m.content.sequence + 1;
  index = r.count;
  before = r.last;
  before_checksum = r.last_checksum;
  boot = m.content.boot;
  body = piece_of (block_room m.layout) r.count r.text;
}

-- ---- superblocks

-- how many places for sessions a superblock has
abbrev pub named_places : ℕ
named_places = 64

abbrev pub sum_or_zero : Option ℕ → ℕ
sum_or_zero None = 0
sum_or_zero (Some sum) = sum

-- by place the checksum of the stored reply, or zero where none is stored
unfoldable pub named_sums : Memory → List ℕ
named_sums m = map (λ k. sum_or_zero (reply_sum m k)) (range_with_len 0 named_places)

-- with the state as it is now: the prepares up to the head are named by the last one's checksum, and each reply that is stored by its own
abbrev pub recorded : Memory → Content → Content
recorded m c = record c {
  head = m.head;
  replies = m.replies;
  pin = m.head;
  pin_checksum = m.head_checksum;
  answered = m.replies + 1;
  reply_checksums = named_sums m;
}

-- the one that ends the running checkpoint, with this checksum: it has what was captured, and records the state as it is at its end
abbrev pub finishing_content : Memory → Course → (sum : ℕ) → Content
finishing_content m r sum = recorded m (record m.content {
  checksum = sum;
  sequence = m.content.sequence + 1;
  op = r.op;
  op_checksum = r.op_checksum;
  trailer = r.last;
  trailer_checksum = r.last_checksum;
  trailer_size = length r.text;
})

-- that of a boot update, with this checksum: of the same checkpoint, with the next boot
abbrev pub boot_content : Memory → (sum : ℕ) → Content
boot_content m sum = recorded m (record m.content { checksum = sum; boot = m.content.boot + 1 })
