-- The target: what its grid knows of the blocks that were written, its trailer, its superblock, and all that is written of it, in order.
use Rattle.std.specs.{Prelude.{◌≡◌, ℕ, zero, suc, ◌+◌, ◌-◌, max, List, [], ◌∷◌, ◌++◌, length, map, slice_get, take, Option, Some, None}, List.{range_with_len}}
use Rattle.df_base.specs.{declared.TheConstants.{HEADER}, Log.{Event, Sync}}
use Rattle.df_layout.specs.declared.layout.Layout.{Layout}
use Rattle.df_format.specs.{declared.superblock.SuperFields.{SuperFields}, Message.{Message}, Spelling.{no_checksum}}
use Rattle.df_theory.specs.{CopyPuts.{update_steps}, MakingLaws.{all_puts}, Runs.{Step, Syncs}, Units.{ReplyPlace, ReplyUnit}}
use Rattle.df_units.specs.{Making.{header_puts, header_writes}, Meaning.{layout_of, message_of, number_of}, Puts.{put_copies}}
use Rattle.df_places.specs.Units.{put_steps}
use Rattle.df_superblock.specs.Events.{update_events}
use Rattle.df_trailer.specs.{Spelling.{spell}, Writing.{captured_parts, piece_of}}
use Rattle.df_grid.specs.{Grid.{GridState, free_addresses, with_blocks, with_boot}, Table.{next_written, no_blocks}, Writes.{block_steps, made_events, next_unit}}
use Rattle.df_model.specs.{Blocks.{Blocks, blocks_captured, sum_at}, Making.{named_places}}
use Rattle.df_opening.specs.{Below.{State, memory}, Making.{reserved_table, sectors_in}}
use Rattle.df_copy.specs.{declared.target.Target.{Target}, Tests.{trailer_blocks, trailer_size}, Units.{all_events, moved_from, reply_events}}

-- ---- the grid

-- blocks one after the other, from this address on, each with its checksum
abbrev pub numbered : ℕ → List Message → List (ℕ × ℕ)
numbered address [] = []
numbered address (u ∷ us) = (address, number_of u.header.checksum) ∷ numbered (address + 1) us

-- no address is held but those of these blocks, which stand from address 1 on
abbrev pub blocks_with : List Message → Blocks
blocks_with us = record no_blocks { live = numbered 1 us }

abbrev pub grid_with : Layout → (cluster : ℕ) → List Message → GridState
grid_with layout cluster us = record { layout = layout; cluster = cluster; boot = 0; blocks = blocks_with us }

-- ---- the superblock

abbrev pub check_of : Option Message → List ℕ
check_of None = no_checksum
check_of (Some u) = u.header.checksum

-- the checksums of replies, by place, and zeros after them
abbrev pub checks_of : List Message → List (List ℕ)
checks_of us = map (λ k. check_of (slice_get us k)) (range_with_len 0 named_places)

abbrev pub last_message : List Message → Option Message
last_message [] = None
last_message (u ∷ []) = Some u
last_message (u ∷ v ∷ us) = last_message (v ∷ us)

abbrev pub address_of_block : Option Message → ℕ
address_of_block None = 0
address_of_block (Some u) = u.header.op

-- a block by its address and its checksum, if there is one
abbrev pub reference_pair : Option Message → Option (ℕ × ℕ)
reference_pair None = None
reference_pair (Some u) = Some (u.header.op, number_of u.header.checksum)

-- the source's superblock with the numbers of a layout and the checksums of these replies. The source is at rest, so its head and its replies are its checkpoint's op
abbrev pub fields_in : Layout → SuperFields → List (List ℕ) → SuperFields
fields_in layout f checks = record f {
  slots = layout.slots;
  message_size = layout.message_size;
  clients = layout.clients;
  block_size = layout.block_size;
  blocks = layout.blocks;
  head = f.op;
  head_checksum = f.op_checksum;
  replies = f.op;
  reply_checksums = checks;
}

-- and with a trailer that ends there
abbrev pub named_with : (address : ℕ) → (checksum : List ℕ) → (size : ℕ) → SuperFields → SuperFields
named_with address checksum size f = record f { trailer_address = address; trailer_checksum = checksum; trailer_size = size }

abbrev pub copied_fields : Layout → SuperFields → List Message → List Message → (size : ℕ) → SuperFields
copied_fields layout f replies trailer size = named_with (address_of_block (last_message trailer)) (check_of (last_message trailer)) size (fields_in layout f (checks_of replies))

-- ---- the trailer

-- its text: the source's root and sessions, and these blocks, which stand from address 1 on
abbrev pub text_with : Layout → State → List Message → List ℕ
text_with layout s us = spell (layout_of layout) (captured_parts s.root s.table.sessions (λ a. sum_at a (numbered 1 us)))

-- that of its blocks; a superblock that has a trailer has no lower one
abbrev pub sequence_of : State → ℕ
sequence_of s = max s.fields.sequence 2

-- the grid as the trailer is begun: its blocks are of the source's boot, and stand after the others
abbrev pub begun_grid : GridState → (boot blocks : ℕ) → GridState
begun_grid g boot blocks = with_blocks (with_boot g boot) (blocks_captured g.blocks (take blocks (free_addresses g)))

-- the next block of a trailer, over its piece of the text, and the grid after it
abbrev pub next_piece : GridState → (sequence : ℕ) → List ℕ → Message
next_piece g sequence text = next_unit g sequence (piece_of (g.layout.block_size - HEADER) (length g.blocks.written) text)

abbrev pub grid_after_piece : GridState → (sequence : ℕ) → List ℕ → GridState
grid_after_piece g sequence text = with_blocks g (next_written g.blocks (number_of (next_piece g sequence text).header.checksum))

-- this many blocks, one after the other
abbrev pub pieces_from : GridState → (sequence : ℕ) → List ℕ → ℕ → List Message
pieces_from g sequence text zero = []
pieces_from g sequence text (suc n) = next_piece g sequence text ∷ pieces_from (grid_after_piece g sequence text) sequence text n

abbrev pub grid_behind : GridState → (sequence : ℕ) → List ℕ → ℕ → GridState
grid_behind g sequence text zero = g
grid_behind g sequence text (suc n) = grid_behind (grid_after_piece g sequence text) sequence text n

-- the trailer after these blocks: none where the source has none
abbrev pub trailer_of : Layout → State → List Message → List Message
trailer_of layout s us = pieces_from (begun_grid (grid_with layout s.file.cluster us) s.fields.boot (trailer_blocks layout (memory s))) (sequence_of s) (text_with layout s us) (trailer_blocks layout (memory s))

-- ---- all that is written

-- the header ring, of reserved headers
abbrev pub ring_events : Layout → (cluster : ℕ) → List Event
ring_events layout cluster = header_writes layout 0 (sectors_in layout (reserved_table layout cluster))

-- what stands before the trailer: the header ring, these replies, and these blocks at their new addresses
abbrev pub events_before_trailer : Layout → (cluster : ℕ) → (replies blocks : List Message) → List Event
events_before_trailer layout cluster replies blocks = ring_events layout cluster ++ (all_events (reply_events layout) replies ++ all_events (made_events layout) (moved_from 1 blocks))

-- what stands before the superblock
abbrev pub front_events : Layout → State → (replies blocks : List Message) → List Event
front_events layout s replies blocks = events_before_trailer layout s.file.cluster replies blocks ++ all_events (made_events layout) (trailer_of layout s (moved_from 1 blocks))

abbrev pub superblock_of : Layout → State → (replies blocks : List Message) → SuperFields
superblock_of layout s replies blocks = copied_fields layout s.fields replies (trailer_of layout s (moved_from 1 blocks)) (trailer_size layout (memory s))

-- the superblock comes once all that is durable: a sync, and the four copies with a sync each
abbrev pub superblock_events : Layout → State → (replies blocks : List Message) → List Event
superblock_events layout s replies blocks = Sync ∷ update_events (superblock_of layout s replies blocks)

abbrev pub copy_events : Layout → State → (replies blocks : List Message) → List Event
copy_events layout s replies blocks = front_events layout s replies blocks ++ superblock_events layout s replies blocks

-- ---- in the words of the theory

-- a reply is put into the place that it names
abbrev pub reply_steps : Message → List Step
reply_steps u = put_steps (ReplyPlace u.header.slot) (ReplyUnit (message_of u))

abbrev pub all_steps : (Message → List Step) → List Message → List Step
all_steps steps [] = []
all_steps steps (u ∷ us) = steps u ++ all_steps steps us

abbrev pub ring_steps : Layout → (cluster : ℕ) → List Step
ring_steps layout cluster = all_puts (header_puts 0 (sectors_in layout (reserved_table layout cluster)))

abbrev pub unit_steps : Layout → (cluster : ℕ) → (replies blocks : List Message) → List Step
unit_steps layout cluster replies blocks = ring_steps layout cluster ++ (all_steps reply_steps replies ++ all_steps block_steps (moved_from 1 blocks))

abbrev pub front_steps : Layout → State → (replies blocks : List Message) → List Step
front_steps layout s replies blocks = unit_steps layout s.file.cluster replies blocks ++ all_steps block_steps (trailer_of layout s (moved_from 1 blocks))

abbrev pub superblock_steps : Layout → State → (replies blocks : List Message) → List Step
superblock_steps layout s replies blocks = Syncs ∷ update_steps (put_copies (superblock_of layout s replies blocks))

abbrev pub copy_steps : Layout → State → (replies blocks : List Message) → List Step
copy_steps layout s replies blocks = front_steps layout s replies blocks ++ superblock_steps layout s replies blocks

-- ---- how far it has come

-- these replies were written, and these blocks at their new addresses
pub record IsTarget (layout : Layout) (cluster : ℕ) (replies blocks : List Message) (t : Target) : Type 0 where
  pub layout_is : t.layout ≡ layout
  pub grid : t.grid ≡ grid_with layout cluster (moved_from 1 blocks)
  pub checks : t.checks ≡ checks_of replies
  pub copied : t.copied ≡ length blocks

-- a call leaves all of it but these
pub record KeepsGrid (t u : Target) : Type 0 where
  pub layout_is : u.layout ≡ t.layout
  pub grid : u.grid ≡ t.grid
  pub copied : u.copied ≡ t.copied
