-- The dictionary: which place, layout and unit of the theory each one of the format is. It goes one way: the bytes learn the
-- theory's words here, once, and the theory never learns of bytes.
use Rattle.std.specs.Prelude.{◌==◌, ◌+◌, ◌&&◌, ℕ, suc, Bool, true, if◌then◌else◌, List, [], ◌∷◌, ◌++◌, map, Option, Some, None}
use Rattle.df_base.specs.{declared.TheConstants.{VERSION}, Fields.{field_at}}
use Rattle.df_layout.specs.{declared.layout.Layout.{Layout}, declared.places.Place.{Place}, declared.places.Zone.TheVariants.{Superblock, WalHeaders, WalPrepares, ClientReplies, Grid}}
use Rattle.df_format.specs.{declared.header.Header.{Header}, declared.superblock.SuperFields.{SuperFields}, Message.{Message}, Own.{place_in}, Copies.{Content}}
use Rattle.df_theory.specs.Units
use Rattle.df_theory.specs.Units.{AnyUnit, BlockPlace, BlockUnit, CopyPlace, HeaderPlace, HeaderUnit, PreparePlace, PrepareUnit, ReplyPlace, ReplyUnit}

-- the place of the file that a place of the theory is
abbrev pub place_of : Units.Place → Place
place_of (CopyPlace n) = place_in Superblock n
place_of (HeaderPlace s) = place_in WalHeaders s
place_of (PreparePlace s) = place_in WalPrepares s
place_of (ReplyPlace k) = place_in ClientReplies k
place_of (BlockPlace a) = place_in Grid a

-- a checksum as one number, its first byte the lowest; zeros are 0
abbrev pub number_of : List ℕ → ℕ
number_of check = field_at 16 0 check

-- a number, or another one where it is 0
abbrev pub number_or : ℕ → ℕ → ℕ
number_or n other = if n == 0 then other else n

-- a header: where it names no group, as in version 1 and in all kinds but a prepare, it is a group by itself
abbrev pub header_of : Header → Units.Header
header_of h = record {
  checksum = number_of h.checksum;
  parent = number_of h.parent;
  client = h.client;
  op = h.op;
  request = h.request;
  mark = h.mark;
  checkpoint = h.checkpoint;
  boot = h.boot;
  group = number_or h.group h.op;
  group_last = number_or h.group_last h.op;
}

-- a prepare or a reply
abbrev pub message_of : Message → Units.Message
message_of u = record { header = header_of u.header; body = u.body }

-- a block of the grid: a trailer block has kind 0, and any other block sequence 0
abbrev pub block_of : Message → Units.Block
block_of u = record {
  checksum = number_of u.header.checksum;
  kind = u.header.block_kind;
  sequence = u.header.checkpoint;
  index = u.header.mark;
  before = u.header.request;
  before_checksum = number_of u.header.parent;
  boot = u.header.boot;
  body = u.body;
}

-- the layout's numbers
abbrev pub layout_of : Layout → Units.Layout
layout_of l = record { slots = l.slots; message_size = l.message_size; clients = l.clients; block_size = l.block_size; blocks = l.blocks }

-- one more than the offset, so that no offset is a zero
abbrev pub offset_list : Option ℕ → List ℕ
offset_list None = []
offset_list (Some offset) = suc offset ∷ []

-- up to this op a copy names the prepares: version 2 up to its head, any other version up to its checkpoint's op
abbrev pub pin_of : SuperFields → ℕ
pin_of f = if f.version == VERSION then f.head else f.op

-- the checksum of the last of these
abbrev pub pin_checksum_of : SuperFields → List ℕ
pin_checksum_of f = if f.version == VERSION then f.head_checksum else f.op_checksum

-- it names the replies to ops below this one: version 2 those up to its number of replies, any other version none
abbrev pub answered_of : SuperFields → ℕ
answered_of f = if f.version == VERSION then f.replies + 1 else 0

-- their checksums, by place
abbrev pub reply_checksums_of : SuperFields → List ℕ
reply_checksums_of f = if f.version == VERSION then map number_of f.reply_checksums else []

-- all of these numbers are zeros
abbrev pub are_zeros : List ℕ → Bool
are_zeros [] = true
are_zeros (n ∷ ns) = (n == 0) && are_zeros ns

-- these numbers, and nothing where all of them are zeros
abbrev pub or_nothing : List ℕ → List ℕ
or_nothing ns = if are_zeros ns then [] else ns

-- what version 2 names, where another version leaves it empty
abbrev pub unnamed_of : SuperFields → List ℕ
unnamed_of f = if f.version == VERSION then [] else or_nothing (number_of f.head_checksum ∷ map number_of f.reply_checksums)

-- what should be zero in this version and isn't: that, and the offset of the first byte that isn't zero where it has no fields, if any
abbrev pub rest_of : SuperFields → List ℕ
rest_of f = unnamed_of f ++ offset_list f.first_nonzero

-- what a copy says
abbrev pub content_of : Content → Units.Content
content_of c = record {
  checksum = number_of c.checksum;
  version = c.fields.version;
  cluster = c.fields.cluster;
  layout = record { slots = c.fields.slots; message_size = c.fields.message_size; clients = c.fields.clients; block_size = c.fields.block_size; blocks = c.fields.blocks };
  sequence = c.fields.sequence;
  boot = c.fields.boot;
  op = c.fields.op;
  op_checksum = number_of c.fields.op_checksum;
  head = c.fields.head;
  replies = c.fields.replies;
  pin = pin_of c.fields;
  pin_checksum = number_of (pin_checksum_of c.fields);
  answered = answered_of c.fields;
  reply_checksums = reply_checksums_of c.fields;
  trailer = c.fields.trailer_address;
  trailer_checksum = number_of c.fields.trailer_checksum;
  trailer_size = c.fields.trailer_size;
  rest = rest_of c.fields;
}

-- the unit that a message is at a place; at a copy's place there is none
abbrev pub unit_of : Units.Place → Message → Option AnyUnit
unit_of (CopyPlace n) u = None
unit_of (HeaderPlace s) u = Some (HeaderUnit (header_of u.header))
unit_of (PreparePlace s) u = Some (PrepareUnit (message_of u))
unit_of (ReplyPlace k) u = Some (ReplyUnit (message_of u))
unit_of (BlockPlace a) u = Some (BlockUnit (block_of u))
