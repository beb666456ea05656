-- The checksum that each unit of a file gets, as a function of what it says in the words of the theory and of its place: the header, or the superblock, that has these
-- words is built and sealed as the maker of a unit does. It is the dictionary of units and bytes, read the other way.
use Rattle.std.specs.Prelude.{◌≡◌, ◌⊎◌, ◌%◌, ◌==◌, ℕ, if◌then◌else◌, List, map, Some, slice_index}
use Rattle.df_base.specs.{declared.TheConstants.{FIRST_VERSION, VERSION}, Fields.{spelled}, Image.{Image, IsImage}}
use Rattle.df_format.specs.{declared.header.Header.{Header}, declared.kind.Kind.{Kind}, declared.kind.Kind.TheVariants.{Prepare, Reply, Block, Trailer}, declared.superblock.SuperFields.{SuperFields}}
use Rattle.df_format.specs.{Copies.{content_with}, First.{blank_super}, Making.{blank_header, for_body}, Spelling.{no_checksum, sealed}, Super.{no_checksums}}
use Rattle.df_theory.specs.Units
use Rattle.df_theory.specs.Units.{AnyUnit, BlockPlace, BlockUnit, CopyPlace, CopyUnit, Place, PreparePlace, PrepareUnit, ReplyPlace, ReplyUnit}
use Rattle.df_units.specs.{Bytes.{unit_at}, Meaning.{layout_of, number_of}}
use Rattle.df_model.specs.Supply.{Codec}
use Rattle.df_replica.specs.Below.{DataFile, spelling, version_in}

-- ---- what is made of the words of the theory

-- version 1 names no group
abbrev pub group_in : (boot op : ℕ) → ℕ
group_in boot op = if boot == 0 then 0 else op

-- the header of a message of this kind in this slot, of version 1 where no boot made it and else of version 2; what follows from the body, and the checksum, come as it is sealed
abbrev pub message_header : Kind → DataFile → (slot : ℕ) → Units.Header → Header
message_header kind file slot h = record (blank_header kind file.cluster) {
  parent = spelled 16 h.parent;
  slot = slot;
  client = h.client;
  op = h.op;
  request = h.request;
  mark = h.mark;
  checkpoint = h.checkpoint;
  version = version_in h.boot;
  boot = h.boot;
}

-- of a prepare, in the slot of its op, with its group
abbrev pub prepare_header : DataFile → Units.Header → Header
prepare_header file h = record (message_header Prepare file (h.op % file.layout.slots) h) { group = group_in h.boot h.group; group_last = group_in h.boot h.group_last }

-- of a reply, at a session's place
abbrev pub reply_header : DataFile → (place : ℕ) → Units.Header → Header
reply_header file place h = message_header Reply file place h

-- of a trailer's block, at an address
abbrev pub trailer_header : DataFile → (address : ℕ) → Units.Block → Header
trailer_header file address b = record (blank_header Trailer file.cluster) {
  parent = spelled 16 b.before_checksum;
  op = address;
  request = b.before;
  mark = b.index;
  checkpoint = b.sequence;
  version = version_in b.boot;
  boot = b.boot;
}

-- of any block, at an address: one of kind 0 is a trailer's
abbrev pub block_header : DataFile → (address : ℕ) → Units.Block → Header
block_header file address b = if b.kind == 0 then trailer_header file address b else record (blank_header Block file.cluster) { op = address; block_kind = b.kind; version = version_in b.boot; boot = b.boot }

-- the fields of a superblock of the file: version 1 names nothing, and version 2 the prepare of the head, which is its pin, and replies
abbrev pub fields_of : DataFile → Units.Content → SuperFields
fields_of file c = record (blank_super file.layout file.cluster) {
  version = c.version;
  sequence = c.sequence;
  op = c.op;
  op_checksum = spelled 16 c.op_checksum;
  head = c.head;
  replies = c.replies;
  trailer_address = c.trailer;
  trailer_checksum = spelled 16 c.trailer_checksum;
  trailer_size = c.trailer_size;
  boot = c.boot;
  head_checksum = if c.version == VERSION then spelled 16 c.pin_checksum else no_checksum;
  reply_checksums = if c.version == VERSION then map (spelled 16) c.reply_checksums else no_checksums;
}

-- the checksum of the unit that is made of a header and a body
abbrev pub sum_of_unit : Header → List ℕ → ℕ
sum_of_unit header body = number_of (sealed (for_body header body)).checksum

-- how a file's trailers are spelled, and the checksums that its units get
abbrev pub codec : DataFile → Codec
codec file = record {
  spell = spelling file;
  prepare = λ p. sum_of_unit (prepare_header file p.header) p.body;
  reply = λ place r. sum_of_unit (reply_header file place r.header) r.body;
  block = λ address b. sum_of_unit (block_header file address b) b.body;
  content = λ c. number_of (content_with (fields_of file c)).checksum;
}

-- ---- and so it is with what is shown

-- a superblock of the file: of version 1, which has no boot, or of version 2, with its layout and cluster, and zeros where the version has no fields
pub record IsContentOfFile (file : DataFile) (c : Units.Content) : Type 0 where
  pub version : ((c.version ≡ FIRST_VERSION) × (c.boot ≡ 0)) ⊎ (c.version ≡ VERSION)
  pub layout : c.layout ≡ layout_of file.layout
  pub cluster : c.cluster ≡ file.cluster
  pub rest : (i : ℕ) → slice_index c.rest i ≡ 0

-- the unit has the checksum that the codec gives to what it says at this place; headers of the ring have those of their prepares
abbrev pub HasCodecSum : DataFile → Place → AnyUnit → Type 0
HasCodecSum file (CopyPlace n) (CopyUnit c) = IsContentOfFile file c → c.checksum ≡ (codec file).content c
HasCodecSum file (PreparePlace s) (PrepareUnit p) = p.header.checksum ≡ (codec file).prepare p
HasCodecSum file (ReplyPlace k) (ReplyUnit r) = r.header.checksum ≡ (codec file).reply k r
HasCodecSum file (BlockPlace a) (BlockUnit b) = b.checksum ≡ (codec file).block a b
HasCodecSum file place x = Unit {0}

-- so has each unit that an image shows
abbrev pub UnitsHaveSums : Type 0
UnitsHaveSums = (file : DataFile) (image : Image) (place : Place) (x : AnyUnit) → IsImage image → unit_at file.layout file.cluster image place ≡ Some x → HasCodecSum file place x
