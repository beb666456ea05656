-- The rules of a superblock's fields, and which of them is the first that is broken.
use Rattle.std.specs.Prelude.{◌≡◌, ◌≢◌, ◌↔◌, ◌⊎◌, ◌<◌, ◌≤◌, ◌+◌, ◌*◌, ◌/◌, ◌%◌, ◌==◌, ◌&&◌, ◌||◌, ℕ, Bool, not, nat_le, nat_lt, is_none, if◌then◌else◌, List, [], ◌∷◌, ◌++◌, drop, position, option_map, Option, Some, None}
use Rattle.std.specs.Str.{bytes_eq}
use Rattle.df_base.specs.{declared.TheConstants.{FIRST_VERSION, GREATEST, SECTOR, VERSION}, Fields.{field_at}}
use Rattle.df_layout.specs.{Limits.{AreWithinLimits}, declared.fields.Field.{Field}}
use Rattle.df_layout.specs.declared.fields.Field.TheVariants.{Slots, MessageSize, Clients, BlockSize, Blocks, Cluster, Sequence, Op, OpChecksum, Head, Replies, TrailerAddress, TrailerChecksum, TrailerSize, Boot, Zero}
use Rattle.df_format.specs.{Spelling.{no_checksum}, Super.{AreNone, FitsSuper, NamesNone}, declared.superblock.SuperFields.{SuperFields}, declared.superblock.SuperFault.{SuperFault}}
use Rattle.df_format.specs.declared.superblock.SuperFault.TheVariants.{Version, BadField}

-- bytes of the longest text that a trailer can have: root, sessions, bits and checksums
abbrev pub greatest_trailer : SuperFields → ℕ
greatest_trailer f = 4 + 1024 + 4 + 32 * f.clients + (f.blocks + 7) / 8 + 16 * f.blocks

-- version 1 has no boots, and names neither the head's prepare nor a reply
pub record IsFirstSuper (f : SuperFields) : Type 0 where
  pub version : f.version ≡ FIRST_VERSION
  pub boot : f.boot ≡ 0
  pub named : NamesNone f

-- version 2 has a boot, 0 before the first one, and names the head's prepare, if there is one, and replies of sessions alone
pub record IsSecondSuper (f : SuperFields) : Type 0 where
  pub version : f.version ≡ VERSION
  pub boot : f.boot ≤ GREATEST
  pub no_head : f.head ≡ 0 → f.head_checksum ≡ no_checksum
  pub head_is_op : f.head ≡ f.op → f.head_checksum ≡ f.op_checksum
  pub spare : AreNone (drop f.clients f.reply_checksums)

-- A superblock that can be used: of one of the two versions, within the limits, its checkpoint's op, the head and the number of
-- replies in order, a trailer where there is a checkpoint, and zeros where its version has no fields.
pub record IsSuper (f : SuperFields) : Type 0 where
  pub version : IsFirstSuper f ⊎ IsSecondSuper f
  pub layout : AreWithinLimits f.slots f.message_size f.clients f.block_size f.blocks
  pub cluster : 0 < f.cluster
  pub sequence : (0 < f.sequence) × (f.sequence ≤ GREATEST)
  pub op : f.op ≤ GREATEST
  pub op_checksum : f.op ≡ 0 → f.op_checksum ≡ no_checksum
  pub head : (f.op ≤ f.head) × (f.head ≤ f.op + f.slots) × (f.head ≤ GREATEST)
  pub replies : (f.replies ≤ f.head) × (f.head ≤ f.replies + 8)
  pub trailer : (f.trailer_address ≤ f.blocks) × (f.op ≢ 0 → f.trailer_address ≢ 0)
  pub trailer_checksum : f.trailer_address ≡ 0 → f.trailer_checksum ≡ no_checksum
  pub no_trailer : f.trailer_address ≡ 0 → f.trailer_size ≡ 0
  pub trailer_size : f.trailer_address ≢ 0 → (0 < f.trailer_size) × (f.trailer_size ≤ greatest_trailer f)
  pub zero : f.first_nonzero ≡ None

-- such fields, each of which fits its bytes
pub record IsUsable (f : SuperFields) : Type 0 where
  pub rules : IsSuper f
  pub fits : FitsSuper f

-- a test of one field: whether it passes, and what is told where it doesn't
pub record Test : Type 0 where
  pub passes : Bool
  pub field : Field
  pub value : ℕ

abbrev pub test : Bool → Field → ℕ → Test
test passes field value = record { passes = passes; field = field; value = value }

-- a number from low to high, in steps
abbrev pub is_between : ℕ → ℕ → ℕ → Bool
is_between low high n = nat_le low n && nat_le n high

abbrev pub is_whole_between : ℕ → ℕ → ℕ → ℕ → Bool
is_whole_between step low high n = is_between low high n && (n % step == 0)

abbrev pub is_zero_check : List ℕ → Bool
is_zero_check checksum = bytes_eq checksum no_checksum

abbrev pub has_trailer_size : SuperFields → Bool
has_trailer_size f = if f.trailer_address == 0 then f.trailer_size == 0 else is_between 1 (greatest_trailer f) f.trailer_size

-- the offset of the first byte that isn't zero
abbrev pub offset_of : Option ℕ → ℕ
offset_of None = 0
offset_of (Some offset) = offset

-- the tests of the fields, in their order: the five numbers of the layout first
abbrev pub size_tests : SuperFields → List Test
size_tests f =
    test (is_whole_between 16 16 1024 f.slots) Slots f.slots
    ∷ test (is_whole_between SECTOR SECTOR 1048576 f.message_size) MessageSize f.message_size
    ∷ test (is_between 1 64 f.clients) Clients f.clients
    ∷ test (is_whole_between SECTOR SECTOR 524288 f.block_size) BlockSize f.block_size
    ∷ test (is_between 8 16384 f.blocks) Blocks f.blocks
    ∷ []

-- whose file it is, which update, and its checkpoint
abbrev pub checkpoint_tests : SuperFields → List Test
checkpoint_tests f =
    test (nat_lt 0 f.cluster) Cluster f.cluster
    ∷ test (is_between 1 GREATEST f.sequence) Sequence f.sequence
    ∷ test (nat_le f.op GREATEST) Op f.op
    ∷ test (not (f.op == 0) || is_zero_check f.op_checksum) OpChecksum (field_at 16 0 f.op_checksum)
    ∷ []

-- how far the file had come
abbrev pub progress_tests : SuperFields → List Test
progress_tests f =
    test (is_between f.op (f.op + f.slots) f.head && nat_le f.head GREATEST) Head f.head
    ∷ test (nat_le f.replies f.head && nat_le f.head (f.replies + 8)) Replies f.replies
    ∷ []

-- the checkpoint's trailer
abbrev pub trailer_tests : SuperFields → List Test
trailer_tests f =
    test (nat_le f.trailer_address f.blocks && ((f.op == 0) || not (f.trailer_address == 0))) TrailerAddress f.trailer_address
    ∷ test (not (f.trailer_address == 0) || is_zero_check f.trailer_checksum) TrailerChecksum (field_at 16 0 f.trailer_checksum)
    ∷ test (has_trailer_size f) TrailerSize f.trailer_size
    ∷ []

-- the first of some checksums that aren't zeros
abbrev pub first_named : List (List ℕ) → Option ℕ
first_named checks = position (λ check. not (is_zero_check check)) checks

-- the first place without a session that has a checksum
abbrev pub first_spare : SuperFields → Option ℕ
first_spare f = option_map (λ i. f.clients + i) (first_named (drop f.clients f.reply_checksums))

-- neither the head's prepare nor a reply is named
abbrev pub names_none : SuperFields → Bool
names_none f = is_zero_check f.head_checksum && is_none (first_named f.reply_checksums)

-- what version 1 leaves empty; of fields that were read the byte that isn't zero says all of it
abbrev pub first_tests : SuperFields → List Test
first_tests f = test (f.boot == 0) Boot f.boot ∷ test (is_none f.first_nonzero && names_none f) Zero (offset_of f.first_nonzero) ∷ []

-- the head's prepare is named as none where there is none, and as the checkpoint's where it is that one
abbrev pub has_head_checksum : SuperFields → Bool
has_head_checksum f = (not (f.head == 0) || is_zero_check f.head_checksum) && (not (f.head == f.op) || bytes_eq f.head_checksum f.op_checksum)

-- the boot of version 2, what it names, and what it leaves empty
abbrev pub second_tests : SuperFields → List Test
second_tests f =
    test (nat_le f.boot GREATEST) Boot f.boot
    ∷ test (has_head_checksum f) Head (field_at 16 0 f.head_checksum)
    ∷ test (is_none (first_spare f)) Replies (offset_of (first_spare f))
    ∷ test (is_none f.first_nonzero) Zero (offset_of f.first_nonzero)
    ∷ []

-- the tests of one version
abbrev pub version_tests : SuperFields → List Test
version_tests f = if f.version == FIRST_VERSION then first_tests f else second_tests f

abbrev pub field_tests : SuperFields → List Test
field_tests f = size_tests f ++ (checkpoint_tests f ++ (progress_tests f ++ (trailer_tests f ++ version_tests f)))

-- the first test that doesn't pass
abbrev pub first_failing : List Test → Option SuperFault
first_failing [] = None
first_failing (t ∷ ts) = if t.passes then first_failing ts else Some (BadField t.field t.value)

-- one of the two versions
abbrev pub is_known_version : ℕ → Bool
is_known_version version = (version == FIRST_VERSION) || (version == VERSION)

-- why a superblock can't be used: its version, or else the first field that is out of its range
unfoldable pub fault_of : SuperFields → Option SuperFault
fault_of f = if is_known_version f.version then first_failing (field_tests f) else Some (Version f.version)

-- for every superblock: it has no fault exactly where it obeys the rules
abbrev pub FaultsAreBrokenRules : Type 0
FaultsAreBrokenRules = (f : SuperFields) → (fault_of f ≡ None) ↔ IsSuper f
