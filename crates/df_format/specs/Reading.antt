-- The fields of a header at their offsets, and the tests that its bytes have to pass.
use Rattle.std.specs.{Prelude.{◌+◌, ◌==◌, ℕ, List, [], Bool, ◌&&◌, ◌||◌, not, nat_lt, nat_le, if◌then◌else◌, take, drop, replicate, slice_index, Option, Some, None}, Str.{bytes_eq}}
use Rattle.df_base.specs.{declared.TheConstants.{FIRST_VERSION, GREATEST, HEADER, VERSION}, Fields.{field_at, check_of}}
use Rattle.df_format.specs.{declared.header.Header.{Header}, declared.kind.Kind.{Kind}, declared.kind.Kind.TheVariants.{Reserved, Prepare, Reply, Block, Trailer}, Spelling.{no_checksum}}

-- the kind of a code
unfoldable pub kind_of : ℕ → Option Kind
kind_of code =
    if code == 1 then Some Reserved
    else (if code == 2 then Some Prepare else (if code == 3 then Some Reply else (if code == 4 then Some Block else (if code == 5 then Some Trailer else None))))

-- the fields as they stand, wherever the bytes come from, for the kind that byte 120 says
unfoldable pub fields_of : Kind → List ℕ → Header
fields_of kind bytes = record {
  checksum = take 16 bytes;
  checksum_body = take 16 (drop 16 bytes);
  cluster = field_at 16 32 bytes;
  parent = take 16 (drop 48 bytes);
  client = field_at 16 64 bytes;
  op = field_at 8 80 bytes;
  request = field_at 8 88 bytes;
  mark = field_at 8 96 bytes;
  checkpoint = field_at 8 104 bytes;
  size = field_at 4 112 bytes;
  slot = field_at 4 116 bytes;
  kind = kind;
  block_kind = slice_index bytes 121;
  version = field_at 2 122 bytes;
  boot = field_at 8 124 bytes;
  group = field_at 8 132 bytes;
  group_last = field_at 8 140 bytes;
}

-- a number from 1 to 2 ^ 62
abbrev pub is_counter : ℕ → Bool
is_counter n = nat_lt 0 n && nat_le n GREATEST

-- no parent
abbrev pub has_no_parent : Header → Bool
has_no_parent h = bytes_eq h.parent no_checksum

-- the tests of a prepare's header
unfoldable pub is_prepare : Header → Bool
is_prepare h =
    (not (h.op == 1) || has_no_parent h)
    && nat_lt 0 h.client
    && is_counter h.op
    && is_counter h.request
    && nat_lt h.mark h.op
    && is_counter h.checkpoint
    && (h.block_kind == 0)

-- of a reply's
unfoldable pub is_reply : Header → Bool
is_reply h =
    nat_lt 0 h.client
    && is_counter h.op
    && is_counter h.request
    && nat_le h.op h.mark
    && nat_le h.mark GREATEST
    && is_counter h.checkpoint
    && (h.block_kind == 0)

-- neither a parent nor a client, no numbers of a request and a checkpoint
unfoldable pub is_bare : Header → Bool
is_bare h = has_no_parent h && (h.client == 0) && (h.request == 0) && (h.mark == 0) && (h.checkpoint == 0)

-- of a reserved header
unfoldable pub is_reserved : Header → Bool
is_reserved h = is_bare h && bytes_eq h.checksum_body (check_of []) && (h.op == 0) && (h.size == HEADER) && (h.block_kind == 0)

-- of a block's
unfoldable pub is_block : Header → Bool
is_block h = is_bare h && nat_lt 0 h.op && (h.slot == 0) && nat_lt 0 h.block_kind

-- a trailer block with index 0 has no parent and none before it, and any other names the one before it
abbrev pub is_linked : Header → Bool
is_linked h = if h.mark == 0 then (h.request == 0) && has_no_parent h else nat_lt 0 h.request

-- of a trailer block's
unfoldable pub is_trailer : Header → Bool
is_trailer h =
    is_linked h
    && (h.client == 0)
    && nat_lt 0 h.op
    && nat_le 2 h.checkpoint
    && nat_le h.checkpoint GREATEST
    && (h.slot == 0)
    && (h.block_kind == 0)

-- of a kind's
abbrev pub is_of_kind : Kind → Header → Bool
is_of_kind Reserved h = is_reserved h
is_of_kind Prepare h = is_prepare h
is_of_kind Reply h = is_reply h
is_of_kind Block h = is_block h
is_of_kind Trailer h = is_trailer h

-- no group
unfoldable pub is_ungrouped : Header → Bool
is_ungrouped h = (h.group == 0) && (h.group_last == 0)

-- a group of at most eight ops, one of which is the header's
unfoldable pub is_grouped : Header → Bool
is_grouped h = nat_lt 0 h.group && nat_le h.group h.op && nat_le h.op h.group_last && nat_le h.group_last (h.group + 7)

-- neither a boot nor a group, as in version 1
unfoldable pub is_first : Header → Bool
is_first h = (h.version == FIRST_VERSION) && (h.boot == 0) && is_ungrouped h

-- the boot of version 2
abbrev pub has_boot : Kind → Header → Bool
has_boot Reserved h = h.boot == 0
has_boot kind h = is_counter h.boot

-- and its group
abbrev pub has_group : Kind → Header → Bool
has_group Prepare h = is_grouped h
has_group kind h = is_ungrouped h

-- what a header says as one of version 2
unfoldable pub is_second : Kind → Header → Bool
is_second kind h = (h.version == VERSION) && has_boot kind h && has_group kind h

-- one of the two versions
abbrev pub has_version : Header → Bool
has_version h = is_first h || is_second h.kind h

-- the numbers of a header are in their ranges
abbrev pub has_numbers : Header → Bool
has_numbers h = nat_lt 0 h.cluster && nat_le HEADER h.size && is_of_kind h.kind h && has_version h

-- the bytes after the fields are zero
abbrev pub ends_in_zeros : List ℕ → Bool
ends_in_zeros bytes = bytes_eq (take 108 (drop 148 bytes)) (replicate 108 0)

-- the checksum is right, and zeros stand after the fields
unfoldable pub is_spelled : List ℕ → Bool
is_spelled bytes = bytes_eq (take 16 bytes) (check_of (take 240 (drop 16 bytes))) && ends_in_zeros bytes

-- the header of this kind, where the bytes pass every test that needs no layout
abbrev pub header_of_kind : List ℕ → Option Kind → Option Header
header_of_kind bytes None = None
header_of_kind bytes (Some kind) = if is_spelled bytes && has_numbers (fields_of kind bytes) then Some (fields_of kind bytes) else None

-- the header that 256 bytes are, where they are one
unfoldable pub header_in : List ℕ → Option Header
header_in bytes = header_of_kind bytes (kind_of (slice_index bytes 120))
