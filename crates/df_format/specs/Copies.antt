-- The copy of the superblock that a sector is, and what the four sectors of an image say.
use Rattle.std.specs.Prelude.{◌+◌, ◌-◌, ◌*◌, ◌==◌, ◌&&◌, ℕ, zero, suc, Bool, not, nat_lt, if◌then◌else◌, List, [], ◌∷◌, take, drop, replicate, position, option_map, Option, Some, None, Result, Ok, Err}
use Rattle.std.specs.{Option.{option_or}, Str.{bytes_eq}}
use Rattle.df_base.specs.{declared.TheConstants.{SECTOR, VERSION}, Fields.{field_at, check_of}, Image.{Image}}
use Rattle.df_layout.specs.{declared.damage.Class.{Class}, declared.damage.Class.TheVariants.{Blank, Garbled, Elsewhere, Stale}, declared.places.Zone.TheVariants.{Superblock}}
use Rattle.df_format.specs.{Own.{place_in}, Super.{covered_bytes}, declared.superblock.SuperFields.{SuperFields}, declared.superblock.SuperCopy.{SuperCopy}}

-- the offset of the first byte from one offset up to another that isn't zero
abbrev pub nonzero_between : ℕ → ℕ → List ℕ → Option ℕ
nonzero_between at end bytes = option_map (λ i. at + i) (position (λ b. not (b == 0)) (take (end - at) (drop at bytes)))

-- the offset of the first byte that isn't zero where the version has no fields: in version 2 between the checksum of the head's
-- prepare and those of the replies, and after these; in any other after the boot
abbrev pub first_nonzero_of : ℕ → List ℕ → Option ℕ
first_nonzero_of version bytes = if version == VERSION then option_or (nonzero_between 176 192 bytes) (nonzero_between 1216 SECTOR bytes) else nonzero_between 160 SECTOR bytes

-- this many checksums, one after the other from an offset on
unfoldable pub checks_at : ℕ → ℕ → List ℕ → List (List ℕ)
checks_at zero at bytes = []
checks_at (suc n) at bytes = take 16 (drop at bytes) ∷ checks_at n (at + 16) bytes

-- the fields as they stand at their offsets
unfoldable pub super_fields_of : List ℕ → SuperFields
super_fields_of bytes = record {
  version = field_at 4 32 bytes;
  slots = field_at 4 36 bytes;
  message_size = field_at 4 40 bytes;
  clients = field_at 4 44 bytes;
  block_size = field_at 4 64 bytes;
  blocks = field_at 4 68 bytes;
  cluster = field_at 16 48 bytes;
  sequence = field_at 8 72 bytes;
  op = field_at 8 80 bytes;
  op_checksum = take 16 (drop 112 bytes);
  head = field_at 8 88 bytes;
  replies = field_at 8 96 bytes;
  trailer_address = field_at 8 104 bytes;
  trailer_checksum = take 16 (drop 128 bytes);
  trailer_size = field_at 8 144 bytes;
  boot = field_at 8 152 bytes;
  head_checksum = take 16 (drop 160 bytes);
  reply_checksums = checks_at 64 192 bytes;
  first_nonzero = first_nonzero_of (field_at 4 32 bytes) bytes;
}

-- the checksum is that of all after the number and its zeros
abbrev pub has_checksum : List ℕ → Bool
has_checksum bytes = bytes_eq (take 16 bytes) (check_of (drop 32 bytes))

-- the bytes after the number are zero
abbrev pub has_zeros : List ℕ → Bool
has_zeros bytes = bytes_eq (take 12 (drop 20 bytes)) (replicate 12 0)

-- the checksum is right, the number is that of a copy, and the bytes after it are zero
unfoldable pub is_copy : List ℕ → Bool
is_copy bytes = has_checksum bytes && nat_lt (field_at 4 16 bytes) 4 && has_zeros bytes

-- the copy that the bytes of a sector are, where they are one
unfoldable pub copy_in : List ℕ → Option SuperCopy
copy_in bytes = if is_copy bytes then Some (record { number = field_at 4 16 bytes; checksum = take 16 bytes; fields = super_fields_of bytes }) else None

-- the copy, if it belongs here
abbrev pub if_here : ℕ → Option SuperCopy → Option SuperCopy
if_here number None = None
if_here number (Some copy) = if copy.number == number then Some copy else None

-- the copy that an image shows at its own place: each has one sector, the first of them sector 0
unfoldable pub copy_at : Image → ℕ → Option SuperCopy
copy_at image number = if_here number (copy_in (image number))

-- What copies agree on: the checksum and the fields, not the number.
pub record Content : Type 0 where
  pub checksum : List ℕ
  pub fields : SuperFields

abbrev pub content_in_copy : Option SuperCopy → Option Content
content_in_copy None = None
content_in_copy (Some copy) = Some (record { checksum = copy.checksum; fields = copy.fields })

-- the content that an image shows at a copy's place
abbrev pub content_at : Image → ℕ → Option Content
content_at image number = content_in_copy (copy_at image number)

-- the content that copies of these fields are written with
abbrev pub content_with : SuperFields → Content
content_with f = record { checksum = check_of (covered_bytes f); fields = f }

-- the order of contents, whatever their version: by sequence, and by boot where these are equal; a boot is below 2^64
abbrev pub rank_of_copy : Content → ℕ
rank_of_copy c = 18446744073709551616 * c.fields.sequence + c.fields.boot

-- all bytes of the sector are zero, as one that was never written shows
unfoldable pub is_blank_copy : List ℕ → Bool
is_blank_copy bytes = bytes_eq bytes (replicate SECTOR 0)

-- the class of a sector that is no copy
abbrev pub class_of_no_copy : List ℕ → Class
class_of_no_copy bytes = if is_blank_copy bytes then Blank else Garbled

abbrev pub class_of_sound : ℕ → Option SuperCopy → Class
class_of_sound number None = Garbled
class_of_sound number (Some copy) = if copy.number == number then Stale else Elsewhere (place_in Superblock copy.number)

-- the class of a sector at a copy's place that isn't the copy wanted: the first that applies
unfoldable pub class_of_copy : ℕ → List ℕ → Class
class_of_copy number bytes = if is_blank_copy bytes then Blank else class_of_sound number (copy_in bytes)

-- the copy that belongs at this place, or the class of what is there
abbrev pub copy_or_class : Option SuperCopy → Class → Result SuperCopy Class
copy_or_class None class = Err class
copy_or_class (Some copy) class = Ok copy

-- what the bytes of a sector show at a copy's place: the copy valid there, or the class of what is there
abbrev pub own_copy : ℕ → List ℕ → Result SuperCopy Class
own_copy number bytes = copy_or_class (if_here number (copy_in bytes)) (class_of_copy number bytes)
