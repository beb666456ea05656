-- The whole unit that the bytes of a place are, wherever it belongs.
use Rattle.std.specs.{Prelude.{◌-◌, ◌==◌, ℕ, List, [], Bool, true, ◌&&◌, nat_le, if◌then◌else◌, take, drop, Option, Some, None}, Str.{bytes_eq}}
use Rattle.df_base.specs.{declared.TheConstants.{HEADER}, Fields.{check_of}}
use Rattle.df_layout.specs.{declared.layout.Layout.{Layout}, declared.places.Place.{Place}, declared.places.Zone.{Zone}}
use Rattle.df_layout.specs.declared.places.Zone.TheVariants.{Superblock, WalHeaders, WalPrepares, ClientReplies, Grid}
use Rattle.df_format.specs.{declared.header.Header.{Header}, Reading.{header_in}, Message.{Message}, Own.{own_place}}

-- a unit, and the place that it belongs at
pub record Whole : Type 0 where
  pub unit : Message
  pub own : Place

-- the greatest size of a unit that is read in a zone
abbrev pub greatest_size : Layout → Zone → ℕ
greatest_size layout Superblock = 0
greatest_size layout WalHeaders = layout.message_size
greatest_size layout WalPrepares = layout.message_size
greatest_size layout ClientReplies = layout.message_size
greatest_size layout Grid = layout.block_size

-- the body of a unit that is read in a zone: in the header ring there is none
abbrev pub body_in : Zone → ℕ → List ℕ → List ℕ
body_in WalHeaders size bytes = []
body_in zone size bytes = take (size - HEADER) (drop HEADER bytes)

-- its checksum is right; in the header ring the body isn't tested
abbrev pub has_body : Zone → Header → List ℕ → Bool
has_body WalHeaders h bytes = true
has_body zone h bytes = bytes_eq h.checksum_body (check_of (take (h.size - HEADER) (drop HEADER bytes)))

-- the tests of a header by the file's cluster, the zone that it is read in, and the body
abbrev pub is_unit : Layout → ℕ → Zone → List ℕ → Header → Bool
is_unit layout cluster zone bytes h = (h.cluster == cluster) && nat_le h.size (greatest_size layout zone) && has_body zone h bytes

-- the header with its body, if it has an own place
abbrev pub with_own : Zone → List ℕ → Header → Option Place → Option Whole
with_own zone bytes h None = None
with_own zone bytes h (Some own) = Some (record { unit = record { header = h; body = body_in zone h.size bytes }; own = own })

-- and if it passes the tests
abbrev pub if_unit : Layout → ℕ → Zone → List ℕ → Option Header → Option Whole
if_unit layout cluster zone bytes None = None
if_unit layout cluster zone bytes (Some h) = if is_unit layout cluster zone bytes h then with_own zone bytes h (own_place layout zone h) else None

-- the whole unit that bytes are, which are read in a zone
unfoldable pub whole_in : Layout → ℕ → Zone → List ℕ → Option Whole
whole_in layout cluster zone bytes = if_unit layout cluster zone bytes (header_in (take HEADER bytes))

-- its header, and where it belongs
abbrev pub owner_of : Option Whole → Option (Header × Place)
owner_of None = None
owner_of (Some w) = Some (w.unit.header, w.own)
