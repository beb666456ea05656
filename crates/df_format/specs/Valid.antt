-- What a unit valid at a place is, said of the unit and not of bytes; and which bytes show it.
use Rattle.std.specs.Prelude.{◌≡◌, ◌⊎◌, ◌≤◌, ◌+◌, ◌%◌, ℕ, List, [], ◌++◌, length, Some}
use Rattle.df_base.specs.{declared.TheConstants.{HEADER}, Fields.{AreBytes, check_of}}
use Rattle.df_layout.specs.{declared.layout.Layout.{Layout}, declared.places.Place.{Place}, declared.places.Zone.{Zone}}
use Rattle.df_layout.specs.declared.places.Zone.TheVariants.{Superblock, WalHeaders, WalPrepares, ClientReplies, Grid}
use Rattle.df_format.specs.{declared.header.Header.{Header}, declared.kind.Kind.TheVariants.{Reserved, Prepare, Reply, Block, Trailer}, Rules.{IsSealed}, Message.{Message, unit_bytes}}
use Rattle.df_format.specs.{Own.{own_place}, Whole.{greatest_size}}

-- the body is bytes, of the length and with the checksum that the header says
pub record IsBodyOf (h : Header) (body : List ℕ) : Type 0 where
  pub size : h.size ≡ HEADER + length body
  pub checksum : h.checksum_body ≡ check_of body
  pub each : AreBytes body

-- in the header ring a unit is a header alone
abbrev pub HasBody : Zone → Header → List ℕ → Type 0
HasBody WalHeaders h body = body ≡ []
HasBody zone h body = IsBodyOf h body

-- A unit that is valid at a place of this file: sealed, of its cluster, no longer than fits there, with its body, and
-- at its own place.
pub record IsUnit (layout : Layout) (cluster : ℕ) (place : Place) (u : Message) : Type 0 where
  pub sealed : IsSealed u.header
  pub owner : u.header.cluster ≡ cluster
  pub fits : u.header.size ≤ greatest_size layout place.zone
  pub body : HasBody place.zone u.header u.body
  pub own : own_place layout place.zone u.header ≡ Some place

-- the bytes of a place begin with a unit that is valid there
pub record BeginsWithUnit (layout : Layout) (cluster : ℕ) (place : Place) (bytes : List ℕ) (u : Message) : Type 0 where
  pub is : IsUnit layout cluster place u
  pub rest : List ℕ
  pub spelled : bytes ≡ unit_bytes u ++ rest

-- a prepare's header belongs in the slot of its op
pub record IsInSlot (layout : Layout) (index : ℕ) (h : Header) : Type 0 where
  pub kind : h.kind ≡ Prepare
  pub slot : h.slot ≡ index
  pub op : h.op % layout.slots ≡ index

-- a reserved header belongs in the slot that it names
pub record IsForSlot (index : ℕ) (h : Header) : Type 0 where
  pub kind : h.kind ≡ Reserved
  pub slot : h.slot ≡ index

-- a reply belongs at its session's place
pub record IsOfSession (index : ℕ) (h : Header) : Type 0 where
  pub kind : h.kind ≡ Reply
  pub slot : h.slot ≡ index

-- a block and a trailer block belong at their address
pub record IsAtAddress (address : ℕ) (h : Header) : Type 0 where
  pub kind : (h.kind ≡ Block) ⊎ (h.kind ≡ Trailer)
  pub op : h.op ≡ address

-- what the header of a unit says, by the place that it is valid at
abbrev pub Belongs : Layout → Zone → ℕ → Header → Type 0
Belongs layout Superblock index h = ⊥
Belongs layout WalHeaders index h = IsForSlot index h ⊎ IsInSlot layout index h
Belongs layout WalPrepares index h = IsInSlot layout index h
Belongs layout ClientReplies index h = IsOfSession index h
Belongs layout Grid index h = IsAtAddress index h
