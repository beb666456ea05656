-- The places of a data file, and the units that an image shows at them.
use Rattle.std.specs.Prelude.{◌≡◌, ℕ, Bool, true, false, List, Option, Some, None}

-- a place for one unit: a superblock copy, a slot of the header ring, of the prepare ring or of the client replies, a block of the grid
pub data Place : Type 0 where
  CopyPlace : (number : ℕ) → Place
  HeaderPlace : (slot : ℕ) → Place
  PreparePlace : (slot : ℕ) → Place
  ReplyPlace : (place : ℕ) → Place
  BlockPlace : (address : ℕ) → Place

-- the header of a prepare or of a reply; a reserved header has op 0
pub record Header : Type 0 where
  pub checksum : ℕ
  pub parent : ℕ
  pub client : ℕ
  pub op : ℕ
  pub request : ℕ
  pub mark : ℕ  -- as it was made: of a prepare the number of replies, of a reply the head
  pub checkpoint : ℕ  -- the superblock's sequence as it was made
  pub boot : ℕ  -- the number of the boot that made it, 0 in version 1
  pub group : ℕ  -- the first op of the group that it was appended with: its own where it was appended alone, and of a reply
  pub group_last : ℕ  -- and the last

-- a reserved header, of a slot that no prepare went into
pub record IsReserved (h : Header) : Type 0 where
  pub op : h.op ≡ 0
  pub checkpoint : h.checkpoint ≡ 0
  pub boot : h.boot ≡ 0

-- a group of one
pub record IsAlone (h : Header) : Type 0 where
  pub first : h.group ≡ h.op
  pub last : h.group_last ≡ h.op

-- a prepare or a reply
pub record Message : Type 0 where
  pub header : Header
  pub body : List ℕ

-- the last request of a client, and its op
pub record Session : Type 0 where
  pub client : ℕ
  pub request : ℕ
  pub op : ℕ

-- how large a file's parts are; sizes in bytes
pub record Layout : Type 0 where
  pub slots : ℕ
  pub message_size : ℕ
  pub clients : ℕ
  pub block_size : ℕ
  pub blocks : ℕ

-- what a superblock copy says, its number aside
pub record Content : Type 0 where
  pub checksum : ℕ  -- of all that the copy says, its number aside
  pub version : ℕ
  pub cluster : ℕ
  pub layout : Layout
  pub sequence : ℕ
  pub boot : ℕ  -- 0 in version 1
  pub op : ℕ
  pub op_checksum : ℕ
  pub head : ℕ  -- the head and the number of replies as the checkpoint ended
  pub replies : ℕ
  pub pin : ℕ  -- up to this op the content names the prepares: op in version 1, head in version 2
  pub pin_checksum : ℕ  -- of the prepare with op pin: op_checksum in version 1, head_checksum in version 2
  pub answered : ℕ  -- the replies to ops below this one are named: 0 in version 1, replies + 1 in version 2
  pub reply_checksums : List ℕ  -- by place; none in version 1
  pub trailer : ℕ  -- the address of the last trailer block, 0 where there is none
  pub trailer_checksum : ℕ
  pub trailer_size : ℕ
  pub rest : List ℕ  -- what version 1 leaves empty: zeros in a file that can be used

-- a block; of a trailer block its place in the chain and the block before it, with address 0 for none
pub record Block : Type 0 where
  pub checksum : ℕ
  pub kind : ℕ  -- 0 of a trailer block
  pub sequence : ℕ
  pub index : ℕ
  pub before : ℕ
  pub before_checksum : ℕ
  pub boot : ℕ  -- the number of the boot that made it, 0 in version 1
  pub body : List ℕ

-- what a trailer says
pub record Parts : Type 0 where
  pub root : List ℕ
  pub sessions : List Session
  pub references : ℕ → Option ℕ  -- the checksum of each referenced block, by address

-- a unit of one of the five kinds
pub data AnyUnit : Type 0 where
  CopyUnit : (content : Content) → AnyUnit
  HeaderUnit : (header : Header) → AnyUnit
  PrepareUnit : (prepare : Message) → AnyUnit
  ReplyUnit : (reply : Message) → AnyUnit
  BlockUnit : (block : Block) → AnyUnit

-- an image, read place by place: the valid unit that it shows there
abbrev pub Units : Type 0
Units = Place → Option AnyUnit

abbrev pub or_else : Option AnyUnit → Option AnyUnit → Option AnyUnit
or_else (Some x) y = Some x
or_else None y = y

-- an image with these units put over it
abbrev pub overlay : Units → Units → Units
overlay put image place = or_else (put place) (image place)

abbrev pub is_some : Option AnyUnit → Bool
is_some (Some x) = true
is_some None = false
