-- The rules of each kind's header that need no layout, and those of its version. A field that kind and version don't name is zero.
use Rattle.std.specs.Prelude.{◌≡◌, ◌↔◌, ◌⊎◌, ◌<◌, ◌≤◌, ◌+◌, ◌^◌, ℕ, []}
use Rattle.df_base.specs.{declared.TheConstants.{FIRST_VERSION, GREATEST, HEADER, VERSION}, Fields.{check_of}}
use Rattle.df_format.specs.{declared.header.Header.{Header}, declared.kind.Kind.{Kind}, declared.kind.Kind.TheVariants.{Reserved, Prepare, Reply, Block, Trailer}}
use Rattle.df_format.specs.Spelling.{IsCheck, no_checksum, spelling_rest}

-- ops, requests and sequences count from 1
abbrev pub IsCounter : ℕ → Type 0
IsCounter n = (0 < n) × (n ≤ GREATEST)

-- an empty slot of the header ring: the header names the slot and has no body
pub record ObeysReserved (h : Header) : Type 0 where
  pub body : h.checksum_body ≡ check_of []
  pub parent : h.parent ≡ no_checksum
  pub client : h.client ≡ 0
  pub op : h.op ≡ 0
  pub request : h.request ≡ 0
  pub mark : h.mark ≡ 0
  pub checkpoint : h.checkpoint ≡ 0
  pub size : h.size ≡ HEADER
  pub block_kind : h.block_kind ≡ 0

-- an entry of the log: the first has no parent, and fewer replies were stored than there are ops
pub record ObeysPrepare (h : Header) : Type 0 where
  pub first : h.op ≡ 1 → h.parent ≡ no_checksum
  pub client : 0 < h.client
  pub op : IsCounter h.op
  pub request : IsCounter h.request
  pub mark : h.mark < h.op
  pub checkpoint : IsCounter h.checkpoint
  pub block_kind : h.block_kind ≡ 0

-- the answer to a prepare, with its numbers: the greatest op at the time is that op or a later one
pub record ObeysReply (h : Header) : Type 0 where
  pub client : 0 < h.client
  pub op : IsCounter h.op
  pub request : IsCounter h.request
  pub mark : (h.op ≤ h.mark) × (h.mark ≤ GREATEST)
  pub checkpoint : IsCounter h.checkpoint
  pub block_kind : h.block_kind ≡ 0

-- a block of the grid: its address and its kind alone
pub record ObeysBlock (h : Header) : Type 0 where
  pub parent : h.parent ≡ no_checksum
  pub client : h.client ≡ 0
  pub op : 0 < h.op
  pub request : h.request ≡ 0
  pub mark : h.mark ≡ 0
  pub checkpoint : h.checkpoint ≡ 0
  pub slot : h.slot ≡ 0
  pub block_kind : 0 < h.block_kind

-- a block of a checkpoint's trailer: its address, its index (mark), and the block before it, which index 0 hasn't
pub record ObeysTrailer (h : Header) : Type 0 where
  pub first : h.mark ≡ 0 → h.parent ≡ no_checksum
  pub client : h.client ≡ 0
  pub op : 0 < h.op
  pub request : (h.request ≡ 0) ↔ (h.mark ≡ 0)
  pub checkpoint : (2 ≤ h.checkpoint) × (h.checkpoint ≤ GREATEST)
  pub slot : h.slot ≡ 0
  pub block_kind : h.block_kind ≡ 0

-- the rules of a kind
abbrev pub ObeysKind : Kind → Header → Type 0
ObeysKind Reserved h = ObeysReserved h
ObeysKind Prepare h = ObeysPrepare h
ObeysKind Reply h = ObeysReply h
ObeysKind Block h = ObeysBlock h
ObeysKind Trailer h = ObeysTrailer h

-- a header of version 1: it says nothing of boots and groups
pub record ObeysFirst (h : Header) : Type 0 where
  pub version : h.version ≡ FIRST_VERSION
  pub boot : h.boot ≡ 0
  pub group : h.group ≡ 0
  pub group_last : h.group_last ≡ 0

-- a group of at most eight prepares, by its first and its last op, one of which is this
pub record IsGroup (op first last : ℕ) : Type 0 where
  pub begins : (0 < first) × (first ≤ op)
  pub ends : (op ≤ last) × (last ≤ first + 7)

-- a unit that was appended with no group
pub record IsUngrouped (first last : ℕ) : Type 0 where
  pub none_first : first ≡ 0
  pub none_last : last ≡ 0

-- what each kind says of its boot in version 2: a reserved header is made in none
abbrev pub HasBoot : Kind → ℕ → Type 0
HasBoot Reserved boot = boot ≡ 0
HasBoot Prepare boot = IsCounter boot
HasBoot Reply boot = IsCounter boot
HasBoot Block boot = IsCounter boot
HasBoot Trailer boot = IsCounter boot

-- and of its group: prepares alone are appended in groups
abbrev pub HasGroup : Kind → ℕ → ℕ → ℕ → Type 0
HasGroup Reserved op first last = IsUngrouped first last
HasGroup Prepare op first last = IsGroup op first last
HasGroup Reply op first last = IsUngrouped first last
HasGroup Block op first last = IsUngrouped first last
HasGroup Trailer op first last = IsUngrouped first last

-- a header of version 2
pub record ObeysSecond (kind : Kind) (h : Header) : Type 0 where
  pub version : h.version ≡ VERSION
  pub boot : HasBoot kind h.boot
  pub group : HasGroup kind h.op h.group h.group_last

-- the rules of a version
abbrev pub ObeysVersion : Kind → Header → Type 0
ObeysVersion kind h = ObeysFirst h ⊎ ObeysSecond kind h

-- each field fits its bytes
pub record FitsFields (h : Header) : Type 0 where
  pub body : IsCheck h.checksum_body
  pub cluster : h.cluster < 2 ^ 128
  pub parent : IsCheck h.parent
  pub client : h.client < 2 ^ 128
  pub op : h.op < 2 ^ 64
  pub request : h.request < 2 ^ 64
  pub mark : h.mark < 2 ^ 64
  pub checkpoint : h.checkpoint < 2 ^ 64
  pub size : h.size < 2 ^ 32
  pub slot : h.slot < 2 ^ 32
  pub block_kind : h.block_kind < 256
  pub version : h.version < 2 ^ 16
  pub boot : h.boot < 2 ^ 64
  pub group : h.group < 2 ^ 64
  pub group_last : h.group_last < 2 ^ 64

-- what a header says is in range, whatever the layout
pub record ObeysRules (h : Header) : Type 0 where
  pub fits : FitsFields h
  pub cluster : 0 < h.cluster
  pub size : HEADER ≤ h.size
  pub kind : ObeysKind h.kind h
  pub version : ObeysVersion h.kind h

-- a header that obeys the rules, with the checksum that its other fields give
pub record IsSealed (h : Header) : Type 0 where
  pub rules : ObeysRules h
  pub checksum : h.checksum ≡ check_of (spelling_rest h)
