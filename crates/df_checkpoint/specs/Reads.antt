-- What is read of a checkpoint's trailer: all of it, or where the reading ends.
use Rattle.std.specs.Prelude.{◌≡◌, ◌⊎◌, ◌-◌, ◌<◌, ◌≤◌, ℕ, true, List, [], length, map, Some, None, Result, Ok, Err}
use Rattle.df_base.specs.declared.TheConstants.{HEADER}
use Rattle.df_layout.specs.{declared.fields.Field.{Field}, declared.fields.Field.TheVariants.{TrailerChain}}
use Rattle.df_theory.specs.{Units.{Block, BlockPlace, BlockUnit, Content, Layout, Parts}, Shape.{Shape}, Trailer.{InChain, IsCount, IsTrailer, Links, text_of}}
use Rattle.df_model.specs.{Blocks.{Blocks, addresses, entries, pair_of}, Supply.{Shown}, Work.{is_known}}
use Rattle.arrayvec.specs.ArrayVec.{ArrayVec}
use Rattle.df_trailer.specs.{declared.reader.Reader.{Reader}, Reading.{HasRead, failing_in}, Text.{fault, parts_of}}
use Rattle.df_grid.specs.Grid.{GridState}
use Rattle.df_checkpoint.specs.{declared.links.Link.{Link}, declared.fault.TrailerFault.{TrailerFault}, declared.fault.TrailerFault.TheVariants.{Damaged, BadField, DiskFault}}
use Rattle.df_checkpoint.specs.Chain.{IsBroken, IsLacking, Names}

-- the chain that the superblock names is shown whole, each block a link of it
pub record IsWholeChain (sh : Shape) (shown : Shown) (c : Content) (chain : List (ℕ × Block)) : Type 0 where
  pub links : Links (sh.layout.block_size - HEADER) c chain c.trailer c.trailer_checksum
  pub count : IsCount (sh.layout.block_size - HEADER) c.trailer_size (length chain)
  pub inside : (a : ℕ) (b : Block) → InChain a b chain → a ≤ sh.layout.blocks
  pub size : length (text_of chain) ≡ c.trailer_size
  pub shows : (a : ℕ) (b : Block) → InChain a b chain → shown.units (BlockPlace a) ≡ Some (BlockUnit b)

-- it is the chain that these references name
pub record IsNamedChain (sh : Shape) (shown : Shown) (c : Content) (refs : List Link) : Type 0 where
  pub chain : List (ℕ × Block)
  pub names : Names shown refs chain
  pub whole : IsWholeChain sh shown c chain

abbrev pub FoundAnswer : Shape → Shown → Content → Result (ArrayVec Link) TrailerFault → Type 0
FoundAnswer sh shown c (Ok blocks) = IsNamedChain sh shown c blocks.items
FoundAnswer sh shown c (Err (Damaged address class)) = IsLacking sh shown c address class
FoundAnswer sh shown c (Err (BadField field value)) = (field ≡ TrailerChain) × IsBroken sh shown c value
FoundAnswer sh shown c (Err DiskFault) = Unit {0}

-- ---- the answer

-- what the grid holds of a checkpoint: the blocks that it references, which are live, and those of its chain
abbrev pub blocks_read : Layout → Parts → List (ℕ × Block) → Blocks
blocks_read l parts chain = record {
  live = entries parts.references (addresses l);
  captured = [];
  written = [];
  left = [];
  durable = entries parts.references (addresses l);
  chain = map pair_of chain;
}

-- the trailer is read: the grid holds what it names, and the reader has its text
pub record IsAdopted (sh : Shape) (shown : Shown) (c : Content) (g : GridState) (reader : Reader) : Type 0 where
  pub chain : List (ℕ × Block)
  pub parts : Parts
  pub trailer : IsTrailer sh c chain parts
  pub shows : (a : ℕ) (b : Block) → InChain a b chain → shown.units (BlockPlace a) ≡ Some (BlockUnit b)
  pub parts_are : parts ≡ parts_of sh.layout (text_of chain)
  pub has : HasRead g.layout c.op reader (text_of chain)
  pub blocks : g.blocks ≡ blocks_read sh.layout parts chain

-- the chain is whole, and this is the first part of its text that fails
pub record IsBadText (sh : Shape) (shown : Shown) (c : Content) (field : Field) (value : ℕ) : Type 0 where
  pub chain : List (ℕ × Block)
  pub whole : IsWholeChain sh shown c chain
  pub fails : fault sh.layout c.op (text_of chain) ≡ Some (record { field = field; value = value })

-- the chain is whole and its text is one, which references an address of the chain; this is the least one
pub record IsReferenced (sh : Shape) (shown : Shown) (c : Content) (at : ℕ) : Type 0 where
  pub chain : List (ℕ × Block)
  pub whole : IsWholeChain sh shown c chain
  pub parts : Parts
  pub says : sh.parse c.op (text_of chain) ≡ Some parts
  pub block : Block
  pub chained : InChain at block chain
  pub known : is_known (parts.references at) ≡ true
  pub least : (a : ℕ) (b : Block) → InChain a b chain → a < at → parts.references a ≡ None

-- the trailer is read, or the first refusal in the order of open names its place and its value
abbrev pub ChainAnswer : Shape → Shown → Content → GridState → Reader → Result (Unit {0}) TrailerFault → Type 0
ChainAnswer sh shown c g reader (Ok x) = IsAdopted sh shown c g reader
ChainAnswer sh shown c g reader (Err (Damaged address class)) = IsLacking sh shown c address class
ChainAnswer sh shown c g reader (Err (BadField field value)) = ((field ≡ TrailerChain) × IsBroken sh shown c value) ⊎ (IsBadText sh shown c field value ⊎ ((field ≡ TrailerChain) × IsReferenced sh shown c value))
ChainAnswer sh shown c g reader (Err DiskFault) = Unit {0}

-- of any disk, the reader that has read a whole text in which nothing fails gives its parts
pub record IsCompleteReader (g : GridState) (op : ℕ) (reader : Reader) : Type 0 where
  pub text : List ℕ
  pub has : HasRead g.layout op reader text
  pub whole : failing_in reader ≡ None
