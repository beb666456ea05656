-- The chain of a checkpoint's trailer: what is asked for, what is shown of it, and where it breaks.
use Rattle.std.specs.{Prelude.{◌≡◌, ◌==◌, ◌&&◌, ◌||◌, ◌+◌, ◌-◌, ℕ, Bool, true, false, nat_le, List, [], ◌∷◌, length, Option, Some, None, Result, Ok, Err}, List.{list_any}}
use Rattle.df_base.specs.declared.TheConstants.{HEADER}
use Rattle.arrayvec.specs.ArrayVec.{ArrayVec}
use Rattle.df_disk.specs.Told.{Told}
use Rattle.df_layout.specs.{declared.damage.Class.{Class}, declared.fields.Field.TheVariants.{TrailerChain}, declared.layout.Layout.{Layout}, declared.places.Zone.TheVariants.{Grid}}
use Rattle.df_format.specs.{declared.header.Header.{Header}, declared.superblock.SuperFields.{SuperFields}, Copies.{content_with}, Message.{Message}, Own.{place_in}}
use Rattle.df_theory.specs.{Units.{Block, Content}, Shape.{Shape}, Trailer.{piece_size}, Opens.{AreLinks, Arrives, IsLink, ReadsTo}}
use Rattle.df_model.specs.{declared.errors.OpenError.{OpenError}, Supply.{Shown, block_at}}
use Rattle.df_model.specs.declared.errors.OpenError.TheVariants as opens
use Rattle.df_units.specs.Meaning.{block_of, content_of, layout_of, number_of}
use Rattle.df_grid.specs.{Grid.{GridState, HasAddress}, Reads.{shown_of, trailer_alone}}
use Rattle.df_checkpoint.specs.{declared.links.Link.{Link}, declared.fault.TrailerFault.{TrailerFault}, declared.fault.TrailerFault.TheVariants.{Damaged, BadField, DiskFault}}

-- a superblock of these fields, in the machine's words
abbrev pub content_in : SuperFields → Content
content_in f = content_of (content_with f)

-- of a disk that tells what it shows
abbrev pub OfTold : GridState → Option Told → (Shown → Type 0) → Type 0
OfTold g None P = Unit {0}
OfTold g (Some t) P = P (shown_of g.layout g.cluster t.shown)

-- the trailer block that is asked for, or the class of what is shown
abbrev pub asked : Shown → ℕ → ℕ → Result Block Class
asked shown a k = trailer_alone (block_at shown (Some k) a)

-- the one fault that blames the disk
abbrev pub is_trailer_fault : TrailerFault → Bool
is_trailer_fault DiskFault = true
is_trailer_fault fault = false

-- why a file isn't opened whose trailer is refused so: a block of the chain that isn't shown is named by its place in the grid
abbrev pub error_of : TrailerFault → OpenError
error_of (Damaged address class) = opens.Damaged (place_in Grid address) class
error_of (BadField field value) = opens.BadField field value
error_of DiskFault = opens.DiskFault

-- ---- one link

-- the tests of a link: sequence, index, size, and a block of the grid before it, but for the first one
abbrev pub is_link : Layout → SuperFields → ℕ → Header → ℕ → Bool
is_link layout f index h size =
    (h.checkpoint == f.sequence) && ((h.mark == index) && ((size == piece_size (layout.block_size - HEADER) f.trailer_size index) && ((index == 0) || (nat_le 1 h.request && nat_le h.request layout.blocks))))

-- the reference that a block has to the one before
abbrev pub before_of : Message → Link
before_of u = record { address = u.header.request; checksum = u.header.parent }

-- a trailer block of a file of the layout is the link with this index of the superblock's chain, as the theory has it; or it isn't
abbrev pub IsLinkOf : Layout → SuperFields → ℕ → Message → Type 0
IsLinkOf layout f index u = (sh : Shape) → sh.layout ≡ layout_of layout → IsLink sh (content_in f) index (block_of u)

abbrev pub IsNoLink : Layout → SuperFields → ℕ → Message → Type 0
IsNoLink layout f index u = (sh : Shape) → sh.layout ≡ layout_of layout → IsLink sh (content_in f) index (block_of u) → ⊥

-- the block that is asked for is shown, is a link, and has this reference
pub record IsTakenLink (sh : Shape) (shown : Shown) (c : Content) (index : ℕ) (at before : Link) : Type 0 where
  pub block : Block
  pub is : asked shown at.address (number_of at.checksum) ≡ Ok block
  pub link : IsLink sh c index block
  pub address : before.address ≡ block.before
  pub checksum : number_of before.checksum ≡ block.before_checksum
  pub first : index ≡ 0 → before.address ≡ 0

-- it is shown, and isn't the link that is asked for
pub record IsUnlinked (sh : Shape) (shown : Shown) (c : Content) (index : ℕ) (at : Link) : Type 0 where
  pub block : Block
  pub is : asked shown at.address (number_of at.checksum) ≡ Ok block
  pub broken : IsLink sh c index block → ⊥

abbrev pub LinkAnswer : Shape → Shown → Content → ℕ → Link → Result Link TrailerFault → Type 0
LinkAnswer sh shown c index at (Ok before) = IsTakenLink sh shown c index at before
LinkAnswer sh shown c index at (Err (Damaged address class)) = (address ≡ at.address) × (asked shown at.address (number_of at.checksum) ≡ Err class)
LinkAnswer sh shown c index at (Err (BadField field value)) = (field ≡ TrailerChain) × (value ≡ at.address) × IsUnlinked sh shown c index at
LinkAnswer sh shown c index at (Err DiskFault) = Unit {0}

-- ---- the chain

-- the references name these blocks, and each is shown
abbrev pub Names : Shown → List Link → List (ℕ × Block) → Type 0
Names shown [] [] = Unit {0}
Names shown [] (x ∷ xs) = ⊥
Names shown (r ∷ rs) [] = ⊥
Names shown (r ∷ rs) (x ∷ xs) = (x.0 ≡ r.address) × (asked shown r.address (number_of r.checksum) ≡ Ok x.1) × Names shown rs xs

-- of n blocks the last ones were read, each a link, down to where this one is wanted
pub record HasWalked (sh : Shape) (shown : Shown) (c : Content) (n : ℕ) (refs : List Link) (next : Link) : Type 0 where
  pub chain : List (ℕ × Block)
  pub names : Names shown refs chain
  pub arrives : Arrives shown.units chain c.trailer c.trailer_checksum next.address (number_of next.checksum)
  pub links : AreLinks sh c n chain

-- a block that is wanted isn't shown
pub record IsLacking (sh : Shape) (shown : Shown) (c : Content) (a : ℕ) (class : Class) : Type 0 where
  pub sum : ℕ
  pub reads : ReadsTo sh shown.units c a sum
  pub is : asked shown a sum ≡ Err class

-- a block that is wanted is shown, and isn't the link that the chain asks for
pub record IsBroken (sh : Shape) (shown : Shown) (c : Content) (a : ℕ) : Type 0 where
  pub sum : ℕ
  pub reads : ReadsTo sh shown.units c a sum
  pub index : ℕ
  pub at : reads.count ≡ length reads.read + (index + 1)
  pub block : Block
  pub is : asked shown a sum ≡ Ok block
  pub broken : IsLink sh c index block → ⊥

-- ---- the answers of the walk

-- an address is one of those of the references
abbrev pub is_among : ℕ → List Link → Bool
is_among a refs = list_any (λ r. r.address == a) refs

-- addresses of the grid, no two of them the same
abbrev pub AreDistinctLinks : GridState → List Link → Type 0
AreDistinctLinks g [] = Unit {0}
AreDistinctLinks g (r ∷ rs) = HasAddress g r.address × (is_among r.address rs ≡ false) × AreDistinctLinks g rs

-- after the link with this index the walk goes on, or ends with the first block
abbrev pub StepAnswer : Shape → Shown → Content → ℕ → ℕ → List Link → Result Link TrailerFault → Type 0
StepAnswer sh shown c n index refs (Ok before) = HasWalked sh shown c n refs before × (index ≡ 0 → before.address ≡ 0)
StepAnswer sh shown c n index refs (Err (Damaged address class)) = IsLacking sh shown c address class
StepAnswer sh shown c n index refs (Err (BadField field value)) = (field ≡ TrailerChain) × IsBroken sh shown c value
StepAnswer sh shown c n index refs (Err DiskFault) = Unit {0}

-- all blocks of the chain were read: as many as are wanted, and the first one ends it
pub record HasChain (sh : Shape) (shown : Shown) (c : Content) (n : ℕ) (refs : List Link) : Type 0 where
  pub next : Link
  pub walked : HasWalked sh shown c n refs next
  pub all : length refs ≡ n
  pub ends : next.address ≡ 0

abbrev pub WalkAnswer : Shape → Shown → Content → ℕ → Result (ArrayVec Link) TrailerFault → Type 0
WalkAnswer sh shown c n (Ok blocks) = HasChain sh shown c n blocks.items
WalkAnswer sh shown c n (Err (Damaged address class)) = IsLacking sh shown c address class
WalkAnswer sh shown c n (Err (BadField field value)) = (field ≡ TrailerChain) × IsBroken sh shown c value
WalkAnswer sh shown c n (Err DiskFault) = Unit {0}
