-- The trailer of a checkpoint: a chain of blocks, read from the last to the first.
use Rattle.std.specs.Prelude.{◌≡◌, ◌⊎◌, ◌<◌, ◌≤◌, ◌+◌, ◌-◌, ◌*◌, ◌/◌, ℕ, List, [], ◌∷◌, ◌++◌, length, min, Some, None}
use Rattle.df_base.specs.declared.TheConstants.{HEADER}
use Rattle.df_theory.specs.{Units.{Block, Content, Layout, Parts}, Shape.{Shape}}

abbrev pub InChain : ℕ → Block → List (ℕ × Block) → Type 0
InChain a b [] = ⊥
InChain a b (c ∷ cs) = ((a ≡ c.0) × (b ≡ c.1)) ⊎ InChain a b cs

-- how much of a text of this size a piece holds: what a block has room for, or what is left
abbrev pub piece_size : ℕ → ℕ → ℕ → ℕ
piece_size room size index = min room (size - room * index)

-- each block is the trailer block that the later one names; address 0 ends the chain
abbrev pub Links : ℕ → Content → List (ℕ × Block) → ℕ → ℕ → Type 0
Links room c [] address checksum = address ≡ 0
Links room c (b ∷ bs) address checksum =
    (0 < address) × (b.0 ≡ address) × (b.1.checksum ≡ checksum) × (b.1.sequence ≡ c.sequence) × (b.1.index ≡ length bs) × (length b.1.body ≡ piece_size room c.trailer_size (length bs))
    × (b.1.kind ≡ 0) × Links room c bs b.1.before b.1.before_checksum

abbrev pub text_of : List (ℕ × Block) → List ℕ
text_of [] = []
text_of (b ∷ bs) = text_of bs ++ b.1.body

-- what a file without a trailer has
abbrev pub no_parts : Parts
no_parts = record { root = []; sessions = []; references = λ address. None }

-- what the text of a chain says, of a checkpoint of this op
abbrev pub Says : Shape → ℕ → List (ℕ × Block) → Parts → Type 0
Says sh op [] parts = parts ≡ no_parts
Says sh op (b ∷ bs) parts = sh.parse op (text_of (b ∷ bs)) ≡ Some parts

-- the size of the longest trailer: root, sessions, a bit for each block and a checksum for each
abbrev pub greatest_trailer : Layout → ℕ
greatest_trailer l = 4 + 1024 + 4 + 32 * l.clients + (l.blocks + 7) / 8 + 16 * l.blocks

-- the superblock's fields on the trailer pass their tests
pub record IsReference (l : Layout) (c : Content) : Type 0 where
  pub address : c.trailer ≤ l.blocks
  pub some : 0 < c.op → 0 < c.trailer
  pub none : c.trailer ≡ 0 → (c.trailer_checksum ≡ 0) × (c.trailer_size ≡ 0)
  pub size : 0 < c.trailer → (0 < c.trailer_size) × (c.trailer_size ≤ greatest_trailer l)

-- a text of this size is cut into this many pieces: they hold it, and the last one isn't empty
pub record IsCount (room size n : ℕ) : Type 0 where
  pub holds : size ≤ room * n
  pub needed : 0 < n → room * (n - 1) < size

-- the chain that the superblock names, and what its text says; no block of the chain is referenced
pub record IsTrailer (sh : Shape) (c : Content) (chain : List (ℕ × Block)) (parts : Parts) : Type 0 where
  pub reference : IsReference sh.layout c
  pub links : Links (sh.layout.block_size - HEADER) c chain c.trailer c.trailer_checksum
  pub count : IsCount (sh.layout.block_size - HEADER) c.trailer_size (length chain)
  pub inside : (a : ℕ) (b : Block) → InChain a b chain → a ≤ sh.layout.blocks
  pub size : length (text_of chain) ≡ c.trailer_size
  pub says : Says sh c.op chain parts
  pub spare : (a : ℕ) (b : Block) → InChain a b chain → parts.references a ≡ None
