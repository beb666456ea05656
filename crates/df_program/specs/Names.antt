-- The names of layouts on the command line.
use Rattle.std.specs.Prelude.{◌≡◌, ◌⊎◌, ℕ, List, ◌∷◌, ◌++◌, codes, decimal}
use Rattle.df_layout.specs.declared.layout.Layout.{Layout}

-- the layout has these five numbers
pub record HasNumbers (layout : Layout) (a b c d e : ℕ) : Type 0 where
  pub slots : layout.slots ≡ a
  pub message_size : layout.message_size ≡ b
  pub clients : layout.clients ≡ c
  pub block_size : layout.block_size ≡ d
  pub blocks : layout.blocks ≡ e

-- the five numbers of a layout with commas between them
unfoldable pub numbers_of : Layout → List ℕ
numbers_of layout =
    decimal layout.slots ++ (44 ∷ (decimal layout.message_size ++ (44 ∷ (decimal layout.clients ++ (44 ∷ (decimal layout.block_size ++ (44 ∷ decimal layout.blocks)))))))

-- the name of a layout: `small`, `large`, or its five numbers with commas between them
abbrev pub NamesLayout : List ℕ → Layout → Type 0
NamesLayout name layout =
    ((name ≡ codes "small") × HasNumbers layout 32 8192 4 16384 64) ⊎ ((name ≡ codes "large") × HasNumbers layout 1024 1048576 64 524288 16384) ⊎ (name ≡ numbers_of layout)

-- a name is of one layout at most
abbrev pub OneLayout : Type 0
OneLayout = (name : List ℕ) (layout other : Layout) → NamesLayout name layout → NamesLayout name other → layout ≡ other
