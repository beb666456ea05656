-- What holds of every layout.
use Rattle.std.specs.Prelude.{◌≤◌, ◌-◌, ℕ}
use Rattle.df_base.specs.declared.TheConstants.{HEADER}
use Rattle.df_layout.specs.declared.layout.Layout.{Layout}
use Rattle.df_theory.specs.Trailer.{IsCount, greatest_trailer}
use Rattle.df_units.specs.Meaning.{layout_of}

-- a text that is no longer than the longest trailer is cut into at most 70 blocks
abbrev pub ChainsHaveRoom : Type 0
ChainsHaveRoom = (layout : Layout) (size blocks : ℕ) → size ≤ greatest_trailer (layout_of layout) → IsCount (layout.block_size - HEADER) size blocks → blocks ≤ 70
