-- Where the writes of a word that works on a file lie.
use Rattle.std.specs.Prelude.{◌≡◌, ◌⊎◌, ℕ, Option, Some}
use Rattle.df_base.specs.Image.{IsImage}
use Rattle.df_disk.specs.Told.{Told}
use Rattle.df_layout.specs.declared.layout.Layout.{Layout}
use Rattle.df_units.specs.Within.{AddsWithin}
use Rattle.df_upgrade.specs.Below.{IsLayoutShownAs}

-- in rooms of a layout: all that is added to the log of a disk that tells lies within the zones of a file of that layout
abbrev pub WritesIn : Layout → (old new : Option Told) → Type 0
WritesIn layout old new = (t : Told) → old ≡ Some t → IsImage t.shown → AddsWithin layout (Some t) new

-- in rooms of its own: nothing is added, or it lies within the zones of the file whose layout the superblock names, which is of this version
abbrev pub WritesOwnAs : ℕ → (old new : Option Told) → Type 0
WritesOwnAs version old new = (t : Told) → old ≡ Some t → IsImage t.shown → (new ≡ Some t) ⊎ ((layout : Layout) × IsLayoutShownAs version t.shown layout × AddsWithin layout (Some t) new)

abbrev pub WritesOwn : (old new : Option Told) → Type 0
WritesOwn old new = WritesOwnAs 2 old new
