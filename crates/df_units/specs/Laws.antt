-- What the theory asks of a format: a place is a matter of its own sectors, and nothing is shown where nothing was written.
use Rattle.std.specs.Prelude.{◌≡◌, ℕ, None}
use Rattle.df_base.specs.Image.{blank}
use Rattle.df_layout.specs.declared.layout.Layout.{Layout}
use Rattle.df_theory.specs.Units
use Rattle.df_theory.specs.Device.{IsFormat}
use Rattle.df_units.specs.Format.{format_of}

-- what a place shows is a matter of its sectors, and a write that doesn't touch it covers none of them
abbrev pub FormatLaw : Type 0
FormatLaw = (layout : Layout) (cluster : ℕ) → IsFormat (format_of layout cluster)

-- a blank image shows no unit
abbrev pub BlankIsEmpty : Type 0
BlankIsEmpty = (layout : Layout) (cluster : ℕ) (place : Units.Place) → (format_of layout cluster).unit_at blank place ≡ None
