-- What the theory takes of a file of a layout and a cluster: how its units lie on sectors, and what is known of it beforehand.
use Rattle.std.specs.Prelude.{◌<◌, ℕ, List, Option}
use Rattle.df_layout.specs.declared.layout.Layout.{Layout}
use Rattle.df_layout.proofs.Laws.{some_slots}
use Rattle.df_theory.specs.Units
use Rattle.df_theory.specs.{Shape.{Shape}, Device.{Format}}
use Rattle.df_units.specs.{Meaning.{layout_of}, Bytes.{has, touches, unit_at}}

-- how units lie on the sectors of a file of this layout and cluster
abbrev pub format_of : Layout → ℕ → Format
format_of layout cluster = record {
  unit_at = unit_at layout cluster;
  touches = touches layout;
  has = has layout;
}

-- what is known of such a file of a version before it is read; how the text of a trailer is read is given from outside
abbrev pub shape_as : ℕ → (layout : Layout) (cluster : ℕ) → 0 < cluster → (ℕ → List ℕ → Option Units.Parts) → Shape
shape_as version layout cluster named parse = record { version = version; cluster = cluster; layout = layout_of layout; named = named; some = some_slots layout; parse = parse }

-- of a file as it is made here: of version 2
abbrev pub shape_of : (layout : Layout) (cluster : ℕ) → 0 < cluster → (ℕ → List ℕ → Option Units.Parts) → Shape
shape_of layout cluster named parse = shape_as 2 layout cluster named parse
