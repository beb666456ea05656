-- Which unit an image shows at each place, which sectors a place has, and which places a write touches. A place that the layout
-- doesn't have shows nothing and is touched by nothing.
use Rattle.std.specs.Prelude.{◌+◌, ◌-◌, ◌*◌, ◌&&◌, ℕ, Bool, nat_le, nat_lt, List, length, Option, Some, None}
use Rattle.df_base.specs.{declared.TheConstants.{SECTOR}, Image.{Image}}
use Rattle.df_layout.specs.{declared.layout.Layout.{Layout}, declared.places.Span.{Span}, Spans.{span_of}}
use Rattle.df_format.specs.{Message.{Message}, Own.{has_index}, Copies.{Content, content_at}}
use Rattle.df_format.specs.Shown
use Rattle.df_theory.specs.Units
use Rattle.df_theory.specs.Units.{AnyUnit, CopyPlace, CopyUnit}
use Rattle.df_units.specs.Meaning.{content_of, place_of, unit_of}

-- the unit that a copy's content is, if there is one
abbrev pub copy_unit : Option Content → Option AnyUnit
copy_unit None = None
copy_unit (Some c) = Some (CopyUnit (content_of c))

-- the unit that a message is at a place, if there is one
abbrev pub message_unit : Units.Place → Option Message → Option AnyUnit
message_unit place None = None
message_unit place (Some u) = unit_of place u

-- the unit that an image shows at a place
abbrev pub unit_at : Layout → ℕ → Image → Units.Place → Option AnyUnit
unit_at layout cluster image (CopyPlace n) = copy_unit (content_at image n)
unit_at layout cluster image place = message_unit place (Shown.unit_at layout cluster image (place_of place))

-- the layout has the place
abbrev pub has_place : Layout → Units.Place → Bool
has_place layout place = has_index layout (place_of place).zone (place_of place).index

-- the sectors of a place
abbrev pub span_at : Layout → Units.Place → Span
span_at layout place = span_of layout (place_of place)

-- the first of them
abbrev pub first_at : Layout → Units.Place → ℕ
first_at layout place = (span_at layout place).first

-- the sector is one of a span
abbrev pub has_sector : Span → ℕ → Bool
has_sector span sector = nat_le span.first sector && nat_lt sector (span.first + span.count)

-- the sector is one of a place of the layout
abbrev pub has : Layout → Units.Place → ℕ → Bool
has layout place sector = has_place layout place && has_sector (span_at layout place) sector

-- a write of these bytes, from sector at on, has bytes for a sector of a span
abbrev pub meets : ℕ → List ℕ → Span → Bool
meets at bytes span = nat_lt at (span.first + span.count) && nat_lt (SECTOR * (span.first - at)) (length bytes)

-- the write has bytes for a sector of a place of the layout
abbrev pub touches : Layout → ℕ → List ℕ → Units.Place → Bool
touches layout at bytes place = has_place layout place && meets at bytes (span_at layout place)
