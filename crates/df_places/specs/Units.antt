-- What a write of a unit into its place does, and what a place shows.
use Rattle.std.specs.Prelude.{◌≡◌, ℕ, List, [], ◌∷◌, take, Option, Some, None, Result, Ok, Err}
use Rattle.df_base.specs.{Image.{Image}, Log.{Event, Write, Sync}}
use Rattle.df_disk.specs.Told.{Told}
use Rattle.df_layout.specs.{declared.layout.Layout.{Layout}, declared.damage.Class.{Class}, declared.places.Place.{Place}, Spans.{span_of}}
use Rattle.df_format.specs.{declared.header.Header.{Header}, Message.{sectors_end}, Shown.{class_at, header_or_class, unit_at}, Valid.{IsUnit}}
use Rattle.df_buffers.specs.Sounds.{Holding}
use Rattle.df_theory.specs.Units
use Rattle.df_theory.specs.{Units.{AnyUnit}, UnitLog.{put_one}, Runs.{Puts, Step, Syncs}}

-- the whole sectors that a unit covers go into its place
abbrev pub put_events : Layout → Place → Holding → List Event
put_events layout place held = Write (span_of layout place).first (take (sectors_end held.unit.header.size) held.bytes) ∷ []

-- in the words of the theory: the unit is put into its place
abbrev pub put_steps : Units.Place → AnyUnit → List Step
put_steps place x = Puts (put_one place x) ∷ []

-- the whole sectors that a unit covers go into its place, and are synced
abbrev pub unit_events : Layout → Place → Holding → List Event
unit_events layout place held = Write (span_of layout place).first (take (sectors_end held.unit.header.size) held.bytes) ∷ Sync ∷ []

-- in the words of the theory: the unit is put into its place, and synced
abbrev pub unit_steps : Units.Place → AnyUnit → List Step
unit_steps place x = Puts (put_one place x) ∷ Syncs ∷ []

-- the header of the unit that an image shows at a place, or the class of what it shows
abbrev pub header_at : Layout → ℕ → Image → Place → Result Header Class
header_at layout cluster image place = header_or_class (unit_at layout cluster image place) (class_at layout cluster image place)

-- what is seen is what the disk shows there, where it tells that
abbrev pub IsSeen : Layout → ℕ → Option Told → Place → Result Header Class → Type 0
IsSeen layout cluster None place seen = Unit {0}
IsSeen layout cluster (Some t) place seen = seen ≡ header_at layout cluster t.shown place

-- a header that is seen is that of a unit which is valid at the place, whatever the disk tells
abbrev pub IsThere : Layout → ℕ → Place → Result Header Class → Type 0
IsThere layout cluster place (Ok h) = (body : List ℕ) × IsUnit layout cluster place (record { header = h; body = body })
IsThere layout cluster place (Err class) = Unit {0}
