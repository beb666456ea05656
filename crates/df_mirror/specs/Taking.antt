-- What it does to mend one unit, by what a room holds of each file.
use Rattle.std.specs.Prelude.{◌≡◌, ℕ, List, take, Option, Some, None, Result, Ok, Err}
use Rattle.df_base.specs.{Image.{Image, IsImage}, Streams.{Appends, AppendsPart}}
use Rattle.df_disk.specs.{Adds.{AddsPart, after_all}, Told.{Told}}
use Rattle.df_format.specs.{declared.kind.Kind.{Kind}, Brings.{Brings}, Message.{Message, sectors_end}, Spelling.{IsCheck}}
use Rattle.df_layout.specs.{declared.damage.Class.{Class}, declared.layout.Layout.{Layout}, declared.places.Place.{Place as FilePlace}}
use Rattle.df_buffers.specs.{declared.identity.Identity.{Identity}, declared.identity.Wanted.TheVariants.{Checksum}, Rooms.{StandsIn}, Sounds.{Holding, IsTidy}}
use Rattle.df_places.specs.{Shelves.{IsFoundUnit, IsRead}, Units.{unit_events, unit_steps}}
use Rattle.df_theory.specs.{Device.{AreSteps}, Units.{AnyUnit, Content, Place}}
use Rattle.df_units.specs.{Format.{format_of}, Meaning.{number_of, place_of, unit_of}, Wanted.{IsOfKind, checksum_of}}
use Rattle.df_opening.specs.Below.{DataFile, shape}
use Rattle.df_mirror.specs.{Known.{IsDue}, Mends.{AnswersMending, AreAt, units_shown}, Outside.{Outside, Tell}, Texts.{mended_text}, declared.ending.Ending.{Ending}}
use Rattle.df_mirror.specs.declared.ending.Ending.TheVariants.{First, Neither, Second, Sink, Unopened}

-- ---- a write

-- a unit goes into its place, with a sync, and a line says so
abbrev pub WritesUnit : Layout → FilePlace → Holding → (told new : Option Told) (old text : Option (List ℕ)) {T : Type 0} → Result T Ending → Type 0
WritesUnit layout place held told new old text (Ok x) = (new ≡ after_all (unit_events layout place held) told) × Appends old text (mended_text place)
WritesUnit layout place held told new old text (Err First) = AddsPart (unit_events layout place held) told new × (text ≡ old)
WritesUnit layout place held told new old text (Err Sink) = (new ≡ after_all (unit_events layout place held) told) × AppendsPart old text (mended_text place)
WritesUnit layout place held told new old text (Err e) = ⊥

-- in the words of the theory the unit is put into its place, and synced; the sectors that are written bring it there
abbrev pub PutsUnit : Layout → FilePlace → Holding → Type 0
PutsUnit layout place held =
    ((at : Place) (x : AnyUnit) → place_of at ≡ place → unit_of at held.unit ≡ Some x → AreSteps (format_of layout held.unit.header.cluster) (unit_events layout place held) (unit_steps at x))
    × Brings layout held.unit.header.cluster place held.unit (take (sectors_end held.unit.header.size) held.bytes)

-- nothing is written or printed
abbrev pub IsSame : Outside → Outside → Type 0
IsSame old new = (new.first ≡ old.first) × (new.written ≡ old.written)

-- the second file shows the unit that is wanted, and it is written, or that fails
pub record TakesFromSecond (kind : Kind) (identity : Identity) (old new : Outside) (held : Holding) (result : Result (Unit {0}) Ending) : Type 0 where
  pub found : IsFoundUnit kind identity held.unit
  pub shown : IsRead kind identity old.second None (Some held)
  pub puts : PutsUnit identity.layout identity.place held
  pub tidy : IsTidy held
  pub writes : WritesUnit identity.layout identity.place held old.first new.first old.written new.written result

-- it is the one that is held then
abbrev pub TakesHeld : Kind → Identity → Outside → Outside → Option Holding → Result (Unit {0}) Ending → Type 0
TakesHeld kind identity old new shelf result = (held : Holding) × (shelf ≡ Some held) × TakesFromSecond kind identity old new held result

-- or it doesn't show it
abbrev pub TakesUnit : Kind → Identity → Class → Outside → Outside → Option Holding → Result (Unit {0}) Ending → Type 0
TakesUnit kind identity class old new shelf (Ok x) = TakesHeld kind identity old new shelf (Ok tt)
TakesUnit kind identity class old new shelf (Err (Neither place shown)) = (place ≡ identity.place) × (shown ≡ class) × IsSame old new × ((other : Class) × IsRead kind identity old.second (Some other) None)
TakesUnit kind identity class old new shelf (Err Second) = IsSame old new
TakesUnit kind identity class old new shelf (Err (Unopened e)) = ⊥
TakesUnit kind identity class old new shelf (Err e) = TakesHeld kind identity old new shelf (Err e)

-- ---- a known unit

-- the unit of this kind with this checksum, at a place of the file
pub record IsFor (file : DataFile) (kind : Kind) (at : Place) (check : List ℕ) (identity : Identity) : Type 0 where
  pub is : identity ≡ record { layout = file.layout; cluster = file.cluster; place = place_of at; wanted = Checksum check }
  pub stands : StandsIn kind (place_of at).zone
  pub fits : IsCheck check

-- where it is due and both files tell what they show, it is mended as one of its kind
abbrev pub MendsUnit : Kind → Identity → Outside → Outside → Result ℕ Ending → Type 0
MendsUnit kind identity old new result =
    (file : DataFile) (c : Content) (at : Place) (check : List ℕ) (t o : Told) → IsFor file kind at check identity → Tell t o old → IsDue (shape file) (units_shown file t.shown) c kind at (number_of check)
    → AnswersMending file c (AreAt kind at) t o new.first old.written new.written result

-- the image shows this unit at the place, which is the one that is wanted
pub record ShowsUnit (file : DataFile) (kind : Kind) (at : Place) (check : List ℕ) (image : Image) (u : Message) : Type 0 where
  pub unit : AnyUnit
  pub unit_is : unit_of at u ≡ Some unit
  pub shown : units_shown file image at ≡ Some unit
  pub of_kind : IsOfKind kind unit
  pub sum_is : checksum_of unit ≡ number_of check

-- and the shelf holds it
abbrev pub ShowsHeld : DataFile → Kind → Place → List ℕ → Image → Option Holding → Type 0
ShowsHeld file kind at check image shelf = (held : Holding) × (shelf ≡ Some held) × ShowsUnit file kind at check image held.unit

-- so it is with a unit that is known
abbrev pub HoldsShown : Kind → Identity → (old new : Option Told) → Option Holding → Type 0
HoldsShown kind identity old new shelf =
    (file : DataFile) (at : Place) (check : List ℕ) (t n : Told) → IsFor file kind at check identity → old ≡ Some t → new ≡ Some n → IsImage t.shown → ShowsHeld file kind at check n.shown shelf
