-- A shelf: the room of a kind of unit between two calls, and what is read into it.
use Rattle.std.specs.Prelude.{◌≡◌, ◌+◌, ℕ, List, length, take, Option, Some, None}
use Rattle.df_base.specs.{declared.TheConstants.{HEADER}, Image.{Image}}
use Rattle.df_disk.specs.Told.{Told}
use Rattle.df_layout.specs.{declared.layout.Layout.{Layout}, declared.damage.Class.{Class}}
use Rattle.df_format.specs.{declared.header.Header.{Header}, declared.kind.Kind.{Kind}, Making.{for_body}, Message.{Message, sectors_end, sectors_of}, Shown.{class_at, unit_at}, Spelling.{sealed}}
use Rattle.df_format.specs.{UnitLaws.{MadeIsUnit}, Wanted.{IsWanted}}
use Rattle.df_buffers.specs.{declared.identity.Identity.{Identity}, Found.{IsValidUnit, wanted_words}, Rooms.{Room}, Sounds.{Holding, IsTidy}}

-- what a shelf is seen as: the layout of its room, and the sound unit in the room, if one is
pub record Shelved : Type 0 where
  pub layout : Layout
  pub held : Option Holding

-- the room lies there with any bytes, or with a sound unit in it
abbrev pub IsShelf : Layout → Option Room → Option Holding → Type 0
IsShelf layout (Some room) None = room.layout ≡ layout
IsShelf layout None (Some held) = held.layout ≡ layout
IsShelf layout loose held = ⊥

-- ---- what is read into it

-- the unit is of the kind and is valid at the place, and it is the one wanted
pub record IsFoundUnit (kind : Kind) (identity : Identity) (u : Message) : Type 0 where
  pub is : IsValidUnit identity u
  pub of_kind : u.header.kind ≡ kind
  pub wanted : IsWanted (wanted_words identity.wanted) u

-- the unit wanted is held exactly where nothing is wrong
abbrev pub HoldsFound : Kind → Identity → Option Class → Option Holding → Type 0
HoldsFound kind identity None (Some held) = IsFoundUnit kind identity held.unit
HoldsFound kind identity None None = ⊥
HoldsFound kind identity (Some class) held = held ≡ None

-- the unit that an image shows at the place
abbrev pub shown_at : Identity → Image → Option Message
shown_at identity image = unit_at identity.layout identity.cluster image identity.place

-- nothing is wrong: the unit that is held is shown; else no unit that is shown is the one wanted, and this is the class of what is shown
abbrev pub Judges : Kind → Identity → Image → Option Class → Option Holding → Type 0
Judges kind identity image None (Some held) = shown_at identity image ≡ Some held.unit
Judges kind identity image None None = ⊥
Judges kind identity image (Some class) held = ((u : Message) → shown_at identity image ≡ Some u → IsFoundUnit kind identity u → ⊥) × (class ≡ class_at identity.layout identity.cluster image identity.place)

-- so it is with what the disk shows, and any unit that is shown at the place is one that is valid there
pub record IsOf (kind : Kind) (identity : Identity) (image : Image) (wrong : Option Class) (held : Option Holding) : Type 0 where
  pub valid : (u : Message) → shown_at identity image ≡ Some u → IsValidUnit identity u
  pub judges : Judges kind identity image wrong held

-- where it tells that
abbrev pub IsRead : Kind → Identity → Option Told → Option Class → Option Holding → Type 0
IsRead kind identity None wrong held = Unit {0}
IsRead kind identity (Some t) wrong held = IsOf kind identity t.shown wrong held

-- ---- what is made in it

-- the unit of a header and a body, in whole sectors
pub record IsUnitMade (layout : Layout) (header : Header) (body : List ℕ) (held : Holding) : Type 0 where
  pub layout_is : held.layout ≡ layout
  pub unit : held.unit ≡ record { header = sealed (for_body header body); body = body }
  pub valid : MadeIsUnit held.unit
  pub sectors : take (sectors_end (HEADER + length body)) held.bytes ≡ sectors_of held.unit

abbrev pub HoldsMade : Layout → Header → List ℕ → Option Holding → Type 0
HoldsMade layout header body None = ⊥
HoldsMade layout header body (Some held) = IsUnitMade layout header body held

-- ---- what is blanked in it

-- the unit is the same, and there are zeros after it
pub record IsBlanked (layout : Layout) (old new : Holding) : Type 0 where
  pub layout_is : new.layout ≡ layout
  pub unit_is : new.unit ≡ old.unit
  pub tidy : IsTidy new

abbrev pub HoldsBlanked : Layout → (old new : Option Holding) → Type 0
HoldsBlanked layout (Some old) (Some new) = IsBlanked layout old new
HoldsBlanked layout old new = ⊥
