-- Bytes that bring a unit to a place: whatever follows them there, the place is read as that unit.
use Rattle.std.specs.Prelude.{◌≡◌, ◌≢◌, ◌≤◌, ℕ, List, ◌++◌, length, take, Some}
use Rattle.df_layout.specs.{declared.layout.Layout.{Layout}, declared.places.Place.{Place}, declared.places.Zone.TheVariants.{WalHeaders}}
use Rattle.df_format.specs.{Message.{Message, sectors_of}, Shown.{unit_in}, Valid.{IsUnit}, UnitLaws.{AreForPlace}}

pub record Brings (layout : Layout) (cluster : ℕ) (place : Place) (u : Message) (bytes : List ℕ) : Type 0 where
  pub for : AreForPlace layout place bytes
  pub read : (rest : List ℕ) → unit_in layout cluster place (bytes ++ rest) ≡ Some u

-- the sectors of a unit, as they are made, bring it
abbrev pub MadeBrings : Type 0
MadeBrings = (layout : Layout) (cluster : ℕ) (place : Place) (u : Message) → place.zone ≢ WalHeaders → IsUnit layout cluster place u → Brings layout cluster place u (sectors_of u)

-- so does the front of what was read as a unit, where it has the whole unit
abbrev pub FrontBrings : Type 0
FrontBrings =
    (layout : Layout) (cluster : ℕ) (place : Place) (bytes : List ℕ) (n : ℕ) (u : Message) → place.zone ≢ WalHeaders → IsUnit layout cluster place u → unit_in layout cluster place bytes ≡ Some u
    → u.header.size ≤ n → n ≤ length bytes → AreForPlace layout place (take n bytes) → Brings layout cluster place u (take n bytes)
