-- What a write that was cut short leaves, place by place.
use Rattle.std.proofs.Common.{◌≡◌, ◌⊎◌, true, List, Some, None}
use Rattle.df_theory.specs.{Units.{AnyUnit, Place, Units}, Shape.{Shape}, View.{View}, Shows.{Agrees}, Holds.{Holds}, UnitLog.{UnitLog, loose, now, settled}, Chance.{InImages, InPool}, Grown.{AllInHistory, GoesOn, InView}, Rests.{IsCalm, MaySettle}}

-- each unit shown is of the pool
abbrev pub IsPooled : UnitLog → Units → Type 0
IsPooled log image = (place : Place) (x : AnyUnit) → image place ≡ Some x → InPool log place x

-- an image that may be settled next
pub record Outcome (sh : Shape) (images : List Units) (v : View) (j : Units) : Type 0 where
  pub view : View
  pub next : GoesOn images v view
  pub holds : Holds sh j view
  pub history : AllInHistory images j view

-- a place after a write of these units was cut short
pub data Tear (sh : Shape) (log : UnitLog) (v : View) (put j : Units) (place : Place) : Type 0 where
  Kept : put place ≡ None → j place ≡ now log place → Tear sh log v put j place
  Loose : loose log place ≡ true → IsCalm sh v place
      → ((x : AnyUnit) → j place ≡ Some x → MaySettle sh (settled log) v place x ⊎ (put place ≡ Some x)) → Tear sh log v put j place
  Touched : (y : AnyUnit) → put place ≡ Some y
      → ((x : AnyUnit) → j place ≡ Some x → (InImages (settled log) place x × Agrees sh v place x) ⊎ (x ≡ y)) → Tear sh log v put j place

abbrev pub Torn : Shape → UnitLog → View → Units → Units → Type 0
Torn sh log v put j = (place : Place) → Tear sh log v put j place

-- a torn image that has this view
pub record TornView (sh : Shape) (log : UnitLog) (v : View) (put j : Units) (view : View) : Type 0 where
  pub holds : Holds sh j view
  pub history : (place : Place) (y : AnyUnit) → ((loose log place ≡ true) × MaySettle sh (settled log) v place y) ⊎ (put place ≡ Some y)
      → j place ≡ Some y → InImages (settled log) place y ⊎ InView view place y
