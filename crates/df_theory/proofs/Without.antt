-- An image with one place hurt.
use Rattle.std.proofs.Common.{◌≡◌, Bool, true, false, if◌then◌else◌, Some, None, refl}
use Rattle.df_theory.{specs.{Units.{AnyUnit, Place, Units}, UnitLog.{same_place}}, proofs.PutOne.{same_is}}

-- nothing is shown there
abbrev pub without : Place → Units → Units
without place image other = if same_place place other then None else image other

pub without_else : (place other : Place) (image : Units) → (other ≡ place → ⊥) → without place image other ≡ image other
without_else place other image away = go (same_place place other) refl
  where
    go : (b : Bool) → same_place place other ≡ b → (if b then None else image other) ≡ image other
    go true same = absurd (away (same_is place other same))
    go false same = refl

pub without_shows : (place other : Place) (image : Units) (x : AnyUnit) → without place image other ≡ Some x → image other ≡ Some x
without_shows place other image x is = go (same_place place other) is
  where
    go : (b : Bool) → (if b then None else image other) ≡ Some x → image other ≡ Some x
    go true none = absurd (let both : None ≡ Some x = none in cc)
    go false shown = shown
