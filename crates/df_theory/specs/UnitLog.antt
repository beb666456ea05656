-- Logs of writes, syncs and stops, read place by place, and what a stop may leave.
use Rattle.std.specs.Prelude.{◌≡◌, Bool, false, ◌||◌, ◌==◌, if◌then◌else◌, List, [], ◌∷◌, Some, None}
use Rattle.df_theory.specs.Units.{AnyUnit, BlockPlace, CopyPlace, HeaderPlace, Place, PreparePlace, ReplyPlace, Units, is_some, overlay}

-- a write: the places that it touches, the units that stand whole in it, and the image after it; a sync; a stop, and the image after it
pub data UnitEvent : Type 0 where
  Wrote : (touches : Place → Bool) (stands : Units) (after : Units) → UnitEvent
  Synced : UnitEvent
  Stopped : (after : Units) → UnitEvent

-- what the image showed at first, and what happened since, the newest event first
pub record UnitLog : Type 0 where
  pub start : Units
  pub events : List UnitEvent

-- the log after one more event
abbrev pub add : UnitEvent → UnitLog → UnitLog
add e log = record { start = log.start; events = e ∷ log.events }

abbrev pub now_of : Units → List UnitEvent → Units
now_of start [] = start
now_of start ((Wrote touches stands after) ∷ es) = after
now_of start (Synced ∷ es) = now_of start es
now_of start ((Stopped after) ∷ es) = after

-- the image after all that happened
abbrev pub now : UnitLog → Units
now log = now_of log.start log.events

abbrev pub loose_of : List UnitEvent → Place → Bool
loose_of [] place = false
loose_of ((Wrote touches stands after) ∷ es) place = touches place || loose_of es place
loose_of (Synced ∷ es) place = false
loose_of ((Stopped after) ∷ es) place = false

-- the place was touched since the last sync or stop
abbrev pub loose : UnitLog → Place → Bool
loose log place = loose_of log.events place

-- a stop now may leave this image: any units at the loose places, and at all others what is shown now
abbrev pub IsLeftBy : UnitLog → Units → Type 0
IsLeftBy log image = (place : Place) → loose log place ≡ false → image place ≡ now log place

abbrev pub settled_of : Units → List UnitEvent → List Units
settled_of start [] = start ∷ []
settled_of start ((Wrote touches stands after) ∷ es) = settled_of start es
settled_of start (Synced ∷ es) = now_of start es ∷ settled_of start es
settled_of start ((Stopped after) ∷ es) = after ∷ settled_of start es

-- what was made durable: the start, and the image after each sync and each stop, the newest first
abbrev pub settled : UnitLog → List Units
settled log = settled_of log.start log.events

-- a write of these units, whole, that touches no other place
abbrev pub wrote : Units → UnitLog → UnitLog
wrote put log = add (Wrote (λ place. is_some (put place)) put (overlay put (now log))) log

-- one unit is put
pub record PutsOne (put : Units) (place : Place) (x : AnyUnit) : Type 0 where
  pub at : put place ≡ Some x
  pub only : (other : Place) (y : AnyUnit) → put other ≡ Some y → (other ≡ place) × (y ≡ x)

abbrev pub same_place : Place → Place → Bool
same_place (CopyPlace n) (CopyPlace m) = n == m
same_place (HeaderPlace n) (HeaderPlace m) = n == m
same_place (PreparePlace n) (PreparePlace m) = n == m
same_place (ReplyPlace n) (ReplyPlace m) = n == m
same_place (BlockPlace n) (BlockPlace m) = n == m
same_place place other = false

-- the write of this one unit
abbrev pub put_one : Place → AnyUnit → Units
put_one place x other = if same_place place other then Some x else None
