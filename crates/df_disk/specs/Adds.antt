-- Which events a call adds to the log, and what it says of its moments.
use Rattle.std.specs.Prelude.{◌≡◌, ◌⊎◌, List, [], ◌∷◌, Option, Some, None, Result, Ok, Err}
use Rattle.df_base.specs.{Log.{Event, Log}, Moments.{Passed}}
use Rattle.df_disk.specs.Told.{Told, after}

-- what is told after these events, in order
abbrev pub after_all : List Event → Option Told → Option Told
after_all [] old = old
after_all (e ∷ es) old = after_all es (after e old)

-- what is told after some of them, from the first on
abbrev pub AddsPart : List Event → Option Told → Option Told → Type 0
AddsPart [] old new = new ≡ old
AddsPart (e ∷ es) old new = (new ≡ old) ⊎ AddsPart es (after e old) new

-- a call adds these events, and a part of them, from the first on, where it fails
abbrev pub Adds : {T E : Type 0} → List Event → Option Told → Option Told → Result T E → Type 0
Adds events old new (Ok x) = new ≡ after_all events old
Adds events old new (Err e) = AddsPart events old new

-- from what was told to what is told, the log went on, and had this at each moment
abbrev pub PassedTo : Told → Option Told → (Log → Type 0) → Type 0
PassedTo before None P = ⊥
PassedTo before (Some after) P = Passed before.log after.log P
