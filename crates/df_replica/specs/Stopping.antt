-- What the failing of its disk makes of a replica.
use Rattle.std.specs.Prelude.{Bool, false, if◌then◌else◌, Result, Ok, Err}
use Rattle.df_opening.specs.Below.{State}

-- it isn't live, so no call may follow; nothing else moved
abbrev pub stopped : State → State
stopped s = record s { live = false }

-- what a call leaves that changes nothing, unless its answer blames the disk
abbrev pub left_by : {T E : Type 0} → (is_fault : E → Bool) → State → Result T E → State
left_by is_fault s (Ok x) = s
left_by is_fault s (Err e) = if is_fault e then stopped s else s
