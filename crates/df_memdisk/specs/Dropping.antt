-- What contracts see of a disk that loses writes.
use Rattle.std.specs.{Prelude.{◌≡◌, ℕ, Bool, true, false, ◌==◌, List, Option, None, Result, IsOk}, List.{list_any}}
use Rattle.df_base.specs.{Causes.{counted}, Log.{Event}}
use Rattle.df_disk.specs.Told.{Told}
use Rattle.df_memdisk.specs.State.{DiskState, WritesEvent}

-- the memory disk, the numbers of the writes that are lost (counted from 1), and how many writes there were
pub record DroppingState : Type 0 where
  pub disk : DiskState
  pub dropped : List ℕ
  pub writes : ℕ

-- the number of the next write is listed
abbrev pub is_dropped : DroppingState → Bool
is_dropped state = list_any (λ number. number == counted state.writes) state.dropped

-- what a write leaves of the memory disk: one that is lost is answered Ok and changes nothing, and another one is done there
pub record WritesUnlessDropped {T E : Type 0} (write : Event) (old new : DroppingState) (result : Result T E) : Type 0 where
  pub lost : is_dropped old ≡ true → (new.disk ≡ old.disk) × IsOk result
  pub done : is_dropped old ≡ false → WritesEvent write old.disk new.disk result

-- it tells neither its log nor what it shows, since what it answers isn't what happened
abbrev pub tells_nothing : DroppingState → Option Told
tells_nothing state = None
