-- The moments of a call: the logs from the one at its start to the one at its end.
use Rattle.std.specs.Prelude.{◌≡◌, List, [], ◌∷◌, ◌++◌}
use Rattle.df_base.specs.Log.{Log, Event, add}

-- later goes on from earlier
abbrev pub Extends : Log → Log → Type 0
Extends later earlier = (new : List Event) × (later.events ≡ new ++ earlier.events) × (later.start ≡ earlier.start)

-- a log between the one at entry and the one at exit
pub record IsMoment (entry exit log : Log) : Type 0 where
  pub since : Extends log entry
  pub until : Extends exit log

-- a fact of each moment
abbrev pub EachMoment : Log → Log → (Log → Type 0) → Type 0
EachMoment entry exit P = (log : Log) → IsMoment entry exit log → P log

-- the log went on, and had this at each moment
pub record Passed (entry exit : Log) (P : Log → Type 0) : Type 0 where
  pub grew : Extends exit entry
  pub moments : EachMoment entry exit P

-- the log after these events, in order
abbrev pub adds : List Event → Log → Log
adds [] log = log
adds (e ∷ es) log = adds es (add e log)
