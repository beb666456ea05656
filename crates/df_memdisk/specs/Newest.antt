-- The newest bytes that events gave a sector, which is what a read of the sector shows.
use Rattle.std.specs.Prelude.{ℕ, ◌==◌, ◌-◌, ◌*◌, List, [], ◌∷◌, take, drop, Option, Some, None, if◌then◌else◌}
use Rattle.df_base.specs.{declared.TheConstants.{SECTOR}, Image.{covers}, Log.{Event, Write, Sync, Stop}}

-- the one, and where it is missing the other
abbrev pub first_some : Option (List ℕ) → Option (List ℕ) → Option (List ℕ)
first_some None other = other
first_some (Some bytes) other = Some bytes

-- the bytes of the last change of a sector
abbrev pub last_change : List (ℕ × List ℕ) → ℕ → Option (List ℕ)
last_change [] sector = None
last_change (c ∷ cs) sector = first_some (last_change cs sector) (if sector == c.0 then Some c.1 else None)

-- the bytes that an event gives a sector
abbrev pub given_by : Event → ℕ → Option (List ℕ)
given_by (Write at bytes) sector = if covers at bytes sector then Some (take SECTOR (drop (SECTOR * (sector - at)) bytes)) else None
given_by Sync sector = None
given_by (Stop changes) sector = last_change changes sector

-- the bytes that the newest event which changed a sector gave it
abbrev pub newest_of : List Event → ℕ → Option (List ℕ)
newest_of [] sector = None
newest_of (e ∷ es) sector = first_some (given_by e sector) (newest_of es sector)
