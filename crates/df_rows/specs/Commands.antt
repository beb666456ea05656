-- The commands of a table as the bodies of prepares, and what they make of its map.
use Rattle.std.specs.{Prelude.{ℕ, ◌^◌, ◌<◌, List, [], ◌∷◌, ◌++◌}, Ordering.{nat_cmp}}
use Rattle.std.specs.FinMap as map
use Rattle.df_base.specs.Fields.{spelled}
use Rattle.df_rows.specs.{declared.command.Command.{Command}, declared.command.Command.TheVariants.{Put, Drop}, Rows.{IsEntry}}

-- a put is 1, the key and the value; a drop is 2 and the key
abbrev pub body_of : Command → List ℕ
body_of (Put entry) = 1 ∷ (spelled 16 entry.0 ++ entry.1)
body_of (Drop key) = 2 ∷ spelled 16 key

-- a key has 16 bytes, and a value at most 47
abbrev pub IsCommand : Command → Type 0
IsCommand (Put entry) = IsEntry entry
IsCommand (Drop key) = key < 2 ^ 128

-- from each key to its value
abbrev pub Map : Type 0
Map = map.FinMap nat_cmp (List ℕ)

-- the map after a command: a put gives the key its value, and a drop of a key that isn't there changes nothing
abbrev pub applied : Command → Map → Map
applied (Put entry) rows = map.insert rows entry.0 entry.1
applied (Drop key) rows = map.remove rows key

-- the map after commands, in order
abbrev pub all_applied : List Command → Map → Map
all_applied [] rows = rows
all_applied (command ∷ more) rows = all_applied more (applied command rows)
