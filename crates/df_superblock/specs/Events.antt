-- Which events the writers of copies add.
use Rattle.std.specs.Prelude.{◌+◌, ℕ, true, false, Bool, List, [], ◌∷◌, ◌++◌}
use Rattle.df_base.specs.Log.{Event, Write, Sync}
use Rattle.df_format.specs.{Super.{copy_bytes}, declared.superblock.SuperFields.{SuperFields}}

-- the write of a copy of these fields; copy n is sector n
abbrev pub copy_written : ℕ → SuperFields → Event
copy_written number f = Write number (copy_bytes number f)

-- an update: the four copies in order of number, each durable before the next one is written
abbrev pub update_events : SuperFields → List Event
update_events f = copy_written 0 f ∷ Sync ∷ copy_written 1 f ∷ Sync ∷ copy_written 2 f ∷ Sync ∷ copy_written 3 f ∷ Sync ∷ []

-- one place of a repair: a member is left as it is
abbrev pub mend_events : SuperFields → ℕ → Bool → List Event
mend_events f number true = []
mend_events f number false = copy_written number f ∷ Sync ∷ []

-- a repair, from this number on: the copies that aren't members, in order of number, each durable before the next one is
-- written
abbrev pub repair_events : SuperFields → ℕ → List Bool → List Event
repair_events f number [] = []
repair_events f number (member ∷ members) = mend_events f number member ++ repair_events f (number + 1) members
