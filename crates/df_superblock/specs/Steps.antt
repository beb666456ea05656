-- What the writers of copies do, in the words of the theory: which steps their events are, on a file of any layout and cluster.
use Rattle.std.specs.Prelude.{◌+◌, ℕ, true, false, Bool, List, [], ◌∷◌}
use Rattle.df_base.specs.Log.{Event}
use Rattle.df_layout.specs.declared.layout.Layout.{Layout}
use Rattle.df_format.specs.declared.superblock.SuperFields.{SuperFields}
use Rattle.df_theory.specs.{Units.{Units}, Runs.{Puts, Step, Syncs}, MendLaws.{copy_steps}, Device.{AreSteps}}
use Rattle.df_units.specs.{Format.{format_of}, Puts.{put_copy}}

-- a copy lies at the same sector in every layout, so that these are its steps in each
abbrev pub AreStepsOfCopies : List Event → List Step → Type 0
AreStepsOfCopies events steps = (layout : Layout) (cluster : ℕ) → AreSteps (format_of layout cluster) events steps

-- a copy is put, and synced
abbrev pub copy_write_steps : ℕ → SuperFields → List Step
copy_write_steps number f = Puts (put_copy number f) ∷ Syncs ∷ []

-- the copies that a repair puts, from this number on, with their numbers: those that aren't members
abbrev pub repaired : SuperFields → ℕ → List Bool → List (ℕ × Units)
repaired f number [] = []
repaired f number (true ∷ members) = repaired f (number + 1) members
repaired f number (false ∷ members) = (number, put_copy number f) ∷ repaired f (number + 1) members

-- a repair: each of them put, and synced before the next one
abbrev pub repair_steps : SuperFields → List Bool → List Step
repair_steps f members = copy_steps (repaired f 0 members)
