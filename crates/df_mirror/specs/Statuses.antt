-- How a run ends: the numbers of the statuses, and what each ending blames.
use Rattle.std.specs.Prelude.{◌≡◌, ℕ, Bool, true, false, Result, refl}
use Rattle.df_program.specs.{Ends.{Statuses}, Two.{Faults}}
use Rattle.df_base.specs.Causes.{IsBlamed}
use Rattle.df_model.specs.declared.errors.OpenError.TheVariants.{DiskFault}
use Rattle.df_mirror.specs.{declared.ending.Ending.{Ending}, declared.ending.Ending.TheVariants.{First, Second, Sink, Unopened}, declared.status.Status.{Status}}
use Rattle.df_mirror.specs.declared.status.Status.TheVariants as ends

-- those of `datafile` that come
abbrev pub mirror_exit_number : Status → ℕ
mirror_exit_number ends.Done = 0
mirror_exit_number ends.Found = 1
mirror_exit_number ends.Words = 2
mirror_exit_number ends.Refused = 4
mirror_exit_number ends.DiskFault = 5
mirror_exit_number ends.WriteFault = 7
mirror_exit_number ends.Memory = 8

abbrev pub statuses : Statuses Status
statuses = record { number = mirror_exit_number; refused = ends.Refused; disk_fault = ends.DiskFault; write_fault = ends.WriteFault; refused_is = refl; disk_is = refl; sink_is = refl }

-- the first file's disk failed
abbrev pub is_first : Ending → Bool
is_first First = true
is_first (Unopened DiskFault) = true
is_first e = false

-- the second file's did
abbrev pub is_second : Ending → Bool
is_second Second = true
is_second e = false

-- the sink failed
abbrev pub is_sink : Ending → Bool
is_sink Sink = true
is_sink e = false

-- neither the second file's disk nor the sink is blamed
abbrev pub IsOfFirst : Ending → Type 0
IsOfFirst e = (is_second e ≡ false) × (is_sink e ≡ false)

-- each count of faults rose, once, exactly where the answer blames what it counts, and is the same after every other answer
abbrev pub AreBlamed : {T : Type 0} → (before now : Faults) → Result T Ending → Type 0
AreBlamed before now result = IsBlamed is_first before.first now.first result × IsBlamed is_second before.second now.second result × IsBlamed is_sink before.sink now.sink result
