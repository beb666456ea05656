-- Why the program ends, and which object is to blame.
use Rattle.std.specs.Prelude.{ℕ, Bool, true, false, refl}
use Rattle.df_program.specs.Ends.{Statuses}
use Rattle.df_session.specs.declared.hearing.Fault.{Fault}
use Rattle.df_session.specs.declared.hearing.Fault.TheVariants as faults
use Rattle.df_notes.specs.{declared.ended.Ended.{Ended}, declared.ended.Ended.TheVariants.{Refused, DiskFault, ReadFault, WriteFault, Memory}}

-- the status of the exit
abbrev pub notes_exit_number : (ended : Ended) → ℕ
notes_exit_number Refused = 4
notes_exit_number DiskFault = 5
notes_exit_number ReadFault = 6
notes_exit_number WriteFault = 7
notes_exit_number Memory = 8

abbrev pub statuses : Statuses Ended
statuses = record { number = notes_exit_number; refused = Refused; disk_fault = DiskFault; write_fault = WriteFault; refused_is = refl; disk_is = refl; sink_is = refl }

-- by a call that answered an error: the disk failed in it, or it is refused
abbrev pub ended_by : Bool → Ended
ended_by true = DiskFault
ended_by false = Refused

-- by a call after which none may follow: the disk failed in it; of an append and a reply there is no other cause
abbrev pub ended_at : Fault → Ended
ended_at faults.Disk = DiskFault
ended_at (faults.Damaged place class) = Refused

-- the disk is to blame
abbrev pub is_disk_at_fault : Ended → Bool
is_disk_at_fault DiskFault = true
is_disk_at_fault e = false

-- the sink is to blame
abbrev pub is_sink : Ended → Bool
is_sink WriteFault = true
is_sink e = false

-- neither for want of memory nor for what is read of standard input
abbrev pub IsOfRun : Ended → Type 0
IsOfRun Memory = ⊥
IsOfRun ReadFault = ⊥
IsOfRun e = Unit {0}
