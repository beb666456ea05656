-- How a run ends: the numbers of the statuses, and why a session ends before its script does.
use Rattle.std.specs.Prelude.{ℕ, Bool, true, false, List, [], codes, refl}
use Rattle.df_program.specs.Ends.{Statuses}
use Rattle.df_script_model.specs.Texts.{damaged_text}
use Rattle.df_rows.specs.Answers.{not_table_text}
use Rattle.df_session.specs.declared.hearing.Fault.{Fault}
use Rattle.df_session.specs.declared.hearing.Fault.TheVariants as faults
use Rattle.df_table.specs.{declared.ending.Ending.{Ending}, declared.ending.Ending.TheVariants.{Disk, Damaged, NotTable, OpsSpent, SequenceSpent}, declared.status.Status.{Status}}
use Rattle.df_table.specs.declared.status.Status.TheVariants as ends

-- those of `datafile` that come
abbrev pub table_exit_number : Status → ℕ
table_exit_number ends.Done = 0
table_exit_number ends.Words = 2
table_exit_number ends.Script = 3
table_exit_number ends.Refused = 4
table_exit_number ends.DiskFault = 5
table_exit_number ends.ReadFault = 6
table_exit_number ends.WriteFault = 7
table_exit_number ends.Memory = 8

abbrev pub statuses : Statuses Status
statuses = record { number = table_exit_number; refused = ends.Refused; disk_fault = ends.DiskFault; write_fault = ends.WriteFault; refused_is = refl; disk_is = refl; sink_is = refl }

-- the disk failed
abbrev pub is_disk : Ending → Bool
is_disk Disk = true
is_disk e = false

-- by what ends a list of calls
abbrev pub ended_by : Fault → Ending
ended_by faults.Disk = Disk
ended_by (faults.Damaged place class) = Damaged place class

-- the line of an ending; a failing disk has none
abbrev pub ending_text : Ending → List ℕ
ending_text Disk = []
ending_text (Damaged place class) = damaged_text place class
ending_text (NotTable place) = not_table_text place
ending_text OpsSpent = codes "refused OpsSpent\n"
ending_text SequenceSpent = codes "refused SequenceSpent\n"

-- the status of an ending
abbrev pub status_of : Ending → Status
status_of Disk = ends.DiskFault
status_of (Damaged place class) = ends.Refused
status_of (NotTable place) = ends.Refused
status_of OpsSpent = ends.Refused
status_of SequenceSpent = ends.Refused
