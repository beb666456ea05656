-- The numbers of the statuses, as the program's exit gives them.
use Rattle.std.specs.Prelude.{ℕ, refl}
use Rattle.df_program.specs.Ends.{Statuses}
use Rattle.df_top.specs.{declared.status.Status.{Status}, declared.status.Status.TheVariants.{Done, Found, Words, Script, Refused, DiskFault, ReadFault, WriteFault, Memory}}

abbrev pub exit_number : Status → ℕ
exit_number Done = 0
exit_number Found = 1
exit_number Words = 2
exit_number Script = 3
exit_number Refused = 4
exit_number DiskFault = 5
exit_number ReadFault = 6
exit_number WriteFault = 7
exit_number Memory = 8

abbrev pub statuses : Statuses Status
statuses = record { number = exit_number; refused = Refused; disk_fault = DiskFault; write_fault = WriteFault; refused_is = refl; disk_is = refl; sink_is = refl }
