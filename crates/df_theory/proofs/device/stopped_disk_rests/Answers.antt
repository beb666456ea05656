use Rattle.df_theory.proofs.DiskStops.{disk_stop_law, disk_barrier_law}
use Rattle.df_theory.proofs.device.stopped_disk_rests.Goals as goal

pub returns-clause-stop : goal.returns-clause-stop
returns-clause-stop c = disk_stop_law

pub returns-clause-barrier : goal.returns-clause-barrier
returns-clause-barrier c = disk_barrier_law
