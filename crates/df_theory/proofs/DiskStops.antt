-- A disk's log rests on a view after a stop, and after the barrier of an open.
use Rattle.{std.proofs.Common.{sym}, df_base.specs.Image.{changed}}
use Rattle.df_base.specs.Log
use Rattle.df_theory.{specs.{Units.{Units}, Found.{IsFound}, Device.{units_log}, DeviceLaws.{DiskBarrierLaw, DiskStopLaw}}, proofs.{Bridge.{now_units}, Writes.{stop_law}, Headline.{barrier_law}}}

pub disk_stop_law : DiskStopLaw
disk_stop_law f sh v log changes safe are chance holds =
    stop_law sh (units_log f log) v (f.unit_at (changed changes (Log.now log))) (safe.stopped changes are chance) holds

pub disk_barrier_law : DiskBarrierLaw
disk_barrier_law f sh v log safe found = barrier_law sh (units_log f log) v safe.synced (rw (sym (now_units f log.start log.events)) at found)
