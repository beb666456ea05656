-- The checkpoint is begun, and then finished.
use Rattle.{std.{proofs.Common.{[], refl, subst, sym, ap}, specs.Prelude.{OnOk}}, df_base.specs.Causes.{Blamed}}
use Rattle.df_session.specs.{Beginning.{captured}, Below.{State as Replica}}
use Rattle.df_table.{specs.{declared.ending.Ending.{Ending}, Calls.{IsCheckpointing}, Ready.{IsFinished}, Statuses.{is_disk}, Turns.{IsOfCall}}, proofs.Finished.{concluded}}
use Rattle.df_table.proofs.checkpointing.conclude.Goals as goal

pub finish-requires : goal.finish-requires
finish-requires g c = record { live = c.in-Ok.ensures.live; runs = rw c.in-Ok.ensures.state tt }

pub returns-in-Ok-clause-makes : goal.returns-in-Ok-clause-makes
returns-in-Ok-clause-makes g c = λ may.
    concluded c.args.replica.now c.begin.new.replica c.finish.new.replica (g.D.Disk.told c.args.disk.now) (g.D.Disk.told c.args.disk.now)
    (g.D.Disk.told c.finish.new.disk) c.finish.result (c.in-Ok.ensures.makes (g.D.Disk.told c.args.disk.now) may) c.finish.ensures.makes

pub returns-in-Ok-clause-finished : goal.returns-in-Ok-clause-finished
returns-in-Ok-clause-finished g c = let r = captured c.args.replica.now [] in
    subst (λ (u : Replica). OnOk c.finish.result (IsFinished r u c.finish.new.replica))
    c.in-Ok.ensures.state (c.finish.ensures.finished r (ap (λ (u : Replica). u.running) c.in-Ok.ensures.state))

pub returns-in-Err-clause-makes : goal.returns-in-Err-clause-makes
returns-in-Err-clause-makes g c = λ may. (0, c.in-Err.ensures.makes (g.D.Disk.told c.args.disk.now) may)

pub returns-in-Err-clause-goes : goal.returns-in-Err-clause-goes
returns-in-Err-clause-goes g c = subst (IsOfCall (g.D.Disk.told c.args.disk.now)) (sym c.in-Err.ensures.spent) tt

pub returns-in-Err-clause-disk : goal.returns-in-Err-clause-disk
returns-in-Err-clause-disk g c = let faults = g.D.Disk.faults c.args.disk.now in rw c.in-Err.ensures.spent refl
