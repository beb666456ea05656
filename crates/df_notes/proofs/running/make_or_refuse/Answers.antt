-- The error is that of a blank disk, or another.
use Rattle.{std.proofs.Common.{Err, subst, sym}, df_base.specs.Causes.{IsBlamed}, df_model.specs.Faults.{is_open_fault}}
use Rattle.df_notes.{specs.{Ending.{IsOfRun, is_disk_at_fault, is_sink}, declared.ended.Ended.{Ended}}, proofs.Blame.{blames_disk, of_run, spares_sink}}
use Rattle.df_notes.proofs.running.make_or_refuse.Goals as goal

pub returns-clause-ends : goal.returns-clause-ends
returns-clause-ends g c = subst IsOfRun (sym c.why_ended.ensures) (of_run (is_open_fault c.args.error))

pub returns-clause-disk : goal.returns-clause-disk
returns-clause-disk g c = λ before blamed. subst (λ (e : Ended). IsBlamed {T = Unit {0}} is_disk_at_fault
    before (g.D.Disk.faults c.args.disk.now) (Err e)) (sym c.why_ended.ensures) (blames_disk (is_open_fault c.args.error) _ _ blamed)

pub returns-clause-sink : goal.returns-clause-sink
returns-clause-sink g c = let n = g.W.Sink.faults c.args.sink.now in
    subst (λ (e : Ended). IsBlamed {T = Unit {0}} is_sink n n (Err e)) (sym c.why_ended.ensures) (spares_sink (is_open_fault c.args.error) n)
