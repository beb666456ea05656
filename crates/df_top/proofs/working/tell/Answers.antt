-- What is printed is what the run did, or why it ended before.
use Rattle.df_top.proofs.WorksOn.{prints_done}
use Rattle.df_top.proofs.working.tell.Goals as goal

pub returns-in-Ok-clause-prints : goal.returns-in-Ok-clause-prints
returns-in-Ok-clause-prints g c =
    prints_done c.args.run.now.generator c.args.run.now.replica c.args.worked c.in-Ok.field-0 c.report_of.result
    (g.W.Sink.written c.args.sink.now) (g.W.Sink.written c.print_workload.new.sink) c.ended.result c.in-Ok.is c.report_of.ensures
    (c.ended.ensures.writes _ _ _ c.print_workload.ensures.prints)
