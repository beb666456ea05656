-- What is printed is what the survey tells, and the status is that of its list.
use Rattle.{std.proofs.Common.{ℕ, List, ◌∙◌, ap}, df_inspect.specs.Prints.{Prints}, df_session.specs.Replica.{summary_of}}
use Rattle.df_top.{specs.{Outside.{PrintsLine}, Reporting.{report_of, status_of}, declared.status.Status.{Status}}, proofs.Reported.{same_report}}
use Rattle.df_top.proofs.reporting.report.Goals as goal

pub returns-clause-prints : goal.returns-clause-prints
returns-clause-prints g c = let old = g.W.Sink.written c.args.sink.now in let new = g.W.Sink.written c.print_inspection-done.new.sink in
    rw (c.found.ensures.is ∙ ap status_of c.to_mend-mends.ensures) at
    (c.ended.ensures.writes _ old new (same_report (λ (text : List ℕ). Prints text old new c.print_inspection-done.result)
    c.summary-summary.result (summary_of c.args.surveyed.now.state) c.root.result.now c.args.surveyed.now.state.root
    c.sessions.result.now c.args.surveyed.now.state.table.sessions c.to_mend-mends.result.now c.args.surveyed.now.mends
    c.summary-summary.ensures c.root.ensures c.sessions.ensures c.to_mend-mends.ensures c.print_inspection-done.ensures.prints))
