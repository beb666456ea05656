-- What is printed is what the replica tells.
use Rattle.{std.proofs.Common.{ℕ, List}, df_inspect.specs.Prints.{Prints}, df_session.specs.Replica.{summary_of}}
use Rattle.df_top.proofs.Reported.{same_summary}
use Rattle.df_top.proofs.reporting.summarise.Goals as goal

pub returns-clause-prints : goal.returns-clause-prints
returns-clause-prints g c = let old = g.W.Sink.written c.args.sink.now in let new = g.W.Sink.written c.print_summary.new.sink in
    c.ended.ensures.writes _ old new (same_summary (λ (text : List ℕ). Prints text old new c.print_summary.result)
    c.summary.result (summary_of c.args.replica.now) c.summary.ensures c.print_summary.ensures.prints)
