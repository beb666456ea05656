-- The items gone over are printed, and nothing failed.
use Rattle.{std.proofs.Common.{take, ◌≡◌}, df_base.specs.Streams.{Appends}, df_inspect.specs.Reports.{each_text, finding_text}}
use Rattle.df_inspect.proofs.findings.print_findings.Given as goal

abbrev pub invariant-loop-finding : goal.invariant-loop-finding
invariant-loop-finding g l = record {
  printed : Appends (g.W.Sink.written l.initial.sink)
      (g.W.Sink.written l.sink) (each_text (λ place f. finding_text f) 0 (take l.finding-index l.findings));
  quiet : g.W.Sink.faults l.sink ≡ g.W.Sink.faults l.initial.sink;
}
