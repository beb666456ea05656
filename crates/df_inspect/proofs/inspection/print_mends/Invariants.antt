-- The items gone over are printed, and nothing failed.
use Rattle.{std.proofs.Common.{take, ◌≡◌}, df_base.specs.Streams.{Appends}, df_inspect.specs.Reports.{each_text, mend_text}}
use Rattle.df_inspect.proofs.inspection.print_mends.Given as goal

abbrev pub invariant-loop-mend : goal.invariant-loop-mend
invariant-loop-mend g l = record {
  printed : Appends
      (g.W.Sink.written l.initial.sink) (g.W.Sink.written l.sink) (each_text (λ place mend. mend_text mend) 0 (take l.mend-index l.mends));
  quiet : g.W.Sink.faults l.sink ≡ g.W.Sink.faults l.initial.sink;
}
