-- The items gone over are printed, and nothing failed.
use Rattle.{std.proofs.Common.{take, ◌≡◌}, df_base.specs.Streams.{Appends}, df_inspect.specs.Reports.{each_text, session_text}}
use Rattle.df_inspect.proofs.inspection.print_sessions.Given as goal

abbrev pub invariant-loop-place : goal.invariant-loop-place
invariant-loop-place g l = record {
  printed : Appends (g.W.Sink.written l.initial.sink) (g.W.Sink.written l.sink) (each_text (session_text) 0 (take l.place l.sessions));
  quiet : g.W.Sink.faults l.sink ≡ g.W.Sink.faults l.initial.sink;
}
