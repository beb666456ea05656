-- The digits of the bytes gone over are printed, and nothing failed.
use Rattle.{std.proofs.Common.{length, take, ◌-◌, ◌≡◌, ◌≤◌}, hex.specs.Hex.{encode_lower}, df_base.specs.Streams.{Appends}}
use Rattle.df_inspect.proofs.messages.print_digits.Given as goal

abbrev pub invariant-loop-done : goal.invariant-loop-done
invariant-loop-done g l = record {
  within : l.done ≤ length l.bytes;
  printed : Appends (g.W.Sink.written l.initial.sink) (g.W.Sink.written l.sink) (encode_lower (take l.done l.bytes));
  quiet : g.W.Sink.faults l.sink ≡ g.W.Sink.faults l.initial.sink;
}

abbrev pub decreases-loop-done : goal.decreases-loop-done
decreases-loop-done g l = length l.bytes - l.done
