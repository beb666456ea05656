-- A turn prints one piece more.
use Rattle.{std.proofs.Common.{refl, ◌∙◌, arith}, df_inspect.proofs.Digits.{none_printed, piece_failed, piece_printed}}
use Rattle.df_inspect.proofs.messages.print_digits.Goals as goal

pub loop-done-init : goal.loop-done-init
loop-done-init g c = record { within = omega arith; printed = none_printed _; quiet = refl }

pub returns-in_err-print_piece-clause-prints : goal.returns-in_err-print_piece-clause-prints
returns-in_err-print_piece-clause-prints g c = piece_failed _ _
    _ c.loop-done.done _ c.args.bytes.now _ c.from_residual.ensures.0 c.loop-done.invariant.printed c.in_err-print_piece.ensures.prints.part

pub loop-done-preserved : goal.loop-done-preserved
loop-done-preserved g c = record {
  within = omega arith;
  printed = piece_printed _ _ _ c.loop-done.done
      c.min-count.result _ c.args.bytes.now (omega arith) c.loop-done.invariant.printed c.in_ok-print_piece.ensures.prints.whole;
  quiet = c.in_ok-print_piece.ensures.cause.same ∙ c.loop-done.invariant.quiet;
}
