use Rattle.{std.proofs.Common.{◌+◌, drop, arith}, df_lines.proofs.Decimals.{walk}}
use Rattle.df_lines.proofs.number.number_from.Goals as goal

pub returns-in_err-value-clause-none : goal.returns-in_err-value-clause-none
returns-in_err-value-clause-none c = rw c.from_residual.ensures (λ n fits is.
    c.in_err-value.ensures.none n (drop (c.loop-byte.byte-index + 1) c.args.digits.now)
    fits (walk c.args.front c.loop-byte.value c.loop-byte.byte-index n c.args.digits.now (omega arith) c.loop-byte.invariant.1 is))
