use Rattle.{std.proofs.Common.{◌∙◌, sym, arith}, df_lines.proofs.Decimals.{one_number}}
use Rattle.df_lines.proofs.number.number_of.Goals as goal

pub returns-else-number-most-clause-none : goal.returns-else-number-most-clause-none
returns-else-number-most-clause-none c = λ n within is.
    omega (arith, one_number c.in_ok-number.number n (omega arith) (omega arith) (sym c.in_ok-number.ensures.found ∙ is))
