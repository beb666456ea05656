-- Each refusal has its cause.
use Rattle.std.proofs.Common.{arith, sym, List, ℕ}
use Rattle.df_lines.{specs.Grammar.{IsBody}, proofs.WordsBehind.{no_number, number_word, sized_first}}
use Rattle.df_lines.proofs.arguments.sized.Goals as goal

pub returns-in_err-number-clause-none : goal.returns-in_err-number-clause-none
returns-in_err-number-clause-none c =
    rw c.from_residual.ensures (λ n body are. no_number _ n _ (sized_first _ _ n body (omega arith) are) c.in_err-number.ensures.none)

pub returns-in_err-number-2-clause-none : goal.returns-in_err-number-2-clause-none
returns-in_err-number-2-clause-none c = rw c.from_residual-in_err-number-2.ensures (λ n body are. c.in_err-number-2.ensures.none
    n are.fits.0 (number_word _ _ _ n _ (sized_first _ _ n body (omega arith) are) c.in_ok-number.ensures.found).0)

pub returns-in_err-length-clause-none : goal.returns-in_err-length-clause-none
returns-in_err-length-clause-none c = rw c.from_residual-in_err-length.ensures (λ n body are.
    let rest = number_word _ _ _ n _ (sized_first _ _ n body (omega arith) are) c.in_ok-number.ensures.found in
    c.in_err-length.ensures.none body (rw (sym rest.1) at are.fits.1))
