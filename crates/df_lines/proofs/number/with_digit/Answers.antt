use Rattle.std.{proofs.Common.{◌∙◌, ap, arith}, specs.Char.{digit_value}}
use Rattle.df_lines.proofs.Decimals.{next_digit, sum_is, some_from_iff, none_from_iff}
use Rattle.df_lines.proofs.number.with_digit.Goals as goal

pub returns-in_err-digit-clause-none : goal.returns-in_err-digit-clause-none
returns-in_err-digit-clause-none c = rw c.from_residual.ensures (λ n rest fits is.
    c.in_err-digit.ensures.value (rw c.from.ensures (next_digit c.args.front c.args.byte n rest (omega arith) fits is).0))

pub returns-in_err-checked_mul-clause-none : goal.returns-in_err-checked_mul-clause-none
returns-in_err-checked_mul-clause-none c = rw c.from_residual-in_err-checked_mul.ensures (λ n rest fits is.
    c.in_err-checked_mul.ensures (omega (arith, (next_digit c.args.front c.args.byte n rest (omega arith) fits is).1)))

pub returns-clause-found : goal.returns-clause-found
returns-clause-found c = some_from_iff _ _ _ _ c.checked_add.ensures (λ fits.
    sum_is c.args.front c.args.byte c.in_ok-checked_mul.field-0 c.from-2.result c.requires c.in_ok-checked_mul.ensures.1 (c.from-2.ensures
    ∙ c.in_ok-digit.ensures.value.1 ∙ ap digit_value c.from.ensures) fits (rw c.from.ensures at c.in_ok-digit.ensures.value.0))

pub returns-clause-none : goal.returns-clause-none
returns-clause-none c = none_from_iff _ _ _ _ c.checked_add.ensures (λ over n rest fits is.
    over (omega (arith, c.in_ok-checked_mul.ensures.1, c.from-2.ensures ∙ c.in_ok-digit.ensures.value.1 ∙ ap digit_value c.from.ensures, (next_digit c.args.front c.args.byte n rest (omega arith) fits is).1)))
