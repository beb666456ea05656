use Rattle.std.{proofs.{Common.{◌∙◌, lit<}, lemmas.Str.Pattern.{split_after}}, specs.Prelude.{decimal, None, Some}}
use Rattle.df_program.proofs.Commas.{no_comma}
use Rattle.df_program.proofs.layout.number_before_comma.Goals as goal

pub returns-in_err-digits-clause-none : goal.returns-in_err-digits-clause-none
returns-in_err-digits-clause-none c = rw c.from_residual.ensures (λ n rest fits is.
    split_after 44 _ (decimal n) rest None c.in_err-digits.ensures.cases (lit< tt) is (no_comma n fits))

pub returns-in_err-u32_of-clause-none : goal.returns-in_err-u32_of-clause-none
returns-in_err-u32_of-clause-none c = rw c.from_residual-in_err-u32_of.ensures (λ n rest fits is. let parts = split_after
    44 _ (decimal n) rest (Some (c.in_ok-digits.digits, c.in_ok-digits.rest)) c.in_ok-digits.ensures.cases (lit< tt) is (no_comma n fits) in
    c.in_err-u32_of.ensures.none n fits (c.as_bytes.ensures.value ∙ parts.0))
