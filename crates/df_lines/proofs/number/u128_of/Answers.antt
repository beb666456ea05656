use Rattle.std.{proofs.{Common.{◌∙◌, sym, ap, false, true, ◌≡◌}, lemmas.Bool.Decides.{Decides-eqb}, lemmas.Slice.Eq.{slice_eq-Decides}}, specs.Prelude.{decimal}}
use Rattle.df_lines.proofs.Decimals.{none_spells_nothing, zero_is}
use Rattle.df_lines.proofs.number.u128_of.Goals as goal

pub returns-then-eq-clause-found : goal.returns-then-eq-clause-found
returns-then-eq-clause-found c = (slice_eq-Decides Decides-eqb _ _ _ c.eq.ensures).0 c.if-eq.true ∙ c.as_slice.ensures ∙ sym zero_is

pub returns-in_err-first-clause-none : goal.returns-in_err-first-clause-none
returns-in_err-first-clause-none c = rw c.from_residual.ensures (λ n fits is. none_spells_nothing _ n fits c.in_err-first.ensures.cases is)

pub returns-in_err-first_digit-clause-none : goal.returns-in_err-first_digit-clause-none
returns-in_err-first_digit-clause-none c = rw c.from_residual-in_err-first_digit.ensures (λ n fits is.
    let zero = c.in_err-first_digit.ensures.none n _ fits (sym c.in_ok-first.ensures.cases.0 ∙ is) in
    let equal = (slice_eq-Decides Decides-eqb _ _ _ c.eq.ensures).1 (is ∙ ap decimal zero ∙ zero_is ∙ sym c.as_slice.ensures) in
    absurd (let clash : true ≡ false = sym equal ∙ c.if-eq.false in cc))
