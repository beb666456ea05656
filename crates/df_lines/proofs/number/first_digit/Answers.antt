use Rattle.{std.proofs.{Common.{◌∙◌, ◌∷◌, [], inl, inr, sym, ap, arith}, lemmas.Fmt.{decimal_digit}}, df_lines.proofs.Decimals.{first_byte}}
use Rattle.df_lines.proofs.number.first_digit.Goals as goal

pub returns-in-49-to-57-clause-found : goal.returns-in-49-to-57-clause-found
returns-in-49-to-57-clause-found c = sym (decimal_digit c.from.result (omega arith) ∙ ap (λ (b : _). b ∷ []) (omega arith))

pub returns-in_default-clause-none : goal.returns-in_default-clause-none
returns-in_default-clause-none c =
    λ n rest fits is. elim (first_byte c.args.byte n rest fits is) [ inl zero ↦ zero | inr high ↦ absurd (omega (arith, high)) ]

pub returns-in_default-2-clause-none : goal.returns-in_default-2-clause-none
returns-in_default-2-clause-none c =
    λ n rest fits is. elim (first_byte c.args.byte n rest fits is) [ inl zero ↦ zero | inr high ↦ absurd (omega (arith, high)) ]
