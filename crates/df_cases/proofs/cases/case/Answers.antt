-- Two checksums that aren't one have two numbers.
use Rattle.{std.{proofs.Common.{sym, ◌∙◌}, specs.Str.{bytes_eq}}, df_cases.proofs.Decides.{other_is_lost}}
use Rattle.df_cases.proofs.cases.case.Goals as goal

pub returns-in-Now-default : goal.returns-in-Now-default
returns-in-Now-default c = record {
  model = other_is_lost c.args.header c.args.prepare c.in-Now-Now.header c.in-Now-Now.prepare c.in-Now-Now.is-0 c.in-Now-Now.is-1
      (sym (λ i. bytes_eq (c.in-Now-Now.header-is i) (c.in-Now-Now.prepare-is i)) ∙ sym c.eq.ensures ∙ c.if-eq.false);
}
