-- By the session at the place.
use Rattle.{std.proofs.Common.{◌∙◌, sym}, df_table.proofs.Others.{is_none, other_test}}
use Rattle.df_table.proofs.opening.is_other.Goals as goal

pub returns-in-None : goal.returns-in-None
returns-in-None c =
    ((λ is. absurd (cc)), (λ other. absurd (is_none c.args.replica.now c.args.place (sym c.session.ensures ∙ c.in-None.is) other)))

pub returns-in-Some : goal.returns-in-Some
returns-in-Some c = other_test c.args.replica.now c.args.place c.in-Some.session (sym c.session.ensures ∙ c.in-Some.is)
