-- The only session, if there is one, is the client's.
use Rattle.{std.proofs.Common.{arith, sym, ◌∙◌}, df_table.proofs.Asked.{asked_none, asked_some}}
use Rattle.df_table.proofs.appending.next_request.Goals as goal

pub returns-in-Some : goal.returns-in-Some
returns-in-Some c = λ layout ready. asked_some layout c.args.replica.now
    ready c.in-Some.session _ (sym c.session.ensures ∙ c.in-Some.is) (λ small. omega (arith, small, c.saturating_add.ensures))

pub returns-in-None : goal.returns-in-None
returns-in-None c = λ layout ready. asked_none layout c.args.replica.now ready (sym c.session.ensures ∙ c.in-None.is)
