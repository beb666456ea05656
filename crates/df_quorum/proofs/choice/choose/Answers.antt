-- One content is chosen, so what holds of the one that was found holds of each.
use Rattle.{std.proofs.Common.{ap, subst}, df_format.specs.Copies.{Content}}
use Rattle.df_quorum.{specs.Quorum.{copies_of, content_of_copy, AreMembers}, proofs.Choices.{one_law}}
use Rattle.df_quorum.proofs.choice.choose.Goals as goal

pub returns-in-Some-clause-exactly : goal.returns-in-Some-clause-exactly
returns-in-Some-clause-exactly c = λ d is.
    ap (λ (x : Content). x.fields) (one_law (copies_of c.args.copies.now) (content_of_copy c.in-Some.best.now) d c.in-Some.ensures is)

pub returns-in-Some-clause-members : goal.returns-in-Some-clause-members
returns-in-Some-clause-members c = λ d is. subst (λ (x : Content). AreMembers (copies_of c.args.copies.now) x c.members.result)
    (one_law (copies_of c.args.copies.now) (content_of_copy c.in-Some.best.now) d c.in-Some.ensures is) c.members.ensures
