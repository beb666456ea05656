-- The superblock's fields obey their rules.
use Rattle.{std.proofs.Common.{subst}, df_opening.specs.Below.{IsUsable, State}}
use Rattle.df_replica.proofs.replica.Replica.fields.Goals as goal

pub returns-clause-usable : goal.returns-clause-usable
returns-clause-usable c = subst (λ (s : State). IsUsable s.fields) c.self.view_is c.fields.ensures.usable
