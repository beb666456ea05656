-- Each copy is the machine's put of it.
use Rattle.{std.proofs.Common.{arith}, df_units.proofs.Laws.{copy_put}}
use Rattle.df_replica.proofs.step.make_durable.Goals as goal

pub returns-in-Err-clause-steps : goal.returns-in-Err-clause-steps
returns-in-Err-clause-steps g c = λ layout cluster. let f = c.args.content.now in let usable = c.fields-fields.ensures.usable in
    (copy_put layout cluster 0 f (omega arith) usable, (copy_put layout cluster 1 f (omega arith) usable, (copy_put layout cluster 2 f (omega arith) usable, (copy_put layout cluster 3 f (omega arith) usable, tt))))
