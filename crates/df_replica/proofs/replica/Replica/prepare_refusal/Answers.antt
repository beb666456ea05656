-- The refusal is the machine's, over the numbers in memory.
use Rattle.df_opening.specs.Below.{memory}
use Rattle.df_replica.proofs.replica.Replica.prepare_refusal.Goals as goal

pub returns-clause-why : goal.returns-clause-why
returns-clause-why c = c.prepare_refusal.ensures (memory c.args.self.now) c.counters.ensures
