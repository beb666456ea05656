-- The refusal is the machine's.
use Rattle.df_opening.specs.Below.{memory}
use Rattle.df_replica.proofs.replica.Replica.why_no_reply.Goals as goal

pub returns-clause-why : goal.returns-clause-why
returns-clause-why c = λ body size. c.reply_refusal.ensures (memory c.args.self.now) body c.counters.ensures size
