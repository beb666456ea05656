-- What is told of the ring is the machine's answer.
use Rattle.df_replica.proofs.ScrubCalls.{recent_serves}
use Rattle.df_replica.proofs.replica.Replica.recent.Goals as goal

pub returns-clause-call : goal.returns-clause-call
returns-clause-call c = λ live told. recent_serves c.args.self.now live told
