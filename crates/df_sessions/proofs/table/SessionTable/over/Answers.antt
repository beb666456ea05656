-- Sessions of clients that differ are a table.
use Rattle.df_sessions.proofs.Listed.{listed_table}
use Rattle.df_sessions.proofs.table.SessionTable.over.Goals as goal

pub invariant_of-result : goal.invariant_of-result
invariant_of-result c =
    listed_table c.args.max c.args.sessions.items c.requires.some c.requires.most c.requires.few c.requires.named c.requires.apart
