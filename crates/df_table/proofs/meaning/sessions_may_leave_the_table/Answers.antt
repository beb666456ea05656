-- The law is a lemma.
use Rattle.df_table.proofs.Leaving.{leaving_keeps_table}
use Rattle.df_table.proofs.meaning.sessions_may_leave_the_table.Goals as goal

pub returns : goal.returns
returns c = leaving_keeps_table
