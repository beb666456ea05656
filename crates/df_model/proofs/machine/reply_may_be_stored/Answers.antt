use Rattle.df_model.proofs.{Answering.{reply_parent_law}, Replies.{reply_may_law}, Exact.{reply_exact_law}}
use Rattle.df_model.proofs.machine.reply_may_be_stored.Goals as goal

pub returns-clause-may : goal.returns-clause-may
returns-clause-may c = reply_may_law

pub returns-clause-exact : goal.returns-clause-exact
returns-clause-exact c = reply_exact_law

pub returns-clause-parent : goal.returns-clause-parent
returns-clause-parent c = reply_parent_law
