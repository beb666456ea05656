use Rattle.df_model.proofs.Kept.{block_read_law, prepare_read_law, reply_read_law, scrub_law}
use Rattle.df_model.proofs.machine.what_is_kept_is_read.Goals as goal

pub returns-clause-prepare : goal.returns-clause-prepare
returns-clause-prepare c = prepare_read_law

pub returns-clause-reply : goal.returns-clause-reply
returns-clause-reply c = reply_read_law

pub returns-clause-block : goal.returns-clause-block
returns-clause-block c = block_read_law

pub returns-clause-scrub : goal.returns-clause-scrub
returns-clause-scrub c = scrub_law
