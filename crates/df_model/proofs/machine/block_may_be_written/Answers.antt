use Rattle.df_model.proofs.Blocks.{block_aside_law, block_may_law}
use Rattle.df_model.proofs.machine.block_may_be_written.Goals as goal

pub returns-clause-least : goal.returns-clause-least
returns-clause-least c = block_may_law

pub returns-clause-aside : goal.returns-clause-aside
returns-clause-aside c = block_aside_law
