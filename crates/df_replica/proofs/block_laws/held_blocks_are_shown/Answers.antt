-- The law is the lemma.
use Rattle.df_replica.proofs.HeldBlocks.{held_blocks_are_shown}
use Rattle.df_replica.proofs.block_laws.held_blocks_are_shown.Goals as goal

pub returns : goal.returns
returns c = held_blocks_are_shown
