-- The laws are proved.
use Rattle.df_lifetime.proofs.KeptReads.{kept_prepares_are_read, kept_replies_are_read, live_blocks_are_read}
use Rattle.df_lifetime.proofs.reads.what_is_kept_is_read.Goals as goal

pub returns-clause-prepares : goal.returns-clause-prepares
returns-clause-prepares c = kept_prepares_are_read

pub returns-clause-replies : goal.returns-clause-replies
returns-clause-replies c = kept_replies_are_read

pub returns-clause-blocks : goal.returns-clause-blocks
returns-clause-blocks c = live_blocks_are_read
