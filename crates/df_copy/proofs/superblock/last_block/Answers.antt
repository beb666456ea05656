-- No block is named by zeros.
use Rattle.{std.proofs.Common.{refl}, df_format.specs.Spelling.{no_checksum}, df_copy.proofs.Naming.{none_is_named}}
use Rattle.df_copy.proofs.superblock.last_block.Goals as goal

pub returns-in-None : goal.returns-in-None
unfolding no_checksum
returns-in-None c = record { last = none_is_named _ _ (c.in-None.ensures {u = tt}).pair (refl, refl) }
