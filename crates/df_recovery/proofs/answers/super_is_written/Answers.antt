-- The content of a superblock that can be used.
use Rattle.df_recovery.proofs.Written.{super_is_written_as}
use Rattle.df_recovery.proofs.answers.super_is_written.Goals as goal

pub returns : goal.returns
returns c = super_is_written_as
