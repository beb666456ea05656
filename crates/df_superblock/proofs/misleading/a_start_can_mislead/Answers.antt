use Rattle.df_superblock.proofs.Starts.{misleads_law}
use Rattle.df_superblock.proofs.misleading.a_start_can_mislead.Goals as goal

pub returns : goal.returns
returns c = misleads_law
