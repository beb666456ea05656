use Rattle.df_theory.proofs.Hurts.{never_behind_law}
use Rattle.df_theory.proofs.damage.superblock_is_never_behind.Goals as goal

pub returns : goal.returns
returns c = never_behind_law
