use Rattle.df_theory.proofs.GroupWalks.{lost_law}
use Rattle.df_theory.proofs.groups.lost_case_by_case.Goals as goal

pub returns : goal.returns
returns c = lost_law
