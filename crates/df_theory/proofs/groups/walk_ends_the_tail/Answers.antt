use Rattle.df_theory.proofs.GroupWalks.{walk_law, alone_law}
use Rattle.df_theory.proofs.groups.walk_ends_the_tail.Goals as goal

pub returns-clause-walk : goal.returns-clause-walk
returns-clause-walk c = walk_law

pub returns-clause-alone : goal.returns-clause-alone
returns-clause-alone c = alone_law
