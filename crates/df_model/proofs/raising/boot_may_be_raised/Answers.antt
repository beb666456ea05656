use Rattle.df_model.proofs.Boots.{boot_may_law, raised_law}
use Rattle.df_model.proofs.raising.boot_may_be_raised.Goals as goal

pub returns-clause-may : goal.returns-clause-may
returns-clause-may c = boot_may_law

pub returns-clause-raised : goal.returns-clause-raised
returns-clause-raised c = raised_law
