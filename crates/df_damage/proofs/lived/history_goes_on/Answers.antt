use Rattle.df_damage.proofs.Histories.{begun_goes_on, first_goes_on, raised_goes_on, stopped_goes_on}
use Rattle.df_damage.proofs.lived.history_goes_on.Goals as goal

pub returns-clause-first : goal.returns-clause-first
returns-clause-first c = first_goes_on

pub returns-clause-begun : goal.returns-clause-begun
returns-clause-begun c = begun_goes_on

pub returns-clause-raised : goal.returns-clause-raised
returns-clause-raised c = raised_goes_on

pub returns-clause-stopped : goal.returns-clause-stopped
returns-clause-stopped c = stopped_goes_on
