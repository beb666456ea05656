use Rattle.df_units.proofs.Classed.{none_wanted, units_told}
use Rattle.df_units.proofs.wanted.wanted_units_are_told.Goals as goal

pub returns-clause-told : goal.returns-clause-told
returns-clause-told c = units_told

pub returns-clause-none : goal.returns-clause-none
returns-clause-none c = none_wanted
