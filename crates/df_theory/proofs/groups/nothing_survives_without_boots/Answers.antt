use Rattle.df_theory.proofs.{TidyGroups.{clear_law}, GroupWalks.{clear_slot_law}}
use Rattle.df_theory.proofs.groups.nothing_survives_without_boots.Goals as goal

pub returns-clause-settled : goal.returns-clause-settled
returns-clause-settled c = clear_law

pub returns-clause-slots : goal.returns-clause-slots
returns-clause-slots c = clear_slot_law
