use Rattle.df_damage.proofs.Histories.{found_was_since, lived_layout}
use Rattle.df_damage.proofs.lived.found_state_was_had_since.Goals as goal

pub returns-clause-found : goal.returns-clause-found
returns-clause-found c = found_was_since

pub returns-clause-layout : goal.returns-clause-layout
returns-clause-layout c = lived_layout
