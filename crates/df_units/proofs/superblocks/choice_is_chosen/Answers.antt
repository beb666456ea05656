use Rattle.df_units.proofs.Chosen.{choice_chosen, chosen_choice, split_split}
use Rattle.df_units.proofs.superblocks.choice_is_chosen.Goals as goal

pub returns-clause-chosen : goal.returns-clause-chosen
returns-clause-chosen c = choice_chosen

pub returns-clause-choice : goal.returns-clause-choice
returns-clause-choice c = chosen_choice

pub returns-clause-split : goal.returns-clause-split
returns-clause-split c = split_split
