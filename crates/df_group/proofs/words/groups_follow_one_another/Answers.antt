-- As the theory's law says.
use Rattle.df_theory.proofs.Laws.{group_rule_law}
use Rattle.df_group.proofs.words.groups_follow_one_another.Goals as goal

pub returns : goal.returns
returns c = group_rule_law
