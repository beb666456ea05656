use Rattle.df_theory.proofs.GroupRules.{group_rule_law}
use Rattle.df_theory.proofs.groups.groups_follow_one_another.Goals as goal

pub returns : goal.returns
returns c = group_rule_law
