-- Each law is one lemma.
use Rattle.df_top.proofs.Upgrades.{old_is_upgraded, second_is_left}
use Rattle.df_top.proofs.completeness.an_old_file_is_upgraded.Goals as goal

pub returns : goal.returns
returns c = record { upgraded = old_is_upgraded; left = second_is_left }
