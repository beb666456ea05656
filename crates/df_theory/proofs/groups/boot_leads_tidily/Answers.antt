use Rattle.df_theory.proofs.TidyGroups.{tidy_boot_law}
use Rattle.df_theory.proofs.groups.boot_leads_tidily.Goals as goal

pub returns : goal.returns
returns c = tidy_boot_law
