use Rattle.df_theory.proofs.Runs.{commands_law}
use Rattle.df_theory.proofs.writers.commands_lead_on.Goals as goal

pub returns : goal.returns
returns c = commands_law
