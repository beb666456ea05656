use Rattle.df_model.proofs.Runs.{run_law}
use Rattle.df_model.proofs.machine.runs_lead_on.Goals as goal

pub returns : goal.returns
returns c = run_law
