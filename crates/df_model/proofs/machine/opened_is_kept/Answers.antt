use Rattle.df_model.proofs.Runs.{opened_kept_law, first_kept_law}
use Rattle.df_model.proofs.machine.opened_is_kept.Goals as goal

pub returns-clause-opened : goal.returns-clause-opened
returns-clause-opened c = opened_kept_law

pub returns-clause-first : goal.returns-clause-first
returns-clause-first c = first_kept_law
