use Rattle.df_theory.proofs.TidyRuns.{tidy_run_law, standing_run_law}
use Rattle.df_theory.proofs.tidiness.run_ends_tidy.Goals as goal

pub returns-clause-tidy : goal.returns-clause-tidy
returns-clause-tidy c = tidy_run_law

pub returns-clause-standing : goal.returns-clause-standing
returns-clause-standing c = standing_run_law
