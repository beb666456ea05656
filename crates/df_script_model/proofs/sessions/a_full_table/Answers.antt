use Rattle.df_script_model.proofs.Worked.{full_pipeline, full_table}
use Rattle.df_script_model.proofs.sessions.a_full_table.Goals as goal

pub returns-clause-clients : goal.returns-clause-clients
returns-clause-clients c = full_table

pub returns-clause-pipeline : goal.returns-clause-pipeline
returns-clause-pipeline c = full_pipeline
