use Rattle.df_script_model.proofs.Printed.{printed_law}
use Rattle.df_script_model.proofs.sessions.scripts_print_answers.Goals as goal

pub returns : goal.returns
returns c = printed_law
