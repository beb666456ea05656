use Rattle.df_rows.proofs.Bodies.{one_command}
use Rattle.df_rows.proofs.meaning.one_command.Goals as goal

pub returns : goal.returns
returns c = one_command
