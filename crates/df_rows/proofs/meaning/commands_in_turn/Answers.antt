use Rattle.df_rows.proofs.Bodies.{in_turn}
use Rattle.df_rows.proofs.meaning.commands_in_turn.Goals as goal

pub returns : goal.returns
returns c = in_turn
