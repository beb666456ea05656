use Rattle.df_program.proofs.Layouts.{one_layout}
use Rattle.df_program.proofs.layout.a_name_is_of_one_layout.Goals as goal

pub returns : goal.returns
returns c = one_layout
