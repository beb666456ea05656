use Rattle.df_theory.proofs.Fields.{fields_hold_law}
use Rattle.df_theory.proofs.damage.fields_hold.Goals as goal

pub returns : goal.returns
returns c = fields_hold_law
