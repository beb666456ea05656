use Rattle.df_theory.proofs.BadFields.{no_bad_field_law}
use Rattle.df_theory.proofs.damage.no_field_is_bad.Goals as goal

pub returns : goal.returns
returns c = no_bad_field_law
