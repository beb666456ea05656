use Rattle.df_theory.proofs.HurtSample.{hurt_sample_law}
use Rattle.df_theory.proofs.sample_file.a_hurt_slot_is_blamed.Goals as goal

pub returns : goal.returns
returns c = hurt_sample_law
