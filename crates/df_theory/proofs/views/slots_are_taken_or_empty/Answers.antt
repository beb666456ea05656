use Rattle.df_theory.proofs.Founds.{slot_law}
use Rattle.df_theory.proofs.views.slots_are_taken_or_empty.Goals as goal

pub returns : goal.returns
returns c = slot_law
