use Rattle.df_units.proofs.Classed.{classes_told}
use Rattle.df_units.proofs.wanted.classes_tell.Goals as goal

pub returns : goal.returns
returns c = classes_told
