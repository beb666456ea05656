use Rattle.df_format.proofs.Front.{front_brings, made_brings}
use Rattle.df_format.proofs.unit_laws.sectors_bring_units.Goals as goal

pub returns-clause-made : goal.returns-clause-made
returns-clause-made c = made_brings

pub returns-clause-front : goal.returns-clause-front
returns-clause-front c = front_brings
