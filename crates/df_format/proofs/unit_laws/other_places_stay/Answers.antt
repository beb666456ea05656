use Rattle.df_format.proofs.Units.{written_apart, left_apart}
use Rattle.df_format.proofs.unit_laws.other_places_stay.Goals as goal

pub returns-clause-written : goal.returns-clause-written
returns-clause-written c = written_apart

pub returns-clause-left : goal.returns-clause-left
returns-clause-left c = left_apart
