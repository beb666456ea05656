use Rattle.df_format.proofs.Units.{written_shown, sectors_for_place}
use Rattle.df_format.proofs.unit_laws.written_unit_is_shown.Goals as goal

pub returns-clause-shown : goal.returns-clause-shown
returns-clause-shown c = written_shown

pub returns-clause-fits : goal.returns-clause-fits
returns-clause-fits c = sectors_for_place
