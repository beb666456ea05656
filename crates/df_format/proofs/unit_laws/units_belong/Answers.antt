use Rattle.df_format.proofs.Units.{shown_belongs, shown_is_unit, read_belongs, valid_belongs}
use Rattle.df_format.proofs.unit_laws.units_belong.Goals as goal

pub returns-clause-belongs : goal.returns-clause-belongs
returns-clause-belongs c = shown_belongs

pub returns-clause-unit : goal.returns-clause-unit
returns-clause-unit c = shown_is_unit

pub returns-clause-valid : goal.returns-clause-valid
returns-clause-valid c = valid_belongs

pub returns-clause-read : goal.returns-clause-read
returns-clause-read c = read_belongs
