use Rattle.df_units.proofs.AtPlaces.{copy_read, header_read, read_unit}
use Rattle.df_units.proofs.shown.read_is_unit.Goals as goal

pub returns-clause-slot : goal.returns-clause-slot
returns-clause-slot c = read_unit

pub returns-clause-header : goal.returns-clause-header
returns-clause-header c = header_read

pub returns-clause-copy : goal.returns-clause-copy
returns-clause-copy c = copy_read
