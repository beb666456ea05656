use Rattle.df_format.proofs.Units.{blank_none}
use Rattle.df_format.proofs.unit_laws.blank_shows_no_unit.Goals as goal

pub returns : goal.returns
returns c = blank_none
