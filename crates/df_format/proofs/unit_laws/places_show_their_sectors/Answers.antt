use Rattle.df_format.proofs.Units.{same_shown, read_shown}
use Rattle.df_format.proofs.unit_laws.places_show_their_sectors.Goals as goal

pub returns-clause-same : goal.returns-clause-same
returns-clause-same c = same_shown

pub returns-clause-read : goal.returns-clause-read
returns-clause-read c = read_shown
