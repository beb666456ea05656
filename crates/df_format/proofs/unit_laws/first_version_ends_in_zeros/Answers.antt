use Rattle.df_format.proofs.Spelled.{first_ends}
use Rattle.df_format.proofs.unit_laws.first_version_ends_in_zeros.Goals as goal

pub returns : goal.returns
returns c = first_ends
