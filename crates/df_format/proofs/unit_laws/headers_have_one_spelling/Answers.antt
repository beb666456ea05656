use Rattle.df_format.proofs.Spelled.{one_spelling}
use Rattle.df_format.proofs.unit_laws.headers_have_one_spelling.Goals as goal

pub returns : goal.returns
returns c = one_spelling
