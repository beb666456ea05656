use Rattle.df_trailer.proofs.Spelled.{read_again}
use Rattle.df_trailer.proofs.meaning.parts_have_one_text.Goals as goal

pub returns : goal.returns
returns c = read_again
