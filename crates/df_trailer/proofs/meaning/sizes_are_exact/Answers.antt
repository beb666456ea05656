use Rattle.df_trailer.proofs.Sizes.{text_sized}
use Rattle.df_trailer.proofs.meaning.sizes_are_exact.Goals as goal

pub returns : goal.returns
returns c = text_sized
