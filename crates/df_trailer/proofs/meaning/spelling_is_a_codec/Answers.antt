use Rattle.df_trailer.proofs.Codec.{codec}
use Rattle.df_trailer.proofs.meaning.spelling_is_a_codec.Goals as goal

pub returns : goal.returns
returns c = codec
