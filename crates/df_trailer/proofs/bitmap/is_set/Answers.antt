use Rattle.df_trailer.proofs.Words.{set_is}
use Rattle.df_trailer.proofs.bitmap.is_set.Goals as goal

pub returns : goal.returns
returns c = λ bytes within. set_is c.args.words.now bytes c.args.place within
