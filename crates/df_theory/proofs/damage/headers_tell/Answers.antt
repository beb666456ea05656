use Rattle.df_theory.proofs.Hurts.{headers_tell_law}
use Rattle.df_theory.proofs.damage.headers_tell.Goals as goal

pub returns : goal.returns
returns c = headers_tell_law
