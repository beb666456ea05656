use Rattle.df_theory.proofs.Blames.{read_law}
use Rattle.df_theory.proofs.damage.read_gives_what_was_written.Goals as goal

pub returns : goal.returns
returns c = read_law
