use Rattle.df_pace.proofs.Scrubs.{scrubbing_law}
use Rattle.df_pace.proofs.beside.scrubbing_is_unseen.Goals as goal

pub returns : goal.returns
returns c = scrubbing_law
