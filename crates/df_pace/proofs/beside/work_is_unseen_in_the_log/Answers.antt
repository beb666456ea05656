use Rattle.df_pace.proofs.Lines.{pacing_law}
use Rattle.df_pace.proofs.beside.work_is_unseen_in_the_log.Goals as goal

pub returns : goal.returns
returns c = pacing_law
