-- The law is one lemma.
use Rattle.df_session.proofs.Keepings.{calls_keep}
use Rattle.df_session.proofs.keeping.calls_on_an_open_file_keep_it.Goals as goal

pub returns : goal.returns
returns c = calls_keep
