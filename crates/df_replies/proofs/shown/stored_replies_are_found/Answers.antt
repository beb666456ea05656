-- As the lemmas say.
use Rattle.df_replies.proofs.Stored.{found_stored, stored_found}
use Rattle.df_replies.proofs.shown.stored_replies_are_found.Goals as goal

pub returns-clause-found : goal.returns-clause-found
returns-clause-found c = stored_found

pub returns-clause-stored : goal.returns-clause-stored
returns-clause-stored c = found_stored
