-- Each block up to the link that breaks the chain is shown, and each one of a whole chain.
use Rattle.df_checkpoint.proofs.Missed.{broken_shown, whole_shown}
use Rattle.df_checkpoint.proofs.meaning.refused_is_shown.Goals as goal

pub returns : goal.returns
returns c = record { broken = broken_shown; whole = whole_shown }
