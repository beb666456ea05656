-- What is shown has one chain, and that has one text.
use Rattle.df_checkpoint.proofs.Unreadable.{broken_unreadable, referenced_unreadable, text_unreadable, untracked_unreadable}
use Rattle.df_checkpoint.proofs.meaning.refused_is_unreadable.Goals as goal

pub returns : goal.returns
returns c = record { text = text_unreadable; referenced = referenced_unreadable; broken = broken_unreadable; pending = untracked_unreadable }
