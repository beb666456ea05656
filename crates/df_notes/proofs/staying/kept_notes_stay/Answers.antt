-- The law is the lemma.
use Rattle.df_notes.proofs.Stays.{stays}
use Rattle.df_notes.proofs.staying.kept_notes_stay.Goals as goal

pub returns : goal.returns
returns c = stays
