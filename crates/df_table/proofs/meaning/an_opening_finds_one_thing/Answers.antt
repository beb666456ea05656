-- The law is a lemma.
use Rattle.df_table.proofs.OneFound.{finds_one}
use Rattle.df_table.proofs.meaning.an_opening_finds_one_thing.Goals as goal

pub returns : goal.returns
returns c = finds_one
