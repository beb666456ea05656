-- The law is one lemma.
use Rattle.df_layout.proofs.Spans.{are_apart}
use Rattle.df_layout.proofs.order.places_are_apart.Goals as goal

pub returns : goal.returns
returns c = are_apart
