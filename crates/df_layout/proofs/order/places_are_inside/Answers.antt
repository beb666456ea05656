-- The law is one lemma.
use Rattle.df_layout.proofs.Spans.{lies_inside}
use Rattle.df_layout.proofs.order.places_are_inside.Goals as goal

pub returns : goal.returns
returns c = lies_inside
