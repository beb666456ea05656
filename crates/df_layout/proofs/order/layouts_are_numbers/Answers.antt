-- The law is one lemma.
use Rattle.df_layout.proofs.Same.{same_layout}
use Rattle.df_layout.proofs.order.layouts_are_numbers.Goals as goal

pub returns : goal.returns
returns c = same_layout
