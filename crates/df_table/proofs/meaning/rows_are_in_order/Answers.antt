-- The law is a lemma.
use Rattle.df_table.proofs.Ordered.{rows_in_order}
use Rattle.df_table.proofs.meaning.rows_are_in_order.Goals as goal

pub returns : goal.returns
returns c = rows_in_order
