-- Five numbers with a space between each two.
use Rattle.df_inspect.proofs.Rows.{number_behind, number_last}
use Rattle.df_inspect.proofs.opening.put_layout.Goals as goal

pub returns-clause-put : goal.returns-clause-put
returns-clause-put c = number_behind _ _ _ _ _ _ _ c.put_number.ensures.put c.from.ensures c.put.ensures.put
    (number_behind _ _ _ _ _ _ _ c.put_number-2.ensures.put c.from-2.ensures c.put-2.ensures.put
    (number_behind _ _ _ _ _ _ _ c.put_number-3.ensures.put c.from-3.ensures c.put-3.ensures.put
    (number_behind _ _ _ _ _ _ _ c.put_number-4.ensures.put c.from-4.ensures c.put-4.ensures.put
    (number_last _ _ _ _ c.put_number-5.ensures.put c.from-5.ensures))))
