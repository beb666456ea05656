-- The note, and the end of its line.
use Rattle.{df_base.proofs.Laws.{part_of_more}, df_inspect.proofs.Laws.{prints_more}}
use Rattle.df_notes.proofs.printing.print_line.Goals as goal

pub returns-in-Ok-clause-prints : goal.returns-in-Ok-clause-prints
returns-in-Ok-clause-prints g c =
    prints_more _ _ _ _ _ _ c.in-Ok.ensures.whole (record { whole = c.write-in-Ok.ensures.whole; part = c.write-in-Ok.ensures.part })

pub returns-in-Err-clause-prints : goal.returns-in-Err-clause-prints
returns-in-Err-clause-prints g c = record { whole = tt; part = part_of_more _ _ _ _ c.in-Err.ensures.part }
