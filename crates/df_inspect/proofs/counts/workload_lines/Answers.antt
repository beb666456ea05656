-- A line for each number.
use Rattle.{std.proofs.Common.{codes}, df_inspect.proofs.Rows.{from_none, row_behind, row_last}}
use Rattle.df_inspect.proofs.counts.workload_lines.Goals as goal

pub returns : goal.returns
returns c = from_none _ _ _ c.new-lines.ensures (row_behind _ _ _ (codes "appended") _ _ _ c.put_row.ensures.put c.from.ensures
    (row_behind _ _ _ (codes "replied") _ _ _ c.put_row-2.ensures.put c.from-2.ensures
    (row_behind _ _ _ (codes "wrote") _ _ _ c.put_row-3.ensures.put c.from-3.ensures
    (row_behind _ _ _ (codes "released") _ _ _ c.put_row-4.ensures.put c.from-4.ensures
    (row_behind _ _ _ (codes "checkpoints") _ _ _ c.put_row-5.ensures.put c.from-5.ensures
    (row_behind _ _ _ (codes "refused") _ _ _ c.put_row-6.ensures.put c.from-6.ensures
    (row_behind _ _ _ (codes "bytes") _ _ _ c.put_row-7.ensures.put c.from-7.ensures
    (row_behind _ _ _ (codes "head") _ _ _ c.put_row-8.ensures.put c.from-8.ensures
    (row_behind _ _ _ (codes "replies") _ _ _ c.put_row-9.ensures.put c.from-9.ensures
    (row_last _ _ (codes "sequence") _ _ c.put_row-10.ensures.put c.from-10.ensures))))))))))
