-- The layout between the other numbers, a line for each.
use Rattle.{std.proofs.Common.{codes, refl}, df_inspect.proofs.Rows.{from_none, layout_behind, row_behind, row_last}}
use Rattle.df_inspect.proofs.counts.summary_lines.Goals as goal

pub returns : goal.returns
returns c = from_none _ _ _ c.new-lines.ensures (row_behind _ _ _ (codes "cluster") _ _ _ c.put_row.ensures.put refl
    (layout_behind _ _ _ _ _ c.args.summary.now.layout _ c.put.ensures.put c.put_layout.ensures.put c.put-2.ensures.put
    (row_behind _ _ _ (codes "sequence") _ _ _ c.put_row-2.ensures.put c.from.ensures
    (row_behind _ _ _ (codes "checkpoint") _ _ _ c.put_row-3.ensures.put c.from-2.ensures
    (row_behind _ _ _ (codes "head") _ _ _ c.put_row-4.ensures.put c.from-3.ensures
    (row_behind _ _ _ (codes "replies") _ _ _ c.put_row-5.ensures.put c.from-4.ensures
    (row_behind _ _ _ (codes "sessions") _ _ _ c.put_row-6.ensures.put c.from-5.ensures
    (row_last _ _ (codes "references") _ _ c.put_row-7.ensures.put c.from-6.ensures))))))))
