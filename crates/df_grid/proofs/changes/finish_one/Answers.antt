-- An address that is still held was taken before, and stays so.
use Rattle.{std.proofs.Common.{◌-◌, ◌∙◌, sym}, df_grid.proofs.Turns.{still_taken}}
use Rattle.df_grid.proofs.changes.finish_one.Goals as goal

pub returns-else-not-finish-clause-free : goal.returns-else-not-finish-clause-free
returns-else-not-finish-clause-free c = λ e at. still_taken c.args.free.now
    (c.args.address - 1) e (c.requires.taken (c.args.address - 1) e at) (sym (c.finish.ensures.held e at) ∙ c.if-not-finish.false)
