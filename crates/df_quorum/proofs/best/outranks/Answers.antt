use Rattle.{std.proofs.Common.{arith, ◌∙◌}, df_quorum.proofs.Pairs.{below_by_rank}}
use Rattle.df_quorum.proofs.best.outranks.Goals as goal

pub returns : goal.returns
returns c = let one = c.args.one.now.fields in let other = c.args.other.now.fields in
    c.is_below.ensures ∙ below_by_rank other.sequence other.boot one.sequence one.boot (omega arith) (omega arith)
