use Rattle.df_quorum.proofs.SameFields.{same_decides}
use Rattle.df_quorum.proofs.votes.same_fields.Goals as goal

pub returns : goal.returns
returns c = same_decides c.args.one.now c.args.other.now c.eq.result c.eq.ensures
