use Rattle.df_superblock.proofs.Mended.{first_fails, second_fails, third_fails}
use Rattle.df_superblock.proofs.updates.mend_each.Goals as goal

pub returns-in_err-mend-clause-events : goal.returns-in_err-mend-clause-events
returns-in_err-mend-clause-events g c = first_fails
    c.args.content.now c.args.members.now c.type_inv.members.1.1.0.1 _ c.from_residual.ensures.0 _ _ c.in_err-mend.ensures.events

pub returns-in_err-mend-2-clause-events : goal.returns-in_err-mend-2-clause-events
returns-in_err-mend-2-clause-events g c = second_fails c.args.content.now c.args.members.now
    c.type_inv.members.1.1.0.1 _ c.from_residual-in_err-mend-2.ensures.0 _ _ _ c.in_ok-mend.ensures.events c.in_err-mend-2.ensures.events

pub returns-in_err-mend-3-clause-events : goal.returns-in_err-mend-3-clause-events
returns-in_err-mend-3-clause-events g c = third_fails c.args.content.now c.args.members.now c.type_inv.members.1.1.0.1 _
    c.from_residual-in_err-mend-3.ensures.0 _ _ _ _ c.in_ok-mend.ensures.events c.in_ok-mend-2.ensures.events c.in_err-mend-3.ensures.events
