use Rattle.std.proofs.Common.{arith}
use Rattle.df_superblock.proofs.{Mended.{keeps_members, repairs_unless_misled, ends_repaired}, Stepped.{repair_is_steps}}
use Rattle.df_superblock.proofs.updates.repair.Goals as goal

pub returns-clause-steps : goal.returns-clause-steps
returns-clause-steps g c =
    repair_is_steps c.args.content.now c.args.chosen.now.members (omega (arith, c.mend_each.ensures.size)) c.fields-fields.ensures.usable

pub returns-clause-members : goal.returns-clause-members
returns-clause-members g c = keeps_members c.args.content.now
    c.args.chosen.now.members _ _ c.mend_each.result c.fields-fields.ensures.usable c.mend_each.ensures.size c.mend_each.ensures.events

pub returns-clause-unless_misled : goal.returns-clause-unless_misled
returns-clause-unless_misled g c = repairs_unless_misled c.args.content.now c.args.chosen.now _ _ c.mend_each.result
    (record { usable = c.fields-fields.ensures.usable; fields = c.requires; size = c.mend_each.ensures.size }) c.mend_each.ensures.events

pub returns-clause-repaired : goal.returns-clause-repaired
returns-clause-repaired g c = ends_repaired c.args.content.now c.args.chosen.now _ _ c.mend_each.result
    (record { usable = c.fields-fields.ensures.usable; fields = c.requires; size = c.mend_each.ensures.size }) c.mend_each.ensures.events
