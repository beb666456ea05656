-- The block that is shown is the link, or it isn't.
use Rattle.df_checkpoint.proofs.OneLink.{link_broken, link_taken}
use Rattle.df_checkpoint.proofs.links.read_link.Goals as goal

pub returns-in-Some-clause-link : goal.returns-in-Some-clause-link
returns-in-Some-clause-link g c = λ sh same. link_taken c.args.grid.now (g.D.Disk.told c.args.disk.now) c.args.content.now
    c.args.index c.args.at c.in-Ok-Ok.unit.now.unit c.layout-layout.result c.layout-layout.ensures c.reference.result c.reference.ensures
    (rw c.in-Ok-Ok.field-0-is at c.in-Ok-Ok.ensures.block)
    sh same c.in-Some.before (rw c.in-Ok-Ok.field-0-is at c.in-Ok-Ok.ensures.valid) c.in-Some.ensures.link.0 c.in-Some.ensures.link.1

pub returns-in-None-clause-link : goal.returns-in-None-clause-link
returns-in-None-clause-link g c = λ sh same. rw c.broken.ensures
    (link_broken c.args.grid.now (g.D.Disk.told c.args.disk.now) c.args.content.now
    c.args.index c.args.at c.in-Ok-Ok.unit.now.unit c.layout-layout.result c.layout-layout.ensures c.reference.result c.reference.ensures
    (rw c.in-Ok-Ok.field-0-is at c.in-Ok-Ok.ensures.block) sh same c.in-None.ensures.none)
