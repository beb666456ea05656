-- Each link that is read goes after the others, and takes the walk one link further, unless it is refused.
use Rattle.{std.proofs.Common.{◌-◌, ◌∙◌, List, arith, ap, subst, sym}, df_grid.specs.Grid.{GridState, HasAddress}}
use Rattle.df_checkpoint.{specs.{declared.links.Link.{Link}, Chain.{AreDistinctLinks, is_among}}, proofs.Walked.{apart_more, step_again, step_more, step_refused, walk_done, walk_more, walk_refused}}
use Rattle.df_checkpoint.proofs.links.walk.Goals as goal

pub returns-in-Err-clause-walked : goal.returns-in-Err-clause-walked
returns-in-Err-clause-walked g c = let i = c.loop-done.invariant in let told = g.D.Disk.told c.loop-done.disk in
    let index = c.args.count - 1 - c.loop-done.done in walk_refused c.loop-done.grid c.args.grid.now told (g.D.Disk.told c.args.disk.now)
    c.args.content.now c.args.count c.loop-done.done index c.loop-done.blocks.items c.loop-done.at c.loop-done.blocks.items c.in-Err.fault
    i.grid i.told (step_refused c.loop-done.grid told c.args.content.now index
    c.loop-done.blocks.items c.loop-done.at c.loop-done.blocks.items c.in-Err.fault c.in-Err.ensures.link)
    c.requires.count (omega (arith, i.size, c.loop-done-test)) i.walked

pub returns-then-is_among-clause-walked : goal.returns-then-is_among-clause-walked
returns-then-is_among-clause-walked g c = let i = c.loop-done.invariant in let told = g.D.Disk.told c.loop-done.disk in
    let index = c.args.count - 1 - c.loop-done.done in
    let again = ap (λ (refs : List Link). is_among c.loop-done.at.address refs) (sym c.deref.ensures.0) ∙ sym c.is_among.ensures
    ∙ c.if-is_among.true in walk_refused c.loop-done.grid c.args.grid.now told (g.D.Disk.told c.args.disk.now)
    c.args.content.now c.args.count c.loop-done.done index c.loop-done.blocks.items c.loop-done.at c.loop-done.blocks.items c.broken.result
    i.grid i.told (step_again c.loop-done.grid told c.args.content.now index
    c.loop-done.blocks.items c.loop-done.at c.loop-done.blocks.items c.in-Ok.before c.broken.result c.in-Ok.ensures.link again)
    c.requires.count (omega (arith, i.size, c.loop-done-test)) i.walked

pub loop-done-preserved : goal.loop-done-preserved
loop-done-preserved g c = let i = c.loop-done.invariant in let told = g.D.Disk.told c.loop-done.disk in
    let index = c.args.count - 1 - c.loop-done.done in
    let apart = ap (λ (refs : List Link). is_among c.loop-done.at.address refs) (sym c.deref.ensures.0) ∙ sym c.is_among.ensures
    ∙ c.if-is_among.false in let here = i.inside (omega (arith, c.loop-done-test)) in
    let inside = subst (λ (h : GridState). HasAddress h c.loop-done.at.address) (sym i.grid) here in record {
      grid = c.in-Ok.ensures.grid ∙ i.grid;
      told = c.in-Ok.ensures.same ∙ i.told;
      faults = c.in-Ok.ensures.cause ∙ i.faults;
      size = omega (arith, i.size, c.push.ensures.len);
      apart = subst (λ (refs : List Link). AreDistinctLinks c.args.grid.now refs) (sym c.push.ensures.items)
          (apart_more c.args.grid.now c.loop-done.blocks.items c.loop-done.at i.apart here apart);
      inside = λ more. rw i.grid at (c.in-Ok.ensures.inside (omega arith));
      walked = walk_more c.loop-done.grid c.args.grid.now told (g.D.Disk.told c.args.disk.now)
          c.args.content.now c.args.count c.loop-done.done index
          c.loop-done.blocks.items c.loop-done.at c.push.new.self.items c.in-Ok.before
          i.grid i.told (step_more c.loop-done.grid told c.args.content.now index
          c.loop-done.blocks.items c.loop-done.at c.push.new.self.items c.in-Ok.before c.in-Ok.ensures.link inside c.push.ensures.items)
          c.requires.count (omega (arith, i.size, c.loop-done-test)) i.size i.walked;
    }

pub returns-clause-walked : goal.returns-clause-walked
returns-clause-walked g c = let i = c.loop-done.invariant in walk_done c.args.grid.now (g.D.Disk.told c.args.disk.now)
    c.args.content.now c.args.count c.loop-done.done c.loop-done.blocks c.loop-done.at i.walked (omega (arith, i.size)) (omega arith)
