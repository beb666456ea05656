-- Each block adds its body to the text, and what the reader answers at the end is what fails in it.
use Rattle.std.{proofs.Common.{◌-◌, ◌∙◌, length, refl, sym, arith, subst}, specs.Prelude.{Ok, Err}}
use Rattle.df_grid.specs.Grid.{GridState, HasAddress}
use Rattle.df_checkpoint.proofs.Fed.{apart_inside, feed_same, read_first, read_more, read_refused, text_ends}
use Rattle.df_checkpoint.proofs.reading.read_text.Goals as goal

pub loop-done-init : goal.loop-done-init
loop-done-init g c = record {
  grid = refl;
  told = refl;
  faults = refl;
  layout = refl;
  size = omega (arith, c.requires.fresh);
  read = λ op has. read_first c.args.grid.now (g.D.Disk.told c.args.disk.now) c.args.blocks.now op c.args.reader.now has;
}

pub feed_block-requires-clause-inside : goal.feed_block-requires-clause-inside
feed_block-requires-clause-inside g c = subst (λ (h : GridState). HasAddress h c.link_after.result.address) (sym c.loop-done.invariant.grid)
    (apart_inside c.args.grid.now c.args.blocks.now (length c.args.blocks.now - 1 - c.loop-done.done)
    c.link_after.result c.requires.apart (omega (arith, c.loop-done-test)) c.link_after.ensures)

pub returns-in-Err-clause-text : goal.returns-in-Err-clause-text
returns-in-Err-clause-text g c = λ op has. let i = c.loop-done.invariant in
    read_refused
    c.args.grid.now (g.D.Disk.told c.args.disk.now) c.args.blocks.now op c.loop-done.done (length c.args.blocks.now - 1 - c.loop-done.done)
    c.link_after.result c.loop-done.reader c.feed_block.new.reader c.feed_block.new.reader c.in-Err.fault
    (omega (arith, c.loop-done-test)) c.link_after.ensures
    (feed_same c.loop-done.grid c.args.grid.now (g.D.Disk.told c.loop-done.disk) (g.D.Disk.told c.args.disk.now)
    c.link_after.result c.loop-done.reader c.feed_block.new.reader (Err c.in-Err.fault) i.grid i.told c.in-Err.ensures.fed) (i.read op has)

pub loop-done-preserved : goal.loop-done-preserved
loop-done-preserved g c = let i = c.loop-done.invariant in record {
  grid = c.in-Ok.ensures.grid ∙ i.grid;
  told = c.in-Ok.ensures.same ∙ i.told;
  faults = c.in-Ok.ensures.cause ∙ i.faults;
  layout = c.in-Ok.ensures.layout ∙ i.layout;
  size = omega (arith, i.size, c.in-Ok.ensures.size);
  read = λ op has. read_more c.args.grid.now (g.D.Disk.told c.args.disk.now) c.args.blocks.now op c.loop-done.done
      (length c.args.blocks.now - 1 - c.loop-done.done) c.link_after.result c.loop-done.reader c.feed_block.new.reader c.in-Ok.field-0
      (omega (arith, c.loop-done-test)) c.link_after.ensures
      (feed_same c.loop-done.grid c.args.grid.now (g.D.Disk.told c.loop-done.disk) (g.D.Disk.told c.args.disk.now) c.link_after.result
      c.loop-done.reader c.feed_block.new.reader (Ok c.in-Ok.field-0) i.grid i.told c.in-Ok.ensures.fed) (i.read op has);
}

pub returns-clause-text : goal.returns-clause-text
returns-clause-text g c = λ op has. text_ends c.args.grid.now (g.D.Disk.told c.args.disk.now)
    c.args.blocks.now op c.loop-done.done c.loop-done.reader c.end.result c.as_bad.result
    (omega (arith, c.loop-done-test, c.loop-done.auto))
    (c.loop-done.invariant.read op has) c.end.ensures.fault c.end.ensures.whole c.as_bad.ensures
