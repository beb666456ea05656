-- A block that is live at the address is lent, or it isn't.
use Rattle.{std.proofs.Common.{◌∙◌, Option, Err, Result, ap, sym}, df_base.specs.Causes.{Blamed}, df_disk.specs.Told.{Told}}
use Rattle.{df_grid.specs.Grid.{GridState}, df_model.specs.Faults.{is_read_fault}, df_opening.specs.Below.{State}}
use Rattle.df_replica.specs.Stopping.{left_by}
use Rattle.df_copy.{specs.{declared.ending.Ending.{Ending}, declared.target.Target.{Target}, Acts.{CopiesBlock, PutsBlock}, Statuses.{is_source, is_target}}, proofs.{Blamed.{block_blamed, block_spares, on_ok, unblamed}, BlockRead.{block_is, block_put, block_unit, block_unread, copies_live, known_by, live_there}}}
use Rattle.df_copy.proofs.blocks.copy_at.Goals as goal

-- ---- it is

pub put_block-requires-clause-unit : goal.put_block-requires-clause-unit
put_block-requires-clause-unit g c = block_unit c.args.replica.now (g.A.Disk.told c.args.from.now) c.args.address
    c.in-Ok.unit.now.unit c.in-Ok.ensures.lent c.args.target.now.grid.cluster (ap (λ (x : GridState). x.cluster) c.requires.begun.2.grid)

pub put_block-requires-clause-begun : goal.put_block-requires-clause-begun
put_block-requires-clause-begun g c = (c.args.replica.now.file.cluster, c.requires.begun.0, c.requires.begun.1, c.requires.begun.2)

pub returns-in-Ok-clause-copies : goal.returns-in-Ok-clause-copies
returns-in-Ok-clause-copies g c = let s : State = c.args.replica.now in let from : Option Told = g.A.Disk.told c.args.from.now in
    let old : Option Told = g.B.Disk.told c.args.to.now in let new : Option Told = g.B.Disk.told c.put_block.new.to in
    let known = known_by c.in-Some.is c.reference.ensures in
    copies_live c.args.target.now.layout c.args.address s c.args.target.now c.put_block.new.target from old new c.put_block.result known
    (block_put s c.args.address c.in-Ok.unit.now.unit c.args.target.now c.put_block.new.target from old new
    (block_is s from c.args.address c.in-Ok.unit.now.unit c.in-Ok.ensures.lent c.in-Ok.ensures.exact)
    c.put_block.result c.put_block.ensures.puts)

pub returns-in-Ok-clause-leaves : goal.returns-in-Ok-clause-leaves
returns-in-Ok-clause-leaves g c = record {
  blames_target = c.put_block.ensures.disk;
  kept = on_ok c.put_block.result (c.read_block.follows.holds-at-none ∙ ap (left_by is_read_fault c.args.replica.now) c.in-Ok.is);
  same = c.in-Ok.ensures.same;
  blames_source = unblamed c.put_block.result (g.A.Disk.faults c.args.from.now) (g.A.Disk.faults c.read_block.new.disk)
      (λ is. rw is at c.put_block.ensures.puts) c.in-Ok.ensures.cause;
}

-- ---- it isn't

pub unread_block-requires : goal.unread_block-requires
unread_block-requires g c = live_there c.args.replica.now
    (g.A.Disk.told c.args.from.now) c.args.address c.in-Err.error (known_by c.in-Some.is c.reference.ensures) c.in-Err.ensures.exact

pub returns-in-Err-clause-copies : goal.returns-in-Err-clause-copies
returns-in-Err-clause-copies g c = let s : State = c.args.replica.now in let from : Option Told = g.A.Disk.told c.args.from.now in
    let t : Target = c.args.target.now in let to : Option Told = g.B.Disk.told c.args.to.now in
    let known = known_by c.in-Some.is c.reference.ensures in
    let live = live_there s from c.args.address c.in-Err.error known c.in-Err.ensures.exact in
    copies_live {T = Unit {0}} t.layout c.args.address s t t from to to (Err c.unread_block.result) known
    (rw (sym c.unread_block.ensures) at
    (block_unread s from c.args.address (Unit {0}) t.layout t t to c.in-Err.error live c.in-Err.ensures.exact))

pub returns-in-Err-clause-leaves : goal.returns-in-Err-clause-leaves
returns-in-Err-clause-leaves g c = let live = live_there c.args.replica.now
    (g.A.Disk.told c.args.from.now) c.args.address c.in-Err.error (known_by c.in-Some.is c.reference.ensures) c.in-Err.ensures.exact in
    record {
      kept = tt;
      same = c.in-Err.ensures.same;
      blames_source = rw (sym c.unread_block.ensures) at
          (block_blamed (g.A.Disk.faults c.args.from.now) (g.A.Disk.faults c.read_block.new.disk) c.in-Err.error live c.in-Err.ensures.cause);
      blames_target = rw (sym c.unread_block.ensures) at (block_spares c.in-Err.error (g.B.Disk.faults c.args.to.now));
    }
