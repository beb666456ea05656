-- Each turn writes the next block.
use Rattle.{std.proofs.Common.{◌≡◌, ◌∙◌, ◌<◌, ℕ, List, ap, arith, refl, subst}, df_base.specs.Causes.{Blamed}}
use Rattle.std.specs.FinMap as map
use Rattle.{df_model.specs.Commands.{Command}, df_rows.specs.Limits.{block_count, rows_in_block}, df_session.specs.Below.{State as Replica}}
use Rattle.df_table.{specs.{Ready.{WroteBlocks}, Statuses.{is_disk}, Turns.{EndIn, MakeAll}}, proofs.Wrote.{all_puts, free_next, writing_all, writing_ends, writing_more, writing_none, wrote_more, wrote_none}}
use Rattle.df_table.proofs.checkpointing.write_table.Goals as goal

pub loop-block-init : goal.loop-block-init
loop-block-init g c = let n = block_count (rows_in_block c.args.layout.now) (map.len c.args.table.now.rows) in record {
  writing = λ is free. writing_none c.args.layout.now c.args.table.now.rows n c.args.replica.now (g.D.Disk.told c.args.disk.now);
  live = c.requires.live;
  layout = refl;
  wrote = wrote_none c.args.replica.now;
  buffer = c.requires.buffer;
  disk_faults = refl;
}

pub write_rows-requires : goal.write_rows-requires
write_rows-requires g c = let now = c.loop-block in
    record { live = now.invariant.live; block = omega (arith, c.loop-block-test, c.blocks-block-end.ensures); buffer = now.invariant.buffer }

pub loop-block-preserved : goal.loop-block-preserved
loop-block-preserved g c = let now = c.loop-block in
    let n = block_count (rows_in_block c.args.layout.now) (map.len c.args.table.now.rows) in
    let less : now.block < n = omega (arith, c.loop-block-test, c.blocks-block-end.ensures) in record {
      writing = λ is free. let writing = now.invariant.writing is free in writing_more c.args.layout.now c.args.table.now.rows
          n now.block less c.args.replica.now now.replica (g.D.Disk.told c.args.disk.now) (g.D.Disk.told now.disk) writing
          c.write_rows.new.replica (g.D.Disk.told c.write_rows.new.disk) c.in-Ok.ensures.wrote
          (c.in-Ok.ensures.makes (now.invariant.layout ∙ is) (free_next c.args.layout.now c.args.table.now.rows
          n now.block less c.args.replica.now now.replica (g.D.Disk.told c.args.disk.now) (g.D.Disk.told now.disk) writing free));
      live = c.in-Ok.ensures.goes;
      layout = ap (λ (r : Replica). r.file.layout) c.in-Ok.ensures.wrote.same ∙ now.invariant.layout;
      wrote = wrote_more now.block c.args.replica.now now.replica c.write_rows.new.replica now.invariant.wrote c.in-Ok.ensures.wrote;
      buffer = omega (arith, now.invariant.buffer, c.in-Ok.ensures.buffer);
      disk_faults = c.in-Ok.ensures.disk ∙ now.invariant.disk_faults;
    }

pub returns-in-Err-clause-makes : goal.returns-in-Err-clause-makes
returns-in-Err-clause-makes g c = λ is free. let now = c.loop-block in
    let n = block_count (rows_in_block c.args.layout.now) (map.len c.args.table.now.rows) in
    let less : now.block < n = omega (arith, c.loop-block-test, c.blocks-block-end.ensures) in
    let writing = now.invariant.writing is free in
    subst (λ (l : List Command). EndIn l c.args.replica.now c.write_rows.new.replica (g.D.Disk.told c.args.disk.now)
    (g.D.Disk.told c.write_rows.new.disk) c.in-Err.ending) (all_puts c.args.layout.now c.args.table.now.rows)
    (writing_ends c.args.layout.now
    c.args.table.now.rows n now.block less c.args.replica.now now.replica (g.D.Disk.told c.args.disk.now) (g.D.Disk.told now.disk) writing
    c.write_rows.new.replica (g.D.Disk.told c.write_rows.new.disk) c.in-Err.ending
    (c.in-Err.ensures.makes (now.invariant.layout ∙ is) (free_next c.args.layout.now c.args.table.now.rows
    n now.block less c.args.replica.now now.replica (g.D.Disk.told c.args.disk.now) (g.D.Disk.told now.disk) writing free)))

pub returns-in-Err-clause-disk : goal.returns-in-Err-clause-disk
returns-in-Err-clause-disk g c = subst (λ (n : ℕ).
    Blamed (is_disk c.in-Err.ending) n (g.D.Disk.faults c.write_rows.new.disk)) c.loop-block.invariant.disk_faults c.in-Err.ensures.disk

pub returns-clause-makes : goal.returns-clause-makes
returns-clause-makes g c = λ is free. let now = c.loop-block in
    let n = block_count (rows_in_block c.args.layout.now) (map.len c.args.table.now.rows) in
    let all : now.block ≡ n = omega (arith, c.loop-block-test, c.loop-block.auto, c.blocks-block-end.ensures) in
    subst (λ (l : List Command). MakeAll l c.args.replica.now now.replica (g.D.Disk.told c.args.disk.now) (g.D.Disk.told now.disk))
    (all_puts c.args.layout.now c.args.table.now.rows) (writing_all c.args.layout.now c.args.table.now.rows
    n now.block c.args.replica.now now.replica (g.D.Disk.told c.args.disk.now) (g.D.Disk.told now.disk) (now.invariant.writing is free) all)

pub returns-clause-wrote : goal.returns-clause-wrote
returns-clause-wrote g c = let n = block_count (rows_in_block c.args.layout.now) (map.len c.args.table.now.rows) in
    let all : c.loop-block.block ≡ n = omega (arith, c.loop-block-test, c.loop-block.auto, c.blocks-block-end.ensures) in
    rw all at c.loop-block.invariant.wrote
