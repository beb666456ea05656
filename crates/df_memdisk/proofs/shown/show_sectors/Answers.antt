-- One more sector is filled.
use Rattle.std.{proofs.Common.{arith}, specs.Prelude.{reverse}}
use Rattle.df_memdisk.{specs.{History.{events_of}, Struck.{shown_after}}, proofs.Buffers.{filled_more}}
use Rattle.df_memdisk.proofs.shown.show_sectors.Goals as goal

pub loop-index-preserved : goal.loop-index-preserved
loop-index-preserved c = filled_more (shown_after (reverse c.args.strikes.now) (events_of c.args.past.now))
    c.args.at c.loop-index.index _ c.loop-index.into c.show_sector.new.into
    (omega arith) c.show_sector.ensures.size c.show_sector.ensures.bytes c.loop-index.invariant
