-- The sectors before the index are filled.
use Rattle.{std.{proofs.Common.{◌≡◌, ◌*◌, take}, specs.Prelude.{reverse}}, df_base.specs.Image.{bytes_at}}
use Rattle.df_memdisk.specs.{History.{events_of}, Struck.{shown_after}}
use Rattle.df_memdisk.proofs.shown.show_sectors.Given as goal

abbrev pub invariant-loop-index : goal.invariant-loop-index
invariant-loop-index l = take (4096 * l.index) l.into ≡ bytes_at (shown_after (reverse l.strikes) (events_of l.past)) l.at l.index
