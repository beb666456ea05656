-- Where the sectors of the ring lie: after the four copies of the superblock, in every layout.
use Rattle.{std.proofs.Common.{◌≡◌, ◌+◌, ◌*◌, ℕ, arith}, df_theory.specs.Units.{HeaderPlace}, df_units.specs.Bytes.{first_at}}
use Rattle.df_layout.specs.{declared.layout.Layout.{Layout}, Spans.{sectors_before, span_of}, Zones.{first_sector, zone_sectors}}

pub ring_first : (layout : Layout) (sector : ℕ) → first_at layout (HeaderPlace (16 * sector)) ≡ 4 + sector
unfolding span_of sectors_before first_sector zone_sectors
ring_first layout sector = omega arith
