-- What the proofs above cite of this crate's: a layout has slots, its numbers are all of it, and where the spans of its places lie.
use Rattle.{std.proofs.Common.{◌<◌, arith}, df_layout.specs.declared.layout.Layout.{Layout}}
pub use Rattle.df_layout.proofs.{Same.{same_layout}, Spans.{are_apart, lies_inside, some_sectors}, Zones.{zones_follow}}

pub some_slots : (layout : Layout) → 0 < layout.slots
some_slots layout = omega (arith, layout.slots_within.0)
