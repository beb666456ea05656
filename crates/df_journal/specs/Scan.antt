-- What a table of slots is seen as.
use Rattle.std.specs.Prelude.{◌≤◌, ℕ, List, length, slice_get, slice_set, Option, Some, None, Err}
use Rattle.df_base.specs.declared.TheConstants.{GREATEST}
use Rattle.df_layout.specs.declared.damage.Class.TheVariants.{Blank}
use Rattle.df_buffers.specs.declared.slots.SlotSeen.{SlotSeen}
use Rattle.df_journal.specs.declared.table.Start.{Start}

-- where the scan started, and what it saw of each slot
pub record Scan : Type 0 where
  pub start : Start
  pub slots : List SlotSeen

-- within the limits of every layout
pub record IsScan (scan : Scan) : Type 0 where
  pub op : scan.start.op ≤ GREATEST
  pub few : length scan.slots ≤ 1024

abbrev pub with_slot : Scan → ℕ → SlotSeen → Scan
with_slot scan slot seen = record { start = scan.start; slots = slice_set scan.slots slot seen }

-- nothing, which stands for a slot that there isn't
abbrev pub or_blank : Option SlotSeen → SlotSeen
or_blank None = record { header = Err Blank; prepare = Err Blank }
or_blank (Some seen) = seen

-- what was seen of a slot
abbrev pub entry : Scan → ℕ → SlotSeen
entry scan slot = or_blank (slice_get scan.slots slot)
