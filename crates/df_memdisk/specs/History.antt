-- What a disk in memory keeps of its past, as the events of a log.
use Rattle.std.specs.Prelude.{ℕ, List, map, reverse}
use Rattle.df_base.specs.Log.{Event, Write, Sync, Stop}
use Rattle.df_memdisk.specs.{declared.change.Change.{Change}, declared.history.Happened.{Happened}, declared.history.Happened.TheVariants.{Wrote, Synced, Stopped}}

-- sectors with the bytes that a stop leaves there
abbrev pub changes_of : List Change → List (ℕ × List ℕ)
changes_of changes = map (λ (change : Change). (change.sector, change.bytes)) changes

abbrev pub event_of : Happened → Event
event_of (Wrote written) = Write written.at written.bytes.items
event_of Synced = Sync
event_of (Stopped changes) = Stop (changes_of changes.items)

-- the disk keeps the oldest event first, a log the newest
abbrev pub events_of : List Happened → List Event
events_of past = reverse (map event_of past)
