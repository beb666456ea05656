-- What a strike makes of what a disk tells.
use Rattle.std.specs.Prelude.{ℕ, ◌≤◌, List, [], ◌∷◌, length, replicate}
use Rattle.df_base.specs.{declared.TheConstants.{SECTOR}, Image.{changed}, Log.{Event, now_of}}
use Rattle.df_disk.specs.Told.{Told}
use Rattle.df_memdisk.specs.{Struck.{first_events}, declared.strike.Strike.{Strike}, declared.strike.Strike.TheVariants.{Fill, Earlier, Like}}

-- a sector of equal bytes
unfoldable pub filled : ℕ → List ℕ
filled byte = replicate SECTOR byte

-- the bytes that a strike shows in a sector: equal ones, what the log's first events left there, or what another sector shows
abbrev pub bytes_by : Strike → ℕ → Told → List ℕ
bytes_by (Fill byte) sector t = filled byte
bytes_by (Earlier events) sector t = now_of t.log.start (first_events events t.log.events) sector
bytes_by (Like other) sector t = t.shown other

-- a strike changes what is shown in one sector, and leaves the log
abbrev pub hit : ℕ → Strike → Told → Told
hit sector strike t = record { log = t.log; shown = changed ((sector, bytes_by strike sector t) ∷ []) t.shown }

-- the strike shows what all events of the log left
abbrev pub StrikeShowsLog : Strike → List Event → Type 0
StrikeShowsLog (Fill byte) events = ⊥
StrikeShowsLog (Earlier n) events = length events ≤ n
StrikeShowsLog (Like other) events = ⊥
