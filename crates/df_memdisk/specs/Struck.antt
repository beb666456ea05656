-- What a disk shows once sectors were struck.
use Rattle.std.specs.Prelude.{ℕ, ◌==◌, ◌≤◌, List, [], ◌∷◌, take, drop, reverse, find, Option, Some, None}
use Rattle.df_base.specs.{Image.{Image, blank}, Log.{Event, now_of}}
use Rattle.df_memdisk.specs.declared.shown.Struck.{Struck}

-- a log lists its newest event first: its first n events, and all of them where there are fewer
abbrev pub first_events : ℕ → List Event → List Event
first_events n events = reverse (take n (reverse events))

-- the events after the first n
abbrev pub events_since : ℕ → List Event → List Event
events_since n events = reverse (drop n (reverse events))

-- the newest strike of a sector, where the newest strike stands first
abbrev pub strike_of : List Struck → ℕ → Option Struck
strike_of strikes sector = find (λ s. sector == s.sector) strikes

-- what the events since a strike left of the bytes that it showed, and without a strike what all events left
abbrev pub left_of : Option Struck → List Event → Image
left_of None events = now_of blank events
left_of (Some s) events = now_of (λ sector. s.bytes) (events_since s.events events)

-- each sector shows what its newest strike and the events since then left there
unfoldable pub shown_after : List Struck → List Event → Image
shown_after strikes events sector = left_of (strike_of strikes sector) events sector

-- each strike was made when the log had no more events than now
abbrev pub AreBehind : List Struck → ℕ → Type 0
AreBehind [] count = Unit {0}
AreBehind (s ∷ strikes) count = (s.events ≤ count) × AreBehind strikes count
