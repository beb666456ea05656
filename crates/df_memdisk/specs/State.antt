-- What contracts see of a disk in memory.
use Rattle.std.specs.Prelude.{◌≡◌, ◌⊎◌, ℕ, true, not, List, ◌∷◌, length, map, reverse, find, Option, Result, OnErr, OnOk}
use Rattle.df_base.specs.{Causes.{counted}, Image.{blank}, Log.{Event, Log, Sync, AreEvents, loose_of}, Plan.{FailsExactly, Plan, after_call, is_listed}}
use Rattle.df_disk.specs.Told.{Told, did}
use Rattle.df_memdisk.specs.{Struck.{shown_after, AreBehind}, declared.shown.Struck.{Struck}, History.{events_of}, declared.history.Happened.{Happened}}

-- the events since the disk was blank, the newest first; the strikes, likewise; which calls fail; how many growths were refused
pub record DiskState : Type 0 where
  pub events : List Event
  pub strikes : List Struck
  pub plan : Plan
  pub refused : ℕ

-- the disk began blank
abbrev pub log_of : DiskState → Log
log_of state = record { start = blank; events = state.events }

-- the log of these events is told, and what they left is shown, but for sectors that were struck
abbrev pub told_by : List Event → List Struck → Told
told_by events strikes = record { log = record { start = blank; events = events }; shown = shown_after strikes events }

-- what the disk tells
abbrev pub told_of : DiskState → Told
told_of state = told_by state.events state.strikes

-- A call adds this event. Where it fails, its number was listed and the event is there all the same,
-- or memory for the event was refused and it isn't there.
pub record AddsEvent {T E : Type 0} (event : Event) (old new : DiskState) (result : Result T E) : Type 0 where
  pub ok : OnOk result (new.events ≡ event ∷ old.events)
  pub err : OnErr result (((is_listed old.plan ≡ true) × (new.events ≡ event ∷ old.events) × (new.refused ≡ old.refused)) ⊎ ((new.events ≡ old.events) × (new.refused ≡ counted old.refused)))

-- What a write leaves: it fails exactly where its number was listed or memory was refused, and adds its event; the strikes stay, and the call is counted.
pub record WritesEvent {T E : Type 0} (write : Event) (old new : DiskState) (result : Result T E) : Type 0 where
  pub fails_exactly : FailsExactly old.plan old.refused new.refused result
  pub event : AddsEvent write old new result
  pub told : OnOk result (told_of new ≡ did write (told_of old))
  pub strikes : new.strikes ≡ old.strikes
  pub plan : new.plan ≡ after_call old.plan result

-- What a sync leaves, likewise; but where it fails its event isn't there.
pub record SyncsEvents {T E : Type 0} (old new : DiskState) (result : Result T E) : Type 0 where
  pub fails_exactly : FailsExactly old.plan old.refused new.refused result
  pub event : OnOk result (new.events ≡ Sync ∷ old.events)
  pub no_event : OnErr result (new.events ≡ old.events)
  pub told : OnOk result (told_of new ≡ did Sync (told_of old))
  pub strikes : new.strikes ≡ old.strikes
  pub plan : new.plan ≡ after_call old.plan result

-- the first of the named sectors that wasn't written since the last sync or stop
abbrev pub first_firm : List Event → List (ℕ × List ℕ) → Option ℕ
first_firm events changes = find (λ sector. not (loose_of events sector)) (map (λ (change : ℕ × List ℕ). change.0) changes)

-- what a disk keeps is the past of a log that a disk can have, and strikes that were made in it
pub record IsDisk (past : List Happened) (strikes : List Struck) : Type 0 where
  pub possible : AreEvents (events_of past)
  pub behind : AreBehind (reverse strikes) (length past)
