-- What a disk tells: its log, and what a read gives.
use Rattle.std.specs.Prelude.{◌≡◌, ◌≤◌, ◌<◌, ◌+◌, ◌/◌, ◌%◌, ◌^◌, ℕ, List, length, Option, Some, None}
use Rattle.df_base.specs.{declared.TheConstants.{SECTOR}, Image.{Image, bytes_at}, Log.{Event, Log, add, now, after_event}}

pub record Told : Type 0 where
  pub log : Log
  pub shown : Image

-- what is shown is what the log leaves: no sector was damaged, lost or swapped
pub record IsHonest (t : Told) : Type 0 where
  pub shows : (sector : ℕ) → t.shown sector ≡ now t.log sector

-- an event goes into the log, and is shown
abbrev pub did : Event → Told → Told
did e t = record { log = add e t.log; shown = after_event e t.shown }

abbrev pub after : Event → Option Told → Option Told
after e None = None
after e (Some t) = Some (did e t)

-- a buffer of n bytes from sector at on is one sector or more, all of them whole and within the disk
pub record AreSectors (at n : ℕ) : Type 0 where
  pub some : 0 < n
  pub whole : n % SECTOR ≡ 0
  pub last : at + n / SECTOR ≤ 2 ^ 40

-- these bytes are what is shown from sector at on, where the disk tells it
abbrev pub Shows : Option Told → ℕ → List ℕ → Type 0
Shows None at bytes = Unit {0}
Shows (Some t) at bytes = bytes ≡ bytes_at t.shown at (length bytes / SECTOR)
