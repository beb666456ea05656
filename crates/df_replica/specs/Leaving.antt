-- What the device calls of a command leave of the sectors of a file: what is shown then, and which blocks are spared.
use Rattle.std.specs.Prelude.{◌≡◌, ℕ, true, false, List, ◌∷◌, Some, None}
use Rattle.df_base.specs.{Image.{Image, IsImage}, Log.{Event}}
use Rattle.df_theory.specs.Units.{BlockPlace, CopyPlace, Place, overlay}
use Rattle.df_units.specs.{Bytes.{has, unit_at}, Wanted.{class_at}}
use Rattle.df_model.specs.{Commands.{Advance, Command}, Memory.{Memory}, Result.{AgreeReads}, Supply.{puts_of}, Work.{Running, Work, is_held}}
use Rattle.df_opening.specs.Below.{DataFile}
pub use Rattle.df_opening.specs.Sparing.{AreSettled, IsReadPlace, SparesReads, image_after, is_durable, writes_to}

-- ---- what is shown

-- a command leaves shown what it makes of what is in memory, at each place that a call reads; every other such place has the unit and the class that it had
pub record LeavesShown (file : DataFile) (m : Memory) (sums : List ℕ) (command : Command) (before after : Image) : Type 0 where
  pub whole : IsImage after
  pub units : AgreeReads (unit_at file.layout file.cluster after) (overlay (puts_of m sums command) (unit_at file.layout file.cluster before))
  pub classes : (place : Place) → IsReadPlace file.layout place → puts_of m sums command place ≡ None → class_at file.layout file.cluster after place ≡ class_at file.layout file.cluster before place

-- a call leaves each place as it was that calls read and at which its command puts nothing, with its unit and its class; so does one that wasn't answered
pub record SparesOthers (file : DataFile) (m : Memory) (sums : List ℕ) (command : Command) (before after : Image) : Type 0 where
  pub units : (place : Place) → IsReadPlace file.layout place → puts_of m sums command place ≡ None → unit_at file.layout file.cluster after place ≡ unit_at file.layout file.cluster before place
  pub classes : (place : Place) → IsReadPlace file.layout place → puts_of m sums command place ≡ None → class_at file.layout file.cluster after place ≡ class_at file.layout file.cluster before place

-- and of the superblock's copies it leaves what it makes of them
abbrev pub LeavesCopies : DataFile → Memory → (sums : List ℕ) → Command → (before after : Image) → Type 0
LeavesCopies file m sums command before after = (n : ℕ) → unit_at file.layout file.cluster after (CopyPlace n) ≡ overlay (puts_of m sums command) (unit_at file.layout file.cluster before) (CopyPlace n)

-- ---- which sectors are written

-- none of them reaches a sector of the block at this address
abbrev pub SparesBlock : DataFile → List Event → (a : ℕ) → Type 0
SparesBlock file events a = (sector : ℕ) → has file.layout (BlockPlace a) sector ≡ true → writes_to events sector ≡ false

-- the command writes the running trailer's next block, at this address
abbrev pub WritesNext : Command → Work → (a : ℕ) → Type 0
WritesNext Advance w a = (r : Running) × (more : List ℕ) × (w.running ≡ Some r) × (r.left ≡ a ∷ more)
WritesNext command w a = ⊥

-- each block that is held is spared, but the running trailer's next
abbrev pub SparesHeld : DataFile → Command → Work → List Event → Type 0
SparesHeld file command w events = (a : ℕ) → is_held w a ≡ true → (WritesNext command w a → ⊥) → SparesBlock file events a
