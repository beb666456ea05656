-- The tail that a table of slots shows after a checkpoint, and how far taken prepares go on after it.
use Rattle.std.specs.Prelude.{◌≡◌, ◌≢◌, ◌⊎◌, ◌<◌, ◌≤◌, ◌+◌, ◌%◌, ℕ, List, length, slice_get, Option, Some, None}
use Rattle.df_base.specs.declared.TheConstants.{GREATEST}
use Rattle.df_layout.specs.declared.layout.Layout.{Layout}
use Rattle.df_format.specs.{declared.header.Header.{Header}, Spelling.{IsCheck}}
use Rattle.df_sessions.specs.{declared.session.Session.{Session}, Requests.{sessions_of}, Table.{IsKnownClient, Table}}
use Rattle.df_theory.specs.Units
use Rattle.df_theory.specs.{Shape.{Shape, clients, slots}, View.{Checkpoint}, Opens.{IsUnfit}}
use Rattle.df_theory.specs.Found
use Rattle.df_units.specs.Meaning.{number_of}
pub use Rattle.df_group.specs.{Fitting.{FitsAt, position_of, tail_to}, Reached.{BeginsBehind, EndsAt}}
use Rattle.df_group.specs.{declared.groups.Position.{Position}, declared.reach.Reach.{Reach}}
use Rattle.df_buffers.specs.declared.slots.SlotSeen.{SlotSeen}
use Rattle.df_journal.specs.{declared.table.Start.{Start}, Seen.{IsTakenPrepare}}

-- the checkpoint that the walk starts from, and what its superblock says of the prepares that it names
pub record BeginsAt (sh : Shape) (b : Checkpoint) (layout : Layout) (start : Start) (checksum : List ℕ) (sessions : List Session) : Type 0 where
  pub slots_are : slots sh ≡ layout.slots
  pub clients_are : clients sh ≡ layout.clients
  pub op_is : b.content.op ≡ start.op
  pub checksum_is : b.content.op_checksum ≡ number_of checksum
  pub boot : b.content.boot ≡ start.boot
  pub pin : b.content.pin ≡ start.head
  pub pin_near : b.content.pin ≤ b.content.op + slots sh
  pub pin_checksum : b.content.pin ≡ b.content.op → b.content.pin_checksum ≡ b.content.op_checksum
  pub sessions_are : b.parts.sessions ≡ sessions_of sessions

-- the tail of the image ends so, and taken prepares go on after it up to this op
pub record IsReached (sh : Shape) (image : Units.Units) (b : Checkpoint) (reach : Reach) (sessions : List Session) : Type 0 where
  pub tail : List Units.Message
  pub more : List Units.Message
  pub is : Found.IsTail sh image b tail
  pub goes_on : Found.IsReach sh image b tail more
  pub ends : EndsAt b tail reach.tail sessions
  pub op_is : reach.op ≡ b.content.op + length tail + length more

-- of the prepares that the superblock names, the one after this op is the first that doesn't fit
pub record StopsAt (sh : Shape) (image : Units.Units) (b : Checkpoint) (op : ℕ) : Type 0 where
  pub front : List Units.Message
  pub unfit : IsUnfit sh image b front
  pub op_is : op ≡ b.content.op + length front

-- where the walk ends that finds all named prepares shown: short of the last of these, or after it
pub record FindsReach (sh : Shape) (image : Units.Units) (b : Checkpoint) (reach : Reach) (sessions : List Session) : Type 0 where
  pub stops : reach.op < b.content.pin → StopsAt sh image b reach.op
  pub reached : b.content.pin ≤ reach.op → IsReached sh image b reach sessions

-- the header of the prepare that comes next: it is taken from the slot of its op, and fits
pub record IsNext (layout : Layout) (start : Start) (table : List SlotSeen) (at : Position) (sessions : List Session) (h : Header) : Type 0 where
  pub seen : SlotSeen
  pub there : slice_get table ((at.last.op + 1) % layout.slots) ≡ Some seen
  pub taken : IsTakenPrepare start (at.last.op + 1) seen h
  pub fits : FitsAt layout.clients start.head at sessions h

-- no session's reply is stored in the table
abbrev pub AreUnstored : List Session → Type 0
AreUnstored sessions = (k : ℕ) (s : Session) → slice_get sessions k ≡ Some s → s.reply ≡ None

-- each session's request is within its limit
abbrev pub AreNumbered : List Session → Type 0
AreNumbered sessions = (k : ℕ) (s : Session) → slice_get sessions k ≡ Some s → s.request ≤ GREATEST

-- a walk from this op on, whose prepare has this checksum, stays within the ring and the greatest op, and its tail ends no later
pub record IsWithinRing (op slots : ℕ) (sum : List ℕ) (reach : Reach) : Type 0 where
  pub from : op ≤ reach.tail.op
  pub order : reach.tail.op ≤ reach.op
  pub within : reach.op ≤ op + slots
  pub most : reach.op ≤ GREATEST
  pub checksum : IsCheck reach.tail.checksum
  pub start : reach.tail.op ≡ op → reach.tail.checksum ≡ sum

-- the table of sessions keeps its limit, and what was so of each session is so of each
pub record KeepsRules (old new : Table) : Type 0 where
  pub places : new.max ≡ old.max
  pub unstored : AreUnstored old.sessions → AreUnstored new.sessions
  pub numbered : AreNumbered old.sessions → AreNumbered new.sessions

-- as an answer
abbrev pub TailWalkGoesOn : Layout → Start → List SlotSeen → Position → List Session → Option Header → Type 0
TailWalkGoesOn layout start table at sessions None = (h : Header) → IsNext layout start table at sessions h → ⊥
TailWalkGoesOn layout start table at sessions (Some h) = IsNext layout start table at sessions h

-- the prepare's request can be noted
pub record CanBeNoted (sessions : Table) (h : Header) : Type 0 where
  pub client : h.client ≢ 0
  pub room : IsKnownClient h.client sessions.sessions ⊎ (length sessions.sessions < sessions.max)
  pub checksum : IsCheck h.checksum
  pub request : h.request ≤ GREATEST
  pub op : h.op ≤ GREATEST
