-- A flush of a group of prepares, which is a put of each and one settling: its device calls, what they are in the words of the theory, and what a stop at any moment of it leaves.
use Rattle.std.specs.Prelude.{◌≡◌, ◌<◌, ◌/◌, ◌==◌, ℕ, if◌then◌else◌, List, [], ◌∷◌, ◌++◌, length, slice_get, take, Option, Some}
use Rattle.df_base.specs.{Image.{Image}, Log.{Event, IsLeft, IsLog}}
use Rattle.df_base.specs.Log
use Rattle.df_disk.specs.Told.{Told}
use Rattle.df_layout.specs.declared.layout.Layout.{Layout}
use Rattle.df_format.specs.{Brings.{Brings}, declared.header.Header.{Header}, Message.{Message, sectors_end}}
use Rattle.df_buffers.specs.Sounds.{Holding}
use Rattle.df_theory.specs.Units
use Rattle.df_theory.specs.{Device.{IsGoodDisk, NoChanceOf, units_log}, Next.{MayAppend, appended}, Runs.{Step}, TidyLaws.{IsTidy}, View.{View, boot_of}}
use Rattle.df_units.specs.{Meaning.{message_of}, Bytes.{unit_at}, Format.{format_of, shape_of}}
use Rattle.df_headers.specs.Ring.{IsHeaderTable}
use Rattle.df_prepares.specs.Slots.{IsInOwnSlot, prepare_put_events, put_steps, slot_place}
use Rattle.df_journal.specs.Append.{OthersStay, ShowsRing, settle_events, settle_steps, with_header}

-- the prepares that these rooms hold
abbrev pub held_prepares : List Holding → List Message
held_prepares [] = []
held_prepares (held ∷ more) = held.unit ∷ held_prepares more

abbrev pub messages_of : List Message → List Units.Message
messages_of [] = []
messages_of (u ∷ us) = message_of u ∷ messages_of us

-- the table with the header of each in its slot
abbrev pub with_headers : List Message → List Header → List Header
with_headers [] table = table
with_headers (u ∷ us) table = with_headers us (with_header u table)

-- ---- its device calls

-- each prepare is put, in order
abbrev pub group_puts : Layout → List Holding → List Event
group_puts layout [] = []
group_puts layout (held ∷ more) = prepare_put_events layout held ++ group_puts layout more

-- in the words of the theory
abbrev pub group_steps : List Message → List Step
group_steps [] = []
group_steps (u ∷ us) = put_steps u ++ group_steps us

-- the slots of the first and of the last of them
abbrev pub first_slot : List Message → ℕ
first_slot [] = 0
first_slot (u ∷ us) = u.header.slot

abbrev pub last_slot : ℕ → List Message → ℕ
last_slot slot [] = slot
last_slot slot (u ∷ us) = last_slot u.header.slot us

-- the header sectors of eight prepares at most, one after the other: the first one's, and the last one's where that is another
abbrev pub sectors_between : (first last : ℕ) → List ℕ
sectors_between first last = if first == last then first ∷ [] else first ∷ last ∷ []

abbrev pub sectors_of : List Message → List ℕ
sectors_of us = sectors_between (first_slot us / 16) (last_slot 0 us / 16)

-- the device calls of a flush: the prepares are put, and the sectors of their headers settled
abbrev pub flush_events : Layout → List Holding → List Header → List Event
flush_events layout helds table = group_puts layout helds ++ settle_events layout (with_headers (held_prepares helds) table) (sectors_of (held_prepares helds))

-- in the words of the theory
abbrev pub flush_steps : List Message → List Header → List Step
flush_steps us table = group_steps us ++ settle_steps (with_headers us table) (sectors_of us)

-- ---- what may be flushed

-- the rooms are of the layout, their prepares of the file's cluster, and the table is one of the file
pub record MayPutGroup (layout : Layout) (cluster : ℕ) (helds : List Holding) (table : List Header) : Type 0 where
  pub table_is : IsHeaderTable layout cluster table
  pub each : (i : ℕ) (held : Holding) → slice_get helds i ≡ Some held → (held.layout ≡ layout) × (held.unit.header.cluster ≡ cluster)

-- the prepare is valid in its own slot, and its sectors bring it there
pub record IsOwn (layout : Layout) (held : Holding) : Type 0 where
  pub own : IsInOwnSlot layout held.unit
  pub brings : Brings layout held.unit.header.cluster (slot_place held.unit.header.slot) held.unit (take (sectors_end held.unit.header.size) held.bytes)

abbrev pub AreOwn : Layout → List Holding → Type 0
AreOwn layout helds = (i : ℕ) (held : Holding) → slice_get helds i ≡ Some held → IsOwn layout held

-- the file is tidy, the prepares may be its next ones, as one group, and the header ring shows the table; a group of several is one of a file with boots
pub record MayFlushOn (layout : Layout) (cluster : ℕ) (us : List Message) (table : List Header) (t : Told) : Type 0 where
  pub named : 0 < cluster
  pub parse : ℕ → List ℕ → Option Units.Parts
  pub view : View
  pub is_log : IsLog t.log
  pub tidy : IsTidy (shape_of layout cluster named parse) (units_log (format_of layout cluster) t.log) view
  pub may : MayAppend (shape_of layout cluster named parse) view (messages_of us)
  pub booted : 1 < length us → 0 < boot_of view
  pub ring : ShowsRing layout cluster (Log.now t.log) table

-- at a moment of the flush the log is good for the view before it and the one with the whole group, and in whatever a stop leaves, under no chance, every slot but the group's stays taken or stays empty
pub record LeavesGroup (layout : Layout) (cluster : ℕ) (us : List Message) (table : List Header) (t : Told) (may : MayFlushOn layout cluster us table t) (log : Log.Log) : Type 0 where
  pub good : IsGoodDisk (format_of layout cluster) (shape_of layout cluster may.named may.parse) may.view (appended may.view (messages_of us)) log
  pub others : (image : Image) → IsLeft log image → NoChanceOf (format_of layout cluster) log image
      → OthersStay (shape_of layout cluster may.named may.parse) (unit_at layout cluster image) may.view (length us)

-- at its end the file is tidy again, with the group, and the header ring shows the table
pub record EndsFlushed (layout : Layout) (cluster : ℕ) (us : List Message) (table : List Header) (t : Told) (may : MayFlushOn layout cluster us table t) (after : Told) (new : List Header) : Type 0 where
  pub tidy : IsTidy (shape_of layout cluster may.named may.parse) (units_log (format_of layout cluster) after.log) (appended may.view (messages_of us))
  pub ring : ShowsRing layout cluster (Log.now after.log) new
