-- An append, which is a put and a settling: its device calls, what they are in the words of the theory, and what a stop at any moment of it leaves.
use Rattle.std.specs.Prelude.{◌≡◌, ◌<◌, ◌≤◌, ◌+◌, ◌/◌, ℕ, List, [], ◌∷◌, ◌++◌, slice_get, slice_set, Option, Some}
use Rattle.df_base.specs.{Image.{Image}, Log.{Event, IsLeft, IsLog, Sync}}
use Rattle.df_base.specs.Log
use Rattle.df_disk.specs.Told.{Told}
use Rattle.df_layout.specs.declared.layout.Layout.{Layout}
use Rattle.df_format.specs.{declared.header.Header.{Header}, Message.{Message}}
use Rattle.df_buffers.specs.Sounds.{Holding}
use Rattle.df_theory.specs.Units
use Rattle.df_theory.specs.{Units.{HeaderPlace, HeaderUnit}, Cases.{IsEmpty, Takes, decided}, Device.{IsGoodDisk, NoChanceOf, units_log}, Next.{MayAppend, appended}, Runs.{Step, Syncs}}
use Rattle.df_theory.specs.{Shape.{Shape, slots}, Tails.{In}, TidyLaws.{IsTidy}, View.{View, boot_of, head}}
use Rattle.df_units.specs.{Meaning.{header_of, message_of}, Bytes.{unit_at}, Format.{format_of, shape_of}}
use Rattle.df_headers.specs.Ring.{header_write_steps, in_sector, sector_writes}
use Rattle.df_prepares.specs.Slots.{prepare_put_events, put_steps}

-- the table with the header of a prepare in its slot
abbrev pub with_header : Message → List Header → List Header
with_header u table = slice_set table u.header.slot u.header

-- the sixteen headers that are written with it
abbrev pub new_sector : Message → List Header → List Header
new_sector u table = in_sector (u.header.slot / 16) (with_header u table)

-- the device calls of a settling: a sync, which makes durable what was put, each of these sectors of the table, and a sync
abbrev pub settle_events : Layout → List Header → List ℕ → List Event
settle_events layout table sectors = Sync ∷ (sector_writes layout table sectors ++ Sync ∷ [])

-- in the words of the theory
abbrev pub settle_steps : List Header → List ℕ → List Step
settle_steps table sectors = Syncs ∷ (header_write_steps table sectors ++ Syncs ∷ [])

-- the device calls of an append: the prepare is put, and the sector of its header is settled
abbrev pub journal_events : Layout → Holding → List Header → List Event
journal_events layout held table = prepare_put_events layout held ++ settle_events layout (with_header held.unit table) (held.unit.header.slot / 16 ∷ [])

-- in the words of the theory
abbrev pub journal_steps : Message → List Header → List Step
journal_steps u table = put_steps u ++ settle_steps (with_header u table) (u.header.slot / 16 ∷ [])

-- the header ring of an image shows the table
abbrev pub ShowsRing : Layout → ℕ → Image → List Header → Type 0
ShowsRing layout cluster image table = (s : ℕ) (h : Header) → slice_get table s ≡ Some h → unit_at layout cluster image (HeaderPlace s) ≡ Some (HeaderUnit (header_of h))

-- the file is tidy, the prepare may be its next one, and the header ring shows the table
pub record MayAppendOn (layout : Layout) (u : Message) (table : List Header) (t : Told) : Type 0 where
  pub named : 0 < u.header.cluster
  pub parse : ℕ → List ℕ → Option Units.Parts
  pub view : View
  pub is_log : IsLog t.log
  pub tidy : IsTidy (shape_of layout u.header.cluster named parse) (units_log (format_of layout u.header.cluster) t.log) view
  pub may : MayAppend (shape_of layout u.header.cluster named parse) view (message_of u ∷ [])
  pub ring : ShowsRing layout u.header.cluster (Log.now t.log) table

-- every slot but those of the next ops, this many, stays taken, by what the superblock names or by the view's boot, or stays empty, once the head is known; what is to be mended may change
pub record OthersStay (sh : Shape) (image : Units.Units) (v : View) (count : ℕ) : Type 0 where
  pub taken : (p : Units.Message) → In p v.tail → Takes (slots sh) image v.checkpoint.content p
  pub empty : (o : ℕ) → head v + count < o → o ≤ v.checkpoint.content.op + slots sh → IsEmpty (decided (slots sh) (boot_of v) (head v) image o)

-- at a moment of the append the log is good for the view before it and the one after it, and in whatever a stop leaves, under no chance, every other slot stays taken or stays empty
pub record AppendLeaves (layout : Layout) (u : Message) (table : List Header) (t : Told) (may : MayAppendOn layout u table t) (log : Log.Log) : Type 0 where
  pub good : IsGoodDisk (format_of layout u.header.cluster) (shape_of layout u.header.cluster may.named may.parse) may.view (appended may.view (message_of u ∷ [])) log
  pub others : (image : Image) → IsLeft log image → NoChanceOf (format_of layout u.header.cluster) log image
      → OthersStay (shape_of layout u.header.cluster may.named may.parse) (unit_at layout u.header.cluster image) may.view 1

-- at its end the file is tidy again, with the prepare, and the header ring shows the table
pub record EndsAppended (layout : Layout) (u : Message) (table : List Header) (t : Told) (may : MayAppendOn layout u table t) (after : Told) (new : List Header) : Type 0 where
  pub tidy : IsTidy (shape_of layout u.header.cluster may.named may.parse) (units_log (format_of layout u.header.cluster) after.log) (appended may.view (message_of u ∷ []))
  pub ring : ShowsRing layout u.header.cluster (Log.now after.log) new
