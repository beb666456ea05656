-- What device calls leave of the sectors of a file, whatever command made them: what is shown then, which sectors are written, and which blocks no stop may change.
use Rattle.std.specs.Prelude.{◌≡◌, ◌||◌, ℕ, Bool, true, false, List, [], ◌∷◌}
use Rattle.df_base.specs.{Image.{Image, IsImage, covers}, Log.{Event, Log, Stop, Sync, Write, after_event, loose}}
use Rattle.df_layout.specs.declared.layout.Layout.{Layout}
use Rattle.df_theory.specs.Units.{BlockPlace, Place, PreparePlace, ReplyPlace}
use Rattle.df_units.specs.{Bytes.{has, has_place, unit_at}, Wanted.{class_at}}
use Rattle.df_model.specs.{Result.{AgreeReads}, Work.{Work, is_known, is_of}}
use Rattle.df_damage.specs.Below.{DataFile}

-- ---- what is shown

-- an image after these events
abbrev pub image_after : List Event → Image → Image
image_after [] image = image
image_after (e ∷ es) image = image_after es (after_event e image)

-- a place that a call reads: a prepare's slot, a reply's slot, or a block of the layout
abbrev pub IsReadPlace : Layout → Place → Type 0
IsReadPlace layout (PreparePlace s) = has_place layout (PreparePlace s) ≡ true
IsReadPlace layout (ReplyPlace k) = has_place layout (ReplyPlace k) ≡ true
IsReadPlace layout (BlockPlace a) = has_place layout (BlockPlace a) ≡ true
IsReadPlace layout place = ⊥

-- what leaves each place that a call reads as it was: with its unit, and with its class
pub record SparesReads (file : DataFile) (before after : Image) : Type 0 where
  pub whole : IsImage after
  pub units : AgreeReads (unit_at file.layout file.cluster after) (unit_at file.layout file.cluster before)
  pub classes : (place : Place) → IsReadPlace file.layout place → class_at file.layout file.cluster after place ≡ class_at file.layout file.cluster before place

-- ---- which sectors are written

-- one of the events is a write that reaches the sector
abbrev pub writes_to : List Event → ℕ → Bool
writes_to [] sector = false
writes_to ((Write at bytes) ∷ es) sector = covers at bytes sector || writes_to es sector
writes_to (Sync ∷ es) sector = writes_to es sector
writes_to ((Stop changes) ∷ es) sector = writes_to es sector

-- ---- which sectors are durable

-- the durable checkpoint references the block at this address, or has it in its trailer
abbrev pub is_durable : Work → ℕ → Bool
is_durable w a = is_known (w.view.checkpoint.parts.references a) || is_of a w.view.checkpoint.chain

-- no sector of such a block is loose, so no stop changes it, sound or hurt
pub record AreSettled (file : DataFile) (log : Log) (w : Work) : Type 0 where
  pub firm : (a sector : ℕ) → is_durable w a ≡ true → has file.layout (BlockPlace a) sector ≡ true → loose log sector ≡ false
