-- Where the reply slots lie, and what a write of a reply into its slot does.
use Rattle.std.specs.Prelude.{ℕ, List}
use Rattle.df_base.specs.Log.{Event}
use Rattle.df_layout.specs.{declared.layout.Layout.{Layout}, declared.places.Place.{Place}, declared.places.Zone.TheVariants.{ClientReplies}, Spans.{span_of}}
use Rattle.df_format.specs.{Message.{Message}, Own.{place_in}, Valid.{IsUnit}}
use Rattle.df_buffers.specs.Sounds.{Holding}
use Rattle.df_theory.specs.{Units.{ReplyPlace, ReplyUnit}, Runs.{Step}}
use Rattle.df_units.specs.Meaning.{message_of}
use Rattle.df_places.specs.Units.{unit_events, unit_steps}

-- the slot of a session's place
abbrev pub reply_place : ℕ → Place
reply_place place = place_in ClientReplies place

-- its first sector
abbrev pub slot_first : Layout → ℕ → ℕ
slot_first layout place = (span_of layout (reply_place place)).first

-- the reply is valid in the slot that its header names
abbrev pub IsInReplySlot : Layout → Message → Type 0
IsInReplySlot layout u = IsUnit layout u.header.cluster (reply_place u.header.slot) u

-- the events of a write: the whole sectors that the reply covers go into that slot, and are synced
abbrev pub write_events : Layout → Holding → List Event
write_events layout held = unit_events layout (reply_place held.unit.header.slot) held

-- in the words of the theory: the reply is put into its session's place, and synced
abbrev pub reply_write_steps : Message → List Step
reply_write_steps u = unit_steps (ReplyPlace u.header.slot) (ReplyUnit (message_of u))
