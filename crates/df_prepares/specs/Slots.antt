-- Where the slots of the ring of prepares lie, and what a write of a unit into its slot does.
use Rattle.std.specs.Prelude.{ℕ, List}
use Rattle.df_base.specs.Log.{Event}
use Rattle.df_layout.specs.{declared.layout.Layout.{Layout}, declared.places.Place.{Place}, declared.places.Zone.TheVariants.{WalPrepares}}
use Rattle.df_format.specs.{Message.{Message}, Own.{place_in}, Valid.{IsUnit}}
use Rattle.df_buffers.specs.Sounds.{Holding}
use Rattle.df_theory.specs.{Units.{PreparePlace, PrepareUnit}, Runs.{Step}}
use Rattle.df_places.specs.{Below.{message_of}, Units.{put_events as put_unit_events, put_steps as put_unit_steps, unit_events, unit_steps}}

-- the place of a slot
abbrev pub slot_place : ℕ → Place
slot_place slot = place_in WalPrepares slot

-- the unit is valid in the slot that its header names
abbrev pub IsInOwnSlot : Layout → Message → Type 0
IsInOwnSlot layout u = IsUnit layout u.header.cluster (slot_place u.header.slot) u

-- the event of a put: the whole sectors that a unit covers go into the slot that its header names
abbrev pub prepare_put_events : Layout → Holding → List Event
prepare_put_events layout held = put_unit_events layout (slot_place held.unit.header.slot) held

-- what it is in the words of the theory: the prepare is put into its slot
abbrev pub put_steps : Message → List Step
put_steps u = put_unit_steps (PreparePlace u.header.slot) (PrepareUnit (message_of u))

-- the events of a write: the whole sectors that a unit covers go into the slot that its header names, and are synced
abbrev pub write_events : Layout → Holding → List Event
write_events layout held = unit_events layout (slot_place held.unit.header.slot) held

-- what they are in the words of the theory: the prepare is put into its slot, and synced
abbrev pub prepare_write_steps : Message → List Step
prepare_write_steps u = unit_steps (PreparePlace u.header.slot) (PrepareUnit (message_of u))
