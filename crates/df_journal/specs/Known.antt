-- The prepares that a superblock names by their checksums: whether all of them are shown, as a table of slots tells it.
use Rattle.std.specs.Prelude.{◌≡◌, ◌≤◌, ◌+◌, ℕ, List, length, Option, Some, None, Ok}
use Rattle.df_layout.specs.declared.layout.Layout.{Layout}
use Rattle.df_format.specs.declared.header.Header.{Header}
use Rattle.df_theory.specs.{Units.{Content, Message, Units}, Shape.{Shape, slots}, Opens.{AreKnown, LacksKnown}}
use Rattle.df_units.specs.Meaning.{number_of}
use Rattle.df_buffers.specs.declared.slots.SlotSeen.{SlotSeen}
use Rattle.df_journal.specs.declared.table.Start.{Start}

-- the superblock whose names are read: it names the prepares after its checkpoint up to the head of the scan's start, which has this checksum
pub record NamesFrom (sh : Shape) (c : Content) (layout : Layout) (start : Start) (checksum : List ℕ) : Type 0 where
  pub slots_are : slots sh ≡ layout.slots
  pub op_is : c.op ≡ start.op
  pub pin_is : c.pin ≡ start.head
  pub from : c.op ≤ c.pin
  pub checksum_is : c.pin_checksum ≡ number_of checksum

-- the header of the prepare that a slot shows, if it has this checksum
abbrev pub HasSum : SlotSeen → List ℕ → Option Header → Type 0
HasSum seen checksum None = (h : Header) → seen.prepare ≡ Ok h → h.checksum ≡ checksum → ⊥
HasSum seen checksum (Some h) = (seen.prepare ≡ Ok h) × (h.checksum ≡ checksum)

-- each prepare that is named is shown as it is named
pub record AllKnown (sh : Shape) (image : Units) (c : Content) : Type 0 where
  pub read : List Message
  pub known : AreKnown (slots sh) image (c.op + 1) c.pin_checksum read
  pub count : c.op + length read ≡ c.pin

-- as an answer: the greatest op whose prepare isn't shown as it is named, if there is one
abbrev pub TellsKnown : Shape → Units → Content → Option ℕ → Type 0
TellsKnown sh image c None = AllKnown sh image c
TellsKnown sh image c (Some op) = LacksKnown sh image c op
