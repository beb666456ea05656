-- The table of slots as a disk shows them.
use Rattle.std.specs.Prelude.{◌≡◌, ◌<◌, ◌%◌, ℕ, List, length, slice_get, Option, Some, None}
use Rattle.df_base.specs.{declared.TheConstants.{SECTOR}, Image.{Image}}
use Rattle.df_disk.specs.Told.{Shows, Told}
use Rattle.df_layout.specs.{declared.layout.Layout.{Layout}, declared.places.Zone.TheVariants.{WalHeaders, WalPrepares}, Spans.{span_of}}
use Rattle.df_format.specs.{Own.{place_in}, Shown.{class_at}}
use Rattle.df_units.specs.Bytes
use Rattle.df_buffers.specs.declared.slots.SlotSeen.{SlotSeen}
use Rattle.df_places.specs.Units.{header_at}
use Rattle.df_journal.specs.{Scan.{Scan, entry}, Seen.{class_of}, Shows.{IsSeenTable, IsSlot, TellsRings}}

-- what an image shows at a slot
abbrev pub seen_at : Layout → ℕ → Image → ℕ → SlotSeen
seen_at layout cluster image s = record { header = header_at layout cluster image (place_in WalHeaders s); prepare = header_at layout cluster image (place_in WalPrepares s) }

-- the entry is what the disk shows, where it tells that
abbrev pub IsSlotSeen : Layout → ℕ → Option Told → ℕ → SlotSeen → Type 0
IsSlotSeen layout cluster None s seen = Unit {0}
IsSlotSeen layout cluster (Some t) s seen = seen ≡ seen_at layout cluster t.shown s

-- so are the first k entries, and each is of units that are valid there
pub record AreSeen (layout : Layout) (cluster : ℕ) (told : Option Told) (k : ℕ) (table : List SlotSeen) : Type 0 where
  pub seen : (s : ℕ) (seen : SlotSeen) → s < k → slice_get table s ≡ Some seen → IsSlotSeen layout cluster told s seen
  pub valid : (s : ℕ) (seen : SlotSeen) → s < k → slice_get table s ≡ Some seen → IsSlot layout cluster s seen

-- the whole table is what the disk shows
pub record IsScanned (layout : Layout) (told : Option Told) (scan : Scan) : Type 0 where
  pub seen : (s : ℕ) (seen : SlotSeen) → slice_get scan.slots s ≡ Some seen → IsSlotSeen layout scan.start.cluster told s seen
  pub is_table : IsSeenTable layout scan.start.cluster scan.slots

-- the first sector of a slot's header
abbrev pub header_first : Layout → ℕ → ℕ
header_first layout slot = (span_of layout (place_in WalHeaders slot)).first

-- these bytes are a whole sector, the one of a slot's header
pub record HoldsSector (layout : Layout) (told : Option Told) (slot : ℕ) (bytes : List ℕ) : Type 0 where
  pub shows : Shows told (header_first layout slot) bytes
  pub size : length bytes ≡ SECTOR

-- unless the slot is the first of its sector, which is to be read then
abbrev pub IsHeld : Layout → Option Told → ℕ → List ℕ → Type 0
IsHeld layout told slot bytes = 0 < slot % 16 → HoldsSector layout told slot bytes

-- a table that was scanned says what the image shows, in the words of the theory
abbrev pub RingsAreShown : Type 0
RingsAreShown = (layout : Layout) (t : Told) (scan : Scan) → IsScanned layout (Some t) scan → TellsRings layout (Bytes.unit_at layout scan.start.cluster t.shown) scan

-- and its classes of a slot, where another unit is wanted, are the image's
abbrev pub ClassIsShown : Type 0
ClassIsShown = (layout : Layout) (t : Told) (scan : Scan) (s : ℕ) → IsScanned layout (Some t) scan → s < layout.slots
    → (class_of (entry scan s).header ≡ class_at layout scan.start.cluster t.shown (place_in WalHeaders s)) × (class_of (entry scan s).prepare ≡ class_at layout scan.start.cluster t.shown (place_in WalPrepares s))
