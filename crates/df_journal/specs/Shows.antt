-- What a table of slots says of an image, and of the units in it whatever the image.
use Rattle.std.specs.Prelude.{◌≡◌, ◌≤◌, ℕ, List, [], length, slice_get, Option, Some, None, Result, Ok, Err}
use Rattle.df_layout.specs.{declared.damage.Class.{Class}, declared.layout.Layout.{Layout}, declared.places.Zone.TheVariants.{WalHeaders, WalPrepares}}
use Rattle.df_format.specs.{declared.header.Header.{Header}, Own.{place_in}, Valid.{IsUnit}}
use Rattle.df_theory.specs.Units
use Rattle.df_theory.specs.Units.{AnyUnit, HeaderPlace, HeaderUnit, PreparePlace, PrepareUnit}
use Rattle.df_units.specs.Meaning.{header_of}
use Rattle.df_places.specs.Units.{IsThere}
use Rattle.df_journal.specs.Scan.{Scan}
use Rattle.df_buffers.specs.declared.slots.SlotSeen.{SlotSeen}

-- the header ring shows this header at a slot, or no unit
abbrev pub ShowsHeader : Option AnyUnit → Result Header Class → Type 0
ShowsHeader x (Ok h) = x ≡ Some (HeaderUnit (header_of h))
ShowsHeader x (Err class) = x ≡ None

-- the prepare ring shows a prepare with this header, or no unit
abbrev pub ShowsPrepare : Option AnyUnit → Result Header Class → Type 0
ShowsPrepare x (Ok h) = (p : Units.Message) × (x ≡ Some (PrepareUnit p)) × (p.header ≡ header_of h)
ShowsPrepare x (Err class) = x ≡ None

pub record ShowsSlot (image : Units.Units) (s : ℕ) (seen : SlotSeen) : Type 0 where
  pub header : ShowsHeader (image (HeaderPlace s)) seen.header
  pub prepare : ShowsPrepare (image (PreparePlace s)) seen.prepare

-- the rings of an image show what the table says, and have no further slot
pub record ShowsTable (image : Units.Units) (table : List SlotSeen) : Type 0 where
  pub each : (s : ℕ) (seen : SlotSeen) → slice_get table s ≡ Some seen → ShowsSlot image s seen
  pub no_header : (s : ℕ) → length table ≤ s → image (HeaderPlace s) ≡ None
  pub no_prepare : (s : ℕ) → length table ≤ s → image (PreparePlace s) ≡ None

-- a header of the header ring is that of a unit which is valid at its place, and has no body
abbrev pub IsHeaderThere : Layout → ℕ → ℕ → Result Header Class → Type 0
IsHeaderThere layout cluster s (Ok h) = IsUnit layout cluster (place_in WalHeaders s) (record { header = h; body = [] })
IsHeaderThere layout cluster s (Err class) = Unit {0}

pub record IsSlot (layout : Layout) (cluster s : ℕ) (seen : SlotSeen) : Type 0 where
  pub header : IsHeaderThere layout cluster s seen.header
  pub prepare : IsThere layout cluster (place_in WalPrepares s) seen.prepare

-- a table of this layout and cluster
pub record IsSeenTable (layout : Layout) (cluster : ℕ) (table : List SlotSeen) : Type 0 where
  pub size : length table ≡ layout.slots
  pub each : (s : ℕ) (seen : SlotSeen) → slice_get table s ≡ Some seen → IsSlot layout cluster s seen

-- the table, which is one of this layout, says what the rings of an image show
pub record TellsRings (layout : Layout) (image : Units.Units) (scan : Scan) : Type 0 where
  pub table : IsSeenTable layout scan.start.cluster scan.slots
  pub shows : ShowsTable image scan.slots
