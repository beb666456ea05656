-- What an open plans of a file that it finds: the header that each slot of the header ring is to have, and the list of what is to be written again.
use Rattle.std.specs.{Prelude.{◌≡◌, ◌<◌, ◌+◌, ◌-◌, ◌%◌, ℕ, Bool, true, false, not, List, [], ◌∷◌, ◌++◌, map, get_or, slice_get, slice_set, Option, Some, None}, List.{filter, range_with_len}}
use Rattle.df_layout.specs.{declared.damage.Class.{Class}, declared.damage.Class.TheVariants.{Stale}, declared.damage.Mend.{Mend}, declared.layout.Layout.{Layout}}
use Rattle.df_layout.specs.declared.places.Zone.TheVariants.{Superblock, WalHeaders}
use Rattle.df_format.specs.{declared.header.Header.{Header}, Own.{place_in}}
use Rattle.df_quorum.specs.{declared.slot.Slot.{Slot}, declared.slot.Slot.TheVariants.{Sound, Bad}, Quorum.{nothing}}
use Rattle.df_cases.specs.{declared.cases.Decision.{Decision}, Cases.{decision_of}}
use Rattle.df_theory.specs.Units
use Rattle.df_theory.specs.{Units.{AnyUnit, HeaderPlace, HeaderUnit, Place}, Chance.{Distinct}, Found.{IsFound}, Shape.{Shape, slots}, View.{View, boot_of, head}}
use Rattle.df_theory.specs.Cases
use Rattle.df_units.specs.{Meaning.{header_of}, Sample.{reserved_header}}
use Rattle.df_buffers.specs.declared.slots.SlotSeen.{SlotSeen}
use Rattle.df_journal.specs.{declared.table.Start.{Start}, Planned.{planned}, Scan.{Scan, entry}, Seen.{IsOpOf, class_of, header_of_seen}, Shows.{TellsRings}}

-- ---- the decision on a slot

-- the op above this one, and at most n above it, that belongs in the slot of a ring of n
abbrev pub op_above_in_slot : ℕ → ℕ → ℕ → ℕ
op_above_in_slot n op slot = op + 1 + (slot + n - (op + 1) % n) % n

-- what is decided of a slot after where a scan starts, once this head is known
abbrev pub decision_at : Layout → Start → ℕ → Units.Units → ℕ → Cases.Decision
decision_at layout start top image slot = planned layout.slots start top image (op_above_in_slot layout.slots start.op slot)

-- whether its header is to be written again
abbrev pub is_mended : Cases.Decision → Bool
is_mended (Cases.Take mend) = mend
is_mended (Cases.Empty mend) = mend
is_mended Cases.Behind = false
is_mended Cases.Lost = false

abbrev pub needs_header : Layout → Start → ℕ → Units.Units → ℕ → Bool
needs_header layout start top image slot = is_mended (decision_at layout start top image slot)

-- ---- the list of what is to be written again

-- the class of a copy that isn't of the choice: a sound copy of its own place is a stale one
abbrev pub class_of_slot : Slot → Class
class_of_slot (Sound copy) = Stale
class_of_slot (Bad class) = class

abbrev pub copy_mend : List Slot → ℕ → Mend
copy_mend copies number = record { place = place_in Superblock number; class = class_of_slot (get_or copies number nothing) }

-- the copies that aren't members of the choice, by number
abbrev pub copy_mends : List Slot → List Bool → List Mend
copy_mends copies members = map (copy_mend copies) (filter (λ n. not (get_or members n false)) (range_with_len 0 4))

abbrev pub slot_mend : (ℕ → Class) → ℕ → Mend
slot_mend classes slot = record { place = place_in WalHeaders slot; class = classes slot }

-- those of the first n slots that need it, with these classes
abbrev pub slot_mends : (ℕ → Bool) → (ℕ → Class) → ℕ → List Mend
slot_mends needs classes n = map (slot_mend classes) (filter needs (range_with_len 0 n))

-- the class of what the header ring shows in a slot: of a valid header Stale
abbrev pub shown_class : Scan → ℕ → Class
shown_class scan slot = class_of (entry scan slot).header

-- the copies first, then the slots whose decision says so
abbrev pub mend_list : Layout → Scan → ℕ → Units.Units → List Slot → List Bool → List Mend
mend_list layout scan top image copies members = copy_mends copies members ++ slot_mends (needs_header layout scan.start top image) (shown_class scan) layout.slots

-- ---- the table of headers

-- stands for a slot that the ring doesn't have
abbrev pub no_header : Units.Header
no_header = record { checksum = 0; parent = 0; client = 0; op = 0; request = 0; mark = 0; checkpoint = 0; boot = 0; group = 0; group_last = 0 }

abbrev pub header_or_none : Option Header → Units.Header
header_or_none None = no_header
header_or_none (Some h) = header_of h

-- a table of headers in the words of the theory
abbrev pub headers_in : List Header → ℕ → Units.Header
headers_in table slot = header_or_none (slice_get table slot)

-- ---- what is found

-- the scan says what the rings of an image show, and this view with this head is found in the image, after the superblock that the scan started from
pub record IsScanOf (layout : Layout) (sh : Shape) (image : Units.Units) (v : View) (scan : Scan) (top : ℕ) : Type 0 where
  pub slots_are : slots sh ≡ layout.slots
  pub op : v.checkpoint.content.op ≡ scan.start.op
  pub pin : v.checkpoint.content.pin ≡ scan.start.head
  pub boot : boot_of v ≡ scan.start.boot
  pub head_is : head v ≡ top
  pub tells : TellsRings layout image scan
  pub found : IsFound sh image v

-- no two units of the image have one checksum
abbrev pub AreDistinctUnits : Units.Units → Type 0
AreDistinctUnits image = (place other : Place) (x y : AnyUnit) → image place ≡ Some x → image other ≡ Some y → Distinct x y

-- each slot that isn't to be written again shows what it is to show
abbrev pub OthersAreShown : Layout → Start → ℕ → Units.Units → (ℕ → Units.Header) → Type 0
OthersAreShown layout start top image table = (slot : ℕ) → slot < layout.slots → needs_header layout start top image slot ≡ false → image (HeaderPlace slot) ≡ Some (HeaderUnit (table slot))

-- ---- one slot

abbrev pub header_or_reserved : ℕ → ℕ → Option Header → Header
header_or_reserved cluster slot None = reserved_header cluster slot
header_or_reserved cluster slot (Some h) = h

-- the header that a slot is to have: that of the prepare that is taken, the one that an empty slot shows, or a reserved one
abbrev pub header_by : ℕ → ℕ → SlotSeen → Cases.Decision → Header
header_by cluster slot seen (Cases.Take mend) = header_or_reserved cluster slot (header_of_seen seen.prepare)
header_by cluster slot seen (Cases.Empty false) = header_or_reserved cluster slot (header_of_seen seen.header)
header_by cluster slot seen d = reserved_header cluster slot

-- this is decided of a slot with this head, whatever image shows what was scanned
abbrev pub IsDecided : Scan → ℕ → ℕ → Decision → Type 0
IsDecided scan top slot d = (layout : Layout) (image : Units.Units) (o : ℕ) → TellsRings layout image scan → IsOpOf layout.slots scan.start.op slot o → decision_of d ≡ planned layout.slots scan.start top image o

-- the table with the header that the decision says, in the slot
abbrev pub PutsHeader : ℕ → Scan → ℕ → ℕ → List Header → List Header → Type 0
PutsHeader cluster scan top slot old new = (d : Decision) × IsDecided scan top slot d × (new ≡ slice_set old slot (header_by cluster slot (entry scan slot) (decision_of d)))

-- an element, if it is one that is wanted
abbrev pub if_wanted : {X : Type 0} → Bool → X → List X
if_wanted true x = x ∷ []
if_wanted false x = []

-- the first k slots have their headers
abbrev pub ArePlanned : ℕ → Scan → ℕ → ℕ → List Header → Type 0
ArePlanned cluster scan top k table = (slot : ℕ) → slot < k → (d : Decision) × IsDecided scan top slot d × (slice_get table slot ≡ Some (header_by cluster slot (entry scan slot) (decision_of d)))
