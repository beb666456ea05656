-- The mending of a file: which sectors of the header ring are written, its device calls, what they are in the words of the theory, and what they leave.
use Rattle.std.specs.{Prelude.{◌≡◌, ◌⊎◌, ◌+◌, ◌/◌, ◌==◌, ◌&&◌, ℕ, Bool, true, false, List, [], ◌∷◌, ◌++◌, length, map, Option, Some, Result, Ok, Err}, List.{filter, list_any, range_with_len}}
use Rattle.df_base.specs.{declared.TheConstants.{VERSION}, Image.{Image, IsImage}, Log.{Event, IsLeft, IsLog, Log, Sync, now}}
use Rattle.df_disk.specs.{Told.{IsHonest, Told, did}, Adds.{Adds, AddsPart, after_all}}
use Rattle.df_layout.specs.{declared.damage.Mend.{Mend}, declared.layout.Layout.{Layout}, declared.places.Zone.{Zone}, declared.places.Zone.TheVariants.{WalHeaders}}
use Rattle.df_format.specs.{declared.header.Header.{Header}, Copies.{content_at, content_with}, declared.superblock.SuperFields.{SuperFields}}
use Rattle.df_quorum.specs.{declared.slot.Slot.{Slot}, Quorum.{AreMembers}}
use Rattle.df_theory.specs.{Units.{Units}, Found.{IsFound}, Rests.{IsDry, RestsOn}, View.{View, head}, Next.{booted}, Upgrades.{raise_steps}, Device.{AreSteps, Format, NoChanceOf, units_log}}
use Rattle.df_theory.specs.{MendLaws.{MayMend, mend_steps}, Runs.{Step}, TidyLaws.{IsTidy}}
use Rattle.df_units.specs.{Bytes.{unit_at}, Meaning.{content_of}, Puts.{put_copies, put_headers}}
use Rattle.df_headers.specs.Ring.{in_sector, sector_writes}
use Rattle.df_journal.specs.{Scan.{Scan}, Shows.{TellsRings}, Append.{ShowsRing}, Starting.{start_of}}
use Rattle.df_model.specs.{Work.{Work, opened, raised}, declared.errors.MendError.{MendError}, declared.errors.MendError.TheVariants.{Damaged, DiskFault}}
use Rattle.df_superblock.specs.{Calls.{IsJudged}, Events.{repair_events, update_events}, Steps.{repaired}}
use Rattle.df_superblock.specs.declared.updates.UpdateError.TheVariants as superblock
use Rattle.df_damage.specs.{Below.{DataFile, State, boot_fields, shape}, Opening.{HasSuperAs}, Plan.{headers_in, if_wanted}, Surveying.{ArePlannedFrom}}
use Rattle.df_opening.specs.{Following.{MayOpen}, Keeping.{Grade, StandingFor, StandsFor, format}}

-- ---- sectors

abbrev pub is_header_zone : Zone → Bool
is_header_zone WalHeaders = true
is_header_zone zone = false

-- the place is a slot of this sector of the header ring
abbrev pub lies_in : ℕ → Mend → Bool
lies_in sector mend = is_header_zone mend.place.zone && (mend.place.index / 16 == sector)

-- the list has a slot of the sector
abbrev pub needs_sector : List Mend → ℕ → Bool
needs_sector mends sector = list_any (lies_in sector) mends

-- the sectors that have a slot of the list, of the first n of the ring, in order and each once
abbrev pub sectors_to : ℕ → List Mend → List ℕ
sectors_to n mends = filter (needs_sector mends) (range_with_len 0 n)

abbrev pub sectors_of : Layout → List Mend → List ℕ
sectors_of layout mends = sectors_to (layout.slots / 16) mends

-- ---- device calls

-- the write of a sector, if the list has a slot of it
abbrev pub wanted_writes : Layout → List Header → List Mend → ℕ → List Event
wanted_writes layout table mends sector = sector_writes layout table (if_wanted (needs_sector mends sector) sector)

abbrev pub some_of : List ℕ → Bool
some_of [] = false
some_of (sector ∷ sectors) = true

-- they are synced at once, and where there is none there is no sync
abbrev pub header_events : Layout → List Header → List ℕ → List Event
header_events layout table [] = []
header_events layout table (sector ∷ sectors) = sector_writes layout table (sector ∷ sectors) ++ Sync ∷ []

-- the header sectors first, then the copies that aren't members
abbrev pub mending_events : Layout → List Header → List Mend → SuperFields → List Bool → List Event
mending_events layout table mends f members = header_events layout table (sectors_of layout mends) ++ repair_events f 0 members

-- ---- in the words of the theory

abbrev pub sector_put : List Header → ℕ → Units
sector_put table sector = put_headers sector (in_sector sector table)

abbrev pub sector_puts : List Header → List ℕ → List Units
sector_puts table sectors = map (sector_put table) sectors

abbrev pub mending_steps : Layout → List Header → List Mend → SuperFields → List Bool → List Step
mending_steps layout table mends f members = mend_steps (sector_puts table (sectors_of layout mends)) (repaired f 0 members)

-- these device calls are added, or a part of them, from the first on, where the disk failed; in the words of the theory they are these steps
pub record AddsSteps {T E : Type 0} (f : Format) (es : List Event) (ss : List Step) (old new : Option Told) (result : Result T E) : Type 0 where
  pub events : Adds es old new result
  pub steps : AreSteps f es ss

-- the file is tidy, with the view, and its header ring shows the table; by the grade the referenced blocks stand, too
pub record IsMended (g : Grade) (file : DataFile) (view : View) (table : List Header) (t : Told) : Type 0 where
  pub tidy : IsTidy (shape file) (units_log (format file) t.log) view
  pub standing : StandingFor g (units_log (format file) t.log) view
  pub ring : ShowsRing file.layout file.cluster (now t.log) table

-- ---- what an open knows of a file before it mends it

-- the scan and the choice are what the disk shows, the head is that of each view that is found in it, and the table and the list are planned from them
pub record IsPlanned (file : DataFile) (table : List Header) (mends : List Mend) (f : SuperFields) (members : List Bool) (t : Told) : Type 0 where
  pub scan : Scan
  pub copies : List Slot
  pub super : HasSuperAs file.version t.shown f
  pub members_are : AreMembers (content_at t.shown) super.content members
  pub start : scan.start ≡ start_of f
  pub scanned : TellsRings file.layout (unit_at file.layout file.cluster t.shown) scan
  pub top : ℕ
  pub top_is : IsImage t.shown → (v : View) → IsFound (shape file) (unit_at file.layout file.cluster t.shown) v → head v ≡ top
  pub planned : ArePlannedFrom file.layout file.cluster scan top copies members table mends

-- an honest disk with a file of version 2, whose log rests on a view and has nothing loose, where no unit came about by chance: what holds of it after the barrier of an open
pub record RestsOnDisk (g : Grade) (file : DataFile) (view : View) (t : Told) : Type 0 where
  pub version : file.version ≡ VERSION
  pub is_log : IsLog t.log
  pub honest : IsHonest t
  pub rests : RestsOn (shape file) (units_log (format file) t.log) view
  pub dry : IsDry (units_log (format file) t.log)
  pub no_chance : NoChanceOf (format file) t.log (now t.log)
  pub standing : StandingFor g (units_log (format file) t.log) view

-- what is planned of it may be mended
abbrev pub PlannedMayMend : Type 0
PlannedMayMend =
    (g : Grade) (file : DataFile) (view : View) (table : List Header) (mends : List Mend) (f : SuperFields) (members : List Bool) (t : Told)
    → length members ≡ 4 → IsPlanned file table mends f members t → RestsOnDisk g file view t
    → MayMend (shape file) (units_log (format file) t.log) view (headers_in table) (sector_puts table (sectors_of file.layout mends)) (repaired f 0 members)

-- ---- the boot update after it

-- the device calls of an open after its survey: the mending, and the four copies with the next boot, a sync after each
abbrev pub raising_events : Layout → List Header → List Mend → SuperFields → List Bool → SuperFields → List Event
raising_events layout table mends f members d = mending_events layout table mends f members ++ update_events d

-- in the words of the theory
abbrev pub raising_steps : Layout → List Header → List Mend → SuperFields → List Bool → SuperFields → List Step
raising_steps layout table mends f members d = raise_steps (sector_puts table (sectors_of layout mends)) (repaired f 0 members) (put_copies d)

-- the state after it: the superblock records the state as it was found, units are made in the next boot, and calls may go on
abbrev pub raised_state : State → State
raised_state s = record s { fields = boot_fields s; boot = s.fields.boot + 1; live = true }

-- the state that the machine begins with over what was shown, where this view is found
abbrev pub first_state : DataFile → Told → View → Work
first_state file t view = opened (shape file) (unit_at file.layout file.cluster t.shown) view

-- the state that calls begin with: the one after the boot update that writes this superblock
abbrev pub begun_state : DataFile → Told → View → SuperFields → Work
begun_state file t view d = raised (first_state file t view) (content_of (content_with d))

-- a mending adds all its events and those of the update, or a part of them, from the first on, where the disk failed
abbrev pub AddsRaising : {T : Type 0} → List Event → Option Told → Option Told → Result T MendError → Type 0
AddsRaising events old new (Ok x) = new ≡ after_all events old
AddsRaising events old new (Err (Damaged place class)) = new ≡ after_all events old
AddsRaising events old new (Err DiskFault) = AddsPart events old new

-- what the update read back: each copy as it was written, but for one at most, where calls may go on; and else which is the first that wasn't
abbrev pub IsReadBack : {T : Type 0} → SuperFields → Option Told → Result T MendError → Type 0
IsReadBack {T = T} d told (Ok x) = IsJudged {T = Unit {0}} told d (Ok tt)
IsReadBack {T = T} d told (Err (Damaged place class)) = IsJudged {T = Unit {0}} told d (Err (superblock.Damaged place class))
IsReadBack {T = T} d told (Err DiskFault) = Unit {0}

-- a disk that tells what it shows shows each copy as it was written: the update finds none damaged
abbrev pub IsUnharmed : {T : Type 0} → Option Told → Result T MendError → Type 0
IsUnharmed (Some t) (Err (Damaged place class)) = ⊥
IsUnharmed told result = Unit {0}

-- An update with this superblock, the last of these device calls: which of them were added, what was read back, and that a disk that tells what it shows is told of no damage.
pub record AddsUpdating {T : Type 0} (es : List Event) (d : SuperFields) (old new : Option Told) (result : Result T MendError) : Type 0 where
  pub events : AddsRaising es old new result
  pub read_back : IsReadBack d new result
  pub unharmed : IsUnharmed new result

-- At this moment each image that a stop may leave, none of whose units came about by chance, has the view, by the superblock of before or by this one: the bare view is one. By the grade it
-- shows the referenced blocks, too. Nothing is asked of what the copies showed before.
pub record StaysFound (g : Grade) (file : DataFile) (view : View) (d : SuperFields) (log : Log) : Type 0 where
  pub left : (image : Image) → IsLeft log image → NoChanceOf (format file) log image
      → (IsFound (shape file) (unit_at file.layout file.cluster image) view ⊎ IsFound (shape file) (unit_at file.layout file.cluster image) (booted view (content_of (content_with d))))
      × StandsFor g (unit_at file.layout file.cluster image) view

-- after the barrier its log rests on the view
abbrev pub BarrierRests : Type 0
BarrierRests = (g : Grade) (file : DataFile) (view : View) (t : Told) → MayOpen file view t → StandsFor g (unit_at file.layout file.cluster t.shown) view → RestsOnDisk g file view (did Sync t)
