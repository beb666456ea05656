-- What a survey of a file answers where a version is asked for, and what is to be mended.
use Rattle.std.specs.{Prelude.{◌≡◌, ◌<◌, ◌≤◌, ◌+◌, ℕ, Bool, false, not, List, [], ◌++◌, length, map, get_or, Option, Some, None, Result, Ok, Err}, List.{filter, range_with_len}}
use Rattle.df_base.specs.{declared.TheConstants.{GREATEST}, Image.{Image, IsImage}}
use Rattle.df_disk.specs.Told.{Told}
use Rattle.df_layout.specs.{declared.damage.Mend.{Mend}, declared.layout.Layout.{Layout}, declared.places.Zone.TheVariants.{Superblock, WalHeaders}}
use Rattle.df_format.specs.{Own.{place_in}, Shown.{class_at}, declared.header.Header.{Header}, declared.superblock.SuperFields.{SuperFields}, Spelling.{IsCheck}}
use Rattle.df_quorum.specs.declared.slot.Slot.{Slot}
use Rattle.df_headers.specs.Ring.{IsHeaderTable}
use Rattle.df_journal.specs.{Scan.{Scan}, Scanned.{seen_at}, Shows.{IsSeenTable as AreSlots, TellsRings}, Tail.{AreNumbered}, Starting.{start_of}}
use Rattle.df_journal.specs.Scanned as rings
use Rattle.df_grid.specs.Table.{IsIdle}
use Rattle.df_model.specs.{Work.{first_tour}, declared.errors.OpenError.{OpenError}}
use Rattle.df_sessions.specs.{Requests.{sessions_of}, declared.session.Session.{Session}}
use Rattle.df_superblock.specs.Calls.{slot_at}
use Rattle.df_theory.specs.{MendLaws.{IsTable as IsSlotTable}, Sessions.{Tracks}, Shape.{Shape}, Units.{Units}, View.{View}}
use Rattle.df_units.specs.{Bytes.{unit_at}, Superblocks.{AreFieldsOf}}
use Rattle.df_rooms.specs.{State.{AreAsked, State}, declared.file.DataFile.{DataFile}, declared.log_rooms.LogRooms.{LogRooms}}
use Rattle.df_recovery.specs.Found.{IsChoiceOf, TellsFoundAs}
use Rattle.df_recovery.specs.Plan.{AreDistinctUnits, ArePlanned, IsScanOf, OthersAreShown, class_of_slot, decision_at, header_by, headers_in, mend_list, needs_header, slot_mends}
use Rattle.df_recovery.specs.{Scanning.{AreCopies, IsFileOf}, Surveys.{SurveysAs}, declared.finding.Traces.{Traces}, declared.scanned.Scanned.{Scanned}, declared.scanning.Copies.{Copies}}
use Rattle.df_recovery.specs.declared.surveying.Surveyed.{Surveyed}

-- ---- what was read makes sense by itself, whatever the disk tells

pub record IsLawfulScan (s : Scanned) : Type 0 where
  -- the file has the superblock's cluster, and its version
  pub named : s.file.cluster ≡ s.copies.found.content.cluster
  pub version : s.file.version ≡ s.copies.found.content.version
  -- it has the superblock's slots
  pub size : s.copies.found.content.slots ≡ s.file.layout.slots
  -- and all else that the superblock says of its layout
  pub fields : AreFieldsOf s.file.layout s.file.cluster s.copies.found.content
  -- the scan started after the superblock
  pub start : s.rooms.log.slots.start ≡ start_of s.copies.found.content
  -- each slot has units that may stand there
  pub slots : AreSlots s.file.layout s.file.cluster s.rooms.log.slots.slots
  -- there are as many places for sessions as the layout has clients
  pub places : s.sessions.max ≡ s.file.layout.clients
  -- no checkpoint runs
  pub idle : IsIdle s.rooms.grid.blocks

-- the end of the tail after a superblock is in its ranges
pub record EndsBehind (layout : Layout) (f : SuperFields) (traces : Traces) : Type 0 where
  -- its checksum is one
  pub checksum : IsCheck traces.tail.checksum
  -- of an empty tail it is the checkpoint's
  pub empty : traces.tail.op ≡ f.op → traces.tail.checksum ≡ f.op_checksum
  -- the tail begins after the checkpoint
  pub from : f.op ≤ traces.tail.op
  -- it has no more prepares than the ring has slots
  pub within : traces.tail.op ≤ f.op + layout.slots
  -- its op is at most the greatest one
  pub most : traces.tail.op ≤ GREATEST
  -- no reply is stored of a later op
  pub order : traces.replies ≤ traces.tail.op
  -- at most eight prepares wait for their replies
  pub few : traces.tail.op ≤ traces.replies + 8
  -- the superblock's boot can be raised
  pub unspent : f.boot < GREATEST

-- the sessions after the tail make sense by themselves
pub record AreAfter (traces : Traces) (sessions : List Session) : Type 0 where
  -- each session's request is within its limit
  pub numbered : AreNumbered sessions
  -- it is a client's first or a later one
  pub asked : AreAsked (sessions_of sessions)
  -- each op that waits has its session, and no two sessions have one op
  pub tracks : Tracks traces.replies traces.tail.op (sessions_of sessions)

-- a surveyed file makes sense by itself
pub record IsWellFound (s : Surveyed) : Type 0 where
  pub read : IsLawfulScan s.scanned
  pub ends : EndsBehind s.scanned.file.layout s.scanned.copies.found.content s.traces
  pub sessions : AreAfter s.traces s.scanned.sessions.sessions
  pub waiting : s.traces.replies + length s.waiting.items ≡ s.traces.tail.op

-- the same file was read, of which the headers and the list in the rooms may differ
pub record KeepsRead (before after : Scanned) : Type 0 where
  pub file : after.file ≡ before.file
  pub copies : after.copies ≡ before.copies
  pub root : after.root ≡ before.root
  pub blocks : after.rooms.grid.blocks ≡ before.rooms.grid.blocks
  pub slots : after.rooms.log.slots ≡ before.rooms.log.slots
  pub sessions : after.sessions ≡ before.sessions

-- and of which the sessions may differ, too
pub record KeepsScannedFile (before after : Scanned) : Type 0 where
  pub file : after.file ≡ before.file
  pub copies : after.copies ≡ before.copies
  pub slots : after.rooms.log.slots ≡ before.rooms.log.slots

-- of a disk, what was read of the copies and of the rings, whatever sessions are kept
pub record IsReadOf (version : ℕ) (layout : Layout) (told : Option Told) (s : Scanned) : Type 0 where
  -- the file has the layout, and its superblock's cluster and version
  pub file : IsFileOf layout s.copies.found.content s.file
  -- the places of its superblock were read
  pub copies : AreCopies version told s.copies
  -- which is the one that the disk shows
  pub found : TellsFoundAs version told (Ok s.copies.found)
  -- the scan started after it
  pub start : s.rooms.log.slots.start ≡ start_of s.copies.found.content
  -- the table has what the rings show
  pub rings_are : rings.IsScanned layout told s.rooms.log.slots

-- ---- the answer

-- what is kept of a surveyed file: a state on which no call may be made yet
abbrev pub state_found : Surveyed → State
state_found s = record {
  file = s.scanned.file;
  fields = s.scanned.copies.found.content;
  root = s.scanned.root.items;
  head = s.traces.tail.op;
  head_checksum = s.traces.tail.checksum;
  replies = s.traces.replies;
  table = s.scanned.sessions;
  waiting = s.waiting.items;
  staged = [];
  headers = s.scanned.rooms.log.headers;
  blocks = s.scanned.rooms.grid.blocks;
  running = None;
  tour = first_tour;
  findings = [];
  boot = 0;
  live = false;
}

-- the state that was found, or the refusal
abbrev pub found_or_refused : {R : Type 0} → Result Surveyed (R × OpenError) → Result State OpenError
found_or_refused (Ok s) = Ok (state_found s)
found_or_refused (Err refused) = Err refused.1

-- it is that of what the disk shows, where it tells that and its sectors are whole
abbrev pub TellsSurveyAs : ℕ → Layout → Option Told → Result State OpenError → Type 0
TellsSurveyAs version layout None result = Unit {0}
TellsSurveyAs version layout (Some t) result = IsImage t.shown → SurveysAs version layout t.shown result

-- ---- what is to be mended

-- the table and the list are planned from a scan with this head, what the places of the copies show and which of them are members
pub record ArePlannedFrom (layout : Layout) (cluster : ℕ) (scan : Scan) (top : ℕ) (copies : List Slot) (members : List Bool) (table : List Header) (mends : List Mend) : Type 0 where
  pub is_table : IsHeaderTable layout cluster table
  pub from : (sh : Shape) (image : Units) (v : View) → IsScanOf layout sh image v scan top → IsSlotTable sh image v (headers_in table)
  pub others : (sh : Shape) (image : Units) (v : View) → IsScanOf layout sh image v scan top → AreDistinctUnits image → OthersAreShown layout scan.start top image (headers_in table)
  pub list : (image : Units) → TellsRings layout image scan → mends ≡ mend_list layout scan top image copies members

-- those of the rooms are, each slot has the header that its decision says, and of each of the four copies it is said whether it is a member
pub record HavePlan (file : DataFile) (copies : Copies) (top : ℕ) (rooms : LogRooms) : Type 0 where
  pub plan : ArePlannedFrom file.layout file.cluster rooms.slots top copies.slots copies.found.chosen.members rooms.headers rooms.mends.items
  pub each : ArePlanned file.cluster rooms.slots top file.layout.slots rooms.headers
  pub four : length copies.found.chosen.members ≡ 4

-- those of a surveyed file are, with the head that was found
abbrev pub IsPlannedFor : Surveyed → Type 0
IsPlannedFor s = HavePlan s.scanned.file s.scanned.copies s.traces.tail.op s.scanned.rooms.log

-- a copy with the class of what its place shows: a sound copy of its own place is a stale one
abbrev pub copy_mend_at : Image → ℕ → Mend
copy_mend_at image number = record { place = place_in Superblock number; class = class_of_slot (slot_at image number) }

-- what is to be mended of an image in which this head is found: the copies that aren't members, by number, then the header slots whose decision says so, in order, each with the class of what is shown there
abbrev pub mends_of : Layout → Image → SuperFields → (top : ℕ) → List Bool → List Mend
mends_of layout image f top members =
    map (copy_mend_at image) (filter (λ n. not (get_or members n false)) (range_with_len 0 4))
    ++ slot_mends (needs_header layout (start_of f) top (unit_at layout f.cluster image)) (λ s. class_at layout f.cluster image (place_in WalHeaders s)) layout.slots

-- the header that a slot of an image is to have where this head is found
abbrev pub planned_header : Layout → Image → SuperFields → (top : ℕ) → ℕ → Header
planned_header layout image f top slot = header_by f.cluster slot (seen_at layout f.cluster image slot) (decision_at layout (start_of f) top (unit_at layout f.cluster image) slot)

-- that of each slot, in order
abbrev pub headers_of : Layout → Image → SuperFields → (top : ℕ) → List Header
headers_of layout image f top = map (planned_header layout image f top) (range_with_len 0 layout.slots)

-- the choice is the image's, of each of its four copies, the table has the header that each slot is to have, and the list is what is to be mended
pub record IsSurveyMendable (layout : Layout) (image : Image) (s : Surveyed) : Type 0 where
  pub choice : IsChoiceOf image s.scanned.copies.found.chosen
  pub four : length s.scanned.copies.found.chosen.members ≡ 4
  pub table : s.scanned.rooms.log.headers ≡ headers_of layout image s.scanned.copies.found.content s.traces.tail.op
  pub mends : s.scanned.rooms.log.mends.items ≡ mends_of layout image s.scanned.copies.found.content s.traces.tail.op s.scanned.copies.found.chosen.members

-- of what a disk shows, where it tells that and its sectors are whole
abbrev pub TellsPlannedMends : Layout → Option Told → Surveyed → Type 0
TellsPlannedMends layout None s = Unit {0}
TellsPlannedMends layout (Some t) s = IsImage t.shown → IsSurveyMendable layout t.shown s
