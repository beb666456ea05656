-- What an open reads of a file before it finds the state: the superblock, whether the rooms serve its file, the trailer, and what the rings and the reply slots show.
use Rattle.std.specs.Prelude.{◌≡◌, ℕ, List, Option, Some, None, Result, Ok, Err}
use Rattle.df_base.specs.Image.{Image, IsImage}
use Rattle.df_disk.specs.Told.{Told}
use Rattle.df_layout.specs.{declared.damage.Class.{Class}, declared.layout.Layout.{Layout}}
use Rattle.df_format.specs.{declared.header.Header.{Header}, declared.superblock.SuperFields.{SuperFields}}
use Rattle.df_journal.specs.{Scan.{Scan}, Starting.{start_of}}
use Rattle.df_journal.specs.Scanned
use Rattle.df_model.specs.declared.errors.OpenError.{OpenError}
use Rattle.df_replies.specs.Shown
use Rattle.df_recovery.specs.{Found.{IsFoundAs}, Opening.{IsLayoutOf}, Surveys.{SurveysAs}, declared.superblock.Found.{Found}, declared.scanning.Copies.{Copies}, declared.scanned.Scanned.{Scanned}}
use Rattle.df_recovery.specs.{declared.checkpoint.Checkpoint.{Checkpoint}, Checkpoints.{AreOfCheckpoint, Base, TellsCheckpoint, TellsText}}
use Rattle.df_superblock.specs.Calls.{ShowsCopies, ShowsSlots}
use Rattle.df_trailer.specs.Sessions.{AreReadSessions}
use Rattle.df_grid.specs.{Grid.{GridState}, Table.{IsIdle, no_blocks}}
use Rattle.df_rooms.specs.{declared.file.DataFile.{DataFile}, declared.file_rooms.FileRooms.{FileRooms}}

-- the rooms of a layout serve the file of a superblock: it is of their layout
pub record IsServed (layout : Layout) (f : SuperFields) : Type 0 where
  pub layout_is : IsLayoutOf layout f

-- what the image answers so far, where the version is asked for: the superblock, or, of whole sectors, the survey's refusal
abbrev pub ReadsAs : {T : Type 0} → ℕ → (T → Found) → Layout → Image → Result T OpenError → Type 0
ReadsAs version found layout image (Ok x) = IsFoundAs version image (found x)
ReadsAs version found layout image (Err e) = IsImage image → SurveysAs version layout image (Err e)

abbrev pub TellsReadAs : {T : Type 0} → ℕ → (T → Found) → Layout → Option Told → Result T OpenError → Type 0
TellsReadAs version found layout None result = Unit {0}
TellsReadAs version found layout (Some t) result = ReadsAs version found layout t.shown result

-- what the rings and the reply slots show, where the disk tells it
pub record AreScanned (layout : Layout) (cluster : ℕ) (told : Option Told) (slots : Scan) (replies : List (Result Header Class)) : Type 0 where
  pub rings : Scanned.IsScanned layout told slots
  pub replies_are : Shown.AreRepliesScanned layout cluster told replies

-- the answer without the rooms that come back with a refusal
abbrev pub without_rooms : {T R E : Type 0} → Result T (R × E) → Result T E
without_rooms (Ok x) = Ok x
without_rooms (Err refused) = Err refused.1

-- ---- the superblock

-- four places were read, and the fields that passed their tests are those of the choice
pub record AreCopies (version : ℕ) (told : Option Told) (copies : Copies) : Type 0 where
  -- the choice has these fields
  pub same_fields : copies.found.content ≡ copies.found.chosen.content
  -- they are of the version that is asked for, whatever the disk tells
  pub version_is : copies.found.content.version ≡ version
  -- each slot is what its place shows
  pub slots : ShowsSlots told copies.slots
  -- a sound copy has the content that its place shows
  pub shown : ShowsCopies told copies.slots

-- ---- the checkpoint

-- what was read of a checkpoint, with the blocks that the grid holds
abbrev pub base_in : GridState → Checkpoint → Base
base_in g c = record { root = c.root.items; sessions = c.sessions.sessions; blocks = g.blocks }

-- and of all that was read
abbrev pub base_scanned : Scanned → Base
base_scanned s = record { root = s.root.items; sessions = s.sessions.sessions; blocks = s.rooms.grid.blocks }

-- the grid of a file in which no address is held, before a boot is set
abbrev pub empty_grid : DataFile → GridState
empty_grid file = record { layout = file.layout; cluster = file.cluster; boot = 0; blocks = no_blocks }

-- the grid is the file's and empty, and the rooms beside it serve the file
pub record AreRoomsOf (file : DataFile) (grid : GridState) (rooms : Layout) : Type 0 where
  pub grid_is : grid ≡ empty_grid file
  pub rooms_are : rooms ≡ file.layout

-- so they do whatever was read; no checkpoint runs, and no boot is set
pub record FitsFile (file : DataFile) (grid : GridState) (rooms : Layout) : Type 0 where
  pub layout_is : grid.layout ≡ file.layout
  pub cluster_is : grid.cluster ≡ file.cluster
  pub boot_is : grid.boot ≡ 0
  pub idle : IsIdle grid.blocks
  pub rooms_are : rooms ≡ file.layout

-- the text of the trailer that a superblock names was read
pub record IsText (file : DataFile) (told : Option Told) (f : SuperFields) (g : GridState) (c : Checkpoint) : Type 0 where
  -- it is the one that the disk shows
  pub tells : TellsText file told f (base_in g c)
  -- whatever the disk tells, the sessions are in their ranges, and no two are one
  pub sessions : AreReadSessions file.layout.clients f.op c.sessions.sessions
  -- there are as many places for them as the file has clients
  pub places : c.sessions.max ≡ file.layout.clients

-- the checkpoint of a superblock was read
pub record IsCheckpoint (file : DataFile) (told : Option Told) (f : SuperFields) (g : GridState) (c : Checkpoint) : Type 0 where
  -- it is the one that the disk shows
  pub tells : TellsCheckpoint file told f (Ok (base_in g c))
  -- whatever the disk tells, the sessions make sense
  pub sessions : AreOfCheckpoint f c.sessions.sessions
  -- there are as many places for them as the file has clients
  pub places : c.sessions.max ≡ file.layout.clients

-- or it wasn't: the disk failed, or the trailer is refused
abbrev pub ReadsText : DataFile → Option Told → SuperFields → GridState → Result Checkpoint OpenError → Type 0
ReadsText file told f g (Ok c) = IsText file told f g c
ReadsText file told f g (Err e) = TellsCheckpoint file told f (Err e)

abbrev pub ReadsCheckpoint : DataFile → Option Told → SuperFields → GridState → Result Checkpoint OpenError → Type 0
ReadsCheckpoint file told f g (Ok c) = IsCheckpoint file told f g c
ReadsCheckpoint file told f g (Err e) = TellsCheckpoint file told f (Err e)

-- what stands after a superblock was read into the rooms of its file
pub record IsReadAfter (file : DataFile) (told : Option Told) (f : SuperFields) (rooms : FileRooms) (c : Checkpoint) : Type 0 where
  -- the checkpoint
  pub checkpoint : IsCheckpoint file told f rooms.grid c
  -- the scan started after the superblock
  pub start : rooms.log.slots.start ≡ start_of f
  -- the tables have what the rings and the reply slots show
  pub tables : AreScanned file.layout f.cluster told rooms.log.slots rooms.log.replies

abbrev pub ReadsBehind : DataFile → Option Told → SuperFields → FileRooms → Result Checkpoint OpenError → Type 0
ReadsBehind file told f rooms (Ok c) = IsReadAfter file told f rooms c
ReadsBehind file told f rooms (Err e) = TellsCheckpoint file told f (Err e)

-- ---- the whole file

-- the file has the layout, and its superblock's cluster and version
pub record IsFileOf (layout : Layout) (f : SuperFields) (file : DataFile) : Type 0 where
  pub layout_is : file.layout ≡ layout
  pub cluster_is : file.cluster ≡ f.cluster
  pub version_is : file.version ≡ f.version

-- what stands after the superblock was read into rooms of a layout
pub record IsReadBehind (layout : Layout) (told : Option Told) (s : Scanned) : Type 0 where
  -- the file has that layout, and the superblock's cluster
  pub file : IsFileOf layout s.copies.found.content s.file
  -- the checkpoint is the one that the superblock names
  pub checkpoint : TellsCheckpoint s.file told s.copies.found.content (Ok (base_scanned s))
  -- whatever the disk tells, its sessions make sense
  pub sessions : AreOfCheckpoint s.copies.found.content s.sessions.sessions
  -- there are as many places for them as the layout has clients
  pub places : s.sessions.max ≡ layout.clients
  -- no checkpoint runs
  pub idle : IsIdle s.rooms.grid.blocks
  -- the scan started after the superblock
  pub start : s.rooms.log.slots.start ≡ start_of s.copies.found.content
  -- the tables have what the rings and the reply slots show
  pub tables : AreScanned layout s.copies.found.content.cluster told s.rooms.log.slots s.rooms.log.replies

-- a file of the version that is asked for was read into rooms of a layout
pub record IsScanAs (version : ℕ) (layout : Layout) (told : Option Told) (s : Scanned) : Type 0 where
  -- the places of its superblock were read
  pub copies : AreCopies version told s.copies
  -- the rooms are of its layout
  pub served : IsServed layout s.copies.found.content
  -- and so was what stands after the superblock
  pub behind : IsReadBehind layout told s

-- ---- where version 2 is asked for, as an open does

abbrev pub IsFileScan : Layout → Option Told → Scanned → Type 0
IsFileScan layout told s = IsScanAs 2 layout told s
