-- The checkpoint that a superblock names, as an open reads it: what its trailer says, or why the trailer is refused.
use Rattle.std.specs.Prelude.{◌≡◌, ◌<◌, ℕ, List, Option, Some, None, Result, Ok, Err}
use Rattle.df_base.specs.Image.{Image}
use Rattle.df_disk.specs.Told.{Told}
use Rattle.df_layout.specs.declared.places.Zone.TheVariants.{Grid}
use Rattle.df_format.specs.{Own.{place_in}, declared.superblock.SuperFields.{SuperFields}}
use Rattle.df_sessions.specs.{Requests.{sessions_of}, declared.session.Session.{Session}}
use Rattle.df_theory.specs.{Units.{Block, BlockPlace, BlockUnit, Parts, Units}, Sessions.{Tracks}, Trailer.{InChain, IsTrailer}, View.{Checkpoint}}
use Rattle.df_model.specs.{Blocks.{Blocks}, declared.errors.OpenError.{OpenError}, declared.errors.OpenError.TheVariants.{BadField, Damaged, DiskFault}}
use Rattle.df_units.specs.{Bytes.{unit_at}, Meaning.{layout_of}}
use Rattle.df_journal.specs.Tail.{AreNumbered, AreUnstored}
use Rattle.df_grid.specs.Reads.{shown_of}
use Rattle.df_checkpoint.specs.{Chain.{IsLacking, content_in}, Reads.{blocks_read}, Tests.{FailsTest}}
use Rattle.df_rooms.specs.{State.{AreAsked, shape}, declared.file.DataFile.{DataFile}}

-- what is kept of a checkpoint: its root, its sessions, and what the grid holds
pub record Base : Type 0 where
  pub root : List ℕ
  pub sessions : List Session
  pub blocks : Blocks

-- the checkpoint of a superblock, with what its trailer is and says
abbrev pub base_of : SuperFields → List (ℕ × Block) → Parts → Checkpoint
base_of f chain parts = record { content = content_in f; chain = chain; parts = parts }

-- the trailer that the superblock names is shown and passes its tests, or there is none, and this is kept of it; each op that waits has its session
pub record HasCheckpoint (file : DataFile) (image : Units) (f : SuperFields) (base : Base) : Type 0 where
  pub chain : List (ℕ × Block)
  pub parts : Parts
  pub trailer : IsTrailer (shape file) (content_in f) chain parts
  pub shown : (a : ℕ) (b : Block) → InChain a b chain → image (BlockPlace a) ≡ Some (BlockUnit b)
  pub tracks : Tracks f.replies f.op parts.sessions
  pub root_is : base.root ≡ parts.root
  pub sessions_are : parts.sessions ≡ sessions_of base.sessions
  pub blocks_are : base.blocks ≡ blocks_read (layout_of file.layout) parts chain

-- the same before its waiting ops are tested: the trailer is shown and passes its tests of links, of the text and of its addresses, and this is kept of it
pub record HasText (file : DataFile) (image : Units) (f : SuperFields) (base : Base) : Type 0 where
  pub chain : List (ℕ × Block)
  pub parts : Parts
  pub trailer : IsTrailer (shape file) (content_in f) chain parts
  pub shown : (a : ℕ) (b : Block) → InChain a b chain → image (BlockPlace a) ≡ Some (BlockUnit b)
  pub root_is : base.root ≡ parts.root
  pub sessions_are : parts.sessions ≡ sessions_of base.sessions
  pub blocks_are : base.blocks ≡ blocks_read (layout_of file.layout) parts chain

-- of any disk, the sessions make sense by themselves, none has a stored reply, and each op that waits has its session
pub record AreOfCheckpoint (f : SuperFields) (sessions : List Session) : Type 0 where
  pub asked : AreAsked (sessions_of sessions)
  pub numbered : AreNumbered sessions
  pub unstored : AreUnstored sessions
  pub tracks : Tracks f.replies f.op (sessions_of sessions)

-- ---- why a trailer is refused

-- the refusal names the first block of the chain that isn't shown, or the first test that fails
abbrev pub RefusesTrailer : DataFile → Image → SuperFields → OpenError → Type 0
RefusesTrailer file image f (Damaged place class) = (0 < f.trailer_address) × (a : ℕ) × (place ≡ place_in Grid a) × IsLacking (shape file) (shown_of file.layout file.cluster image) (content_in f) a class
RefusesTrailer file image f (BadField field value) = (0 < f.trailer_address) × FailsTest (shape file) (shown_of file.layout file.cluster image) (content_in f) field value
RefusesTrailer file image f DiskFault = Unit {0}
RefusesTrailer file image f e = ⊥

-- so it is of what a disk shows, where it tells that
abbrev pub TellsCheckpoint : DataFile → Option Told → SuperFields → Result Base OpenError → Type 0
TellsCheckpoint file None f result = Unit {0}
TellsCheckpoint file (Some t) f (Ok base) = HasCheckpoint file (unit_at file.layout file.cluster t.shown) f base
TellsCheckpoint file (Some t) f (Err e) = RefusesTrailer file t.shown f e

-- and so it is of its text
abbrev pub TellsText : DataFile → Option Told → SuperFields → Base → Type 0
TellsText file None f base = Unit {0}
TellsText file (Some t) f base = HasText file (unit_at file.layout file.cluster t.shown) f base
