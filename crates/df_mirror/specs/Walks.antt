-- What each walk has come to: how far the chain is read, which blocks and prepares are shown, and the sessions at the superblock's head.
use Rattle.std.specs.Prelude.{◌≡◌, ◌+◌, ◌<◌, ◌≤◌, ℕ, List, length, map, take, Some, Result, Ok, Err, IfOk, OnOk}
use Rattle.df_base.specs.Image.{Image}
use Rattle.df_disk.specs.Told.{Told}
use Rattle.df_format.specs.declared.kind.Kind.TheVariants.{Block as AsBlock, Prepare, Reply, Trailer}
use Rattle.df_layout.specs.declared.fields.Field.TheVariants.{TrailerChain}
use Rattle.df_model.specs.{Blocks.{sum_at}, declared.errors.OpenError.TheVariants.{BadField}}
use Rattle.df_theory.specs.{Opens.{AreKnown, AreLinks, Arrives, named_by}, Sessions.{Has}, Units.{Block, BlockPlace, Content, Message, PreparePlace, PrepareUnit, ReplyPlace, Units}}
use Rattle.df_theory.specs.Units
use Rattle.df_units.specs.Meaning.{number_of}
use Rattle.df_sessions.specs.{declared.session.Session.{Session}, Requests.{sessions_of}, Table.{Table}}
use Rattle.df_journal.specs.{Scan.{Scan}, Shows.{TellsRings}}
use Rattle.df_grid.specs.Grid.{GridState}
use Rattle.df_checkpoint.specs.Chain.{content_in}
use Rattle.df_opening.specs.Below.{shape}
use Rattle.df_mirror.specs.{declared.trailer.Walk.{Walk}, declared.ending.Ending.{Ending}, declared.ending.Ending.TheVariants.{First, Unopened}, declared.superblock.Superblock.{Superblock}}
use Rattle.df_mirror.specs.{declared.trailer.Text.{Text}, Known.{AllShown, AreShown, HasSessions, IsRecordedReply, IsShownAs, PassesTrailer, ShowsTrailer}, Mends.{AnswersMending, Mend, units_shown}}
use Rattle.df_mirror.specs.{Outside.{Outside}, Refusals.{RefusesFirstTrailer}}

-- what the superblock says, in the words of the theory
abbrev pub content_of_superblock : Superblock → Content
content_of_superblock b = content_in b.content

-- what an image of its file shows
abbrev pub superblock_units : Superblock → Image → Units
superblock_units b image = units_shown b.file image

-- What a walk or a part of it does: units are mended, of such a kind or in such an order; and where it ends well, this is shown then.
pub record Mended (b : Superblock) (Of : List Mend → Type 0) (t o : Told) (old new : Outside) (answer : Result ℕ Ending) (Shows : Units → Type 0) : Type 0 where
  pub answers : AnswersMending b.file (content_of_superblock b) Of t o new.first old.written new.written answer
  pub shown : (u : Told) → new.first ≡ Some u → OnOk answer (Shows (superblock_units b u.shown))

-- the address is one of the grid
abbrev pub IsInsideGrid : Superblock → ℕ → Type 0
IsInsideGrid b a = (1 ≤ a) × (a ≤ b.file.layout.blocks)

-- of n blocks that are wanted the last ones are shown as the chain asks for them, and this one is wanted next
pub record HasWalkedChain (b : Superblock) (image : Units) (n : ℕ) (walk : Walk) : Type 0 where
  pub chain : List (ℕ × Block)
  pub addresses : map (λ r. r.address) walk.read.items ≡ map (λ x. x.0) chain
  pub arrives : Arrives image chain (content_of_superblock b).trailer (content_of_superblock b).trailer_checksum walk.at.address (number_of walk.at.checksum)
  pub links : AreLinks (shape b.file) (content_of_superblock b) n chain

-- a block of the trailer that isn't a link, or stands where another one does
abbrev pub broken_at : ℕ → Ending
broken_at address = Unopened (BadField TrailerChain address)

-- what refuses the trailer is such a block, and nothing else
abbrev pub IsOfChain : Ending → Type 0
IsOfChain (Unopened e) = (address : ℕ) × (e ≡ BadField TrailerChain address)
IsOfChain e = Unit {0}

-- how many were mended, beside the walk
abbrev pub counted_in : Result (Walk × ℕ) Ending → Result ℕ Ending
counted_in (Ok done) = Ok done.1
counted_in (Err e) = Err e

-- the walk goes on, where the link is mended
abbrev pub WalksTo : Superblock → ℕ → Result (Walk × ℕ) Ending → Units → Type 0
WalksTo b n result image = IfOk result (λ done. HasWalkedChain b image n done.0)

-- ---- the trailer

-- the trailer is shown whole, its references are what the grid has as live blocks, and its sessions are these
pub record HasTrailerText (b : Superblock) (image : Units) (grid : GridState) (sessions : List Session) : Type 0 where
  pub says : ShowsTrailer (shape b.file) image (content_of_superblock b)
  pub inside : (a sum : ℕ) → says.parts.references a ≡ Some sum → IsInsideGrid b a
  pub live : (a : ℕ) → sum_at a grid.blocks.live ≡ says.parts.references a
  pub sessions_are : says.parts.sessions ≡ sessions_of sessions

-- each op that waits for its reply is that of one of these sessions
abbrev pub HasWaiting : Superblock → List Session → Type 0
HasWaiting b sessions = (n : ℕ) → b.content.replies < n → n ≤ b.content.op → Has (sessions_of sessions) n

-- what the reading answers, where each block that is wanted is shown
abbrev pub ReadsChainText : Superblock → Image → Result Text Ending → Type 0
ReadsChainText b image (Ok text) = HasTrailerText b (superblock_units b image) text.grid text.sessions.sessions × HasWaiting b text.sessions.sessions
ReadsChainText b image (Err (Unopened e)) = RefusesFirstTrailer b.file image (content_of_superblock b) e
ReadsChainText b image (Err First) = Unit {0}
ReadsChainText b image (Err e) = ⊥

-- ---- the blocks that it references

-- the trailer isn't refused, and those up to this address are shown
pub record ShowsBlocks (b : Superblock) (image : Units) (grid : GridState) (sessions : List Session) (to : ℕ) : Type 0 where
  pub has : HasTrailerText b image grid sessions
  pub waiting : HasWaiting b sessions
  pub shown : (a sum : ℕ) → a ≤ to → sum_at a grid.blocks.live ≡ Some sum → IsShownAs image AsBlock (BlockPlace a) sum

-- the blocks of the trailer are shown, it isn't refused, and the blocks that it references are shown
pub record ShowsGrid (b : Superblock) (image : Units) : Type 0 where
  pub trailer : AreShown (shape b.file) image (content_of_superblock b) Trailer
  pub passes : PassesTrailer (shape b.file) image (content_of_superblock b)
  pub blocks : AreShown (shape b.file) image (content_of_superblock b) AsBlock

-- ---- the prepares

-- all prepares above this op that the superblock names are shown as they are named, and this is the checksum of the one with the op; and so are the known blocks
pub record NamesPreparesFrom (b : Superblock) (image : Units) (op sum : ℕ) : Type 0 where
  pub grid : ShowsGrid b image
  pub later : List Message
  pub known : AreKnown b.file.layout.slots image (op + 1) (content_of_superblock b).pin_checksum later
  pub count : op + length later ≡ (content_of_superblock b).pin
  pub sum_is : sum ≡ named_by (content_of_superblock b).pin_checksum later

-- all of them are
pub record ShowsNamed (b : Superblock) (image : Units) : Type 0 where
  pub named : List Message
  pub known : AreKnown b.file.layout.slots image (b.content.op + 1) (content_of_superblock b).pin_checksum named
  pub count : b.content.op + length named ≡ (content_of_superblock b).pin

-- ---- the replies

-- the table of slots says what the rings of the image show, and the table of sessions has those at the superblock's head, as many as there are places for; the known blocks are shown
pub record HasHead (b : Superblock) (image : Units) (slots : Scan) (table : Table) : Type 0 where
  pub grid : ShowsGrid b image
  pub tells : TellsRings b.file.layout image slots
  pub sessions : List Units.Session
  pub has : HasSessions (shape b.file) image (content_of_superblock b) sessions
  pub places : table.max ≡ b.file.layout.clients
  pub table_is : sessions_of table.sessions ≡ take b.file.layout.clients sessions

-- the known replies at the places below this one are shown
pub record ShowsKnownReplies (b : Superblock) (image : Units) (slots : Scan) (table : Table) (to : ℕ) : Type 0 where
  pub has : HasHead b image slots table
  pub shown : (k sum : ℕ) → k < to → IsRecordedReply (shape b.file) image (content_of_superblock b) k sum → IsShownAs image Reply (ReplyPlace k) sum

-- a prepare of the superblock's boot above its head, of this client
pub record IsLater (b : Superblock) (client : ℕ) (p : Message) : Type 0 where
  pub boot : p.header.boot ≡ (content_of_superblock b).boot
  pub above : (content_of_superblock b).pin < p.header.op
  pub of_client : p.header.client ≡ client

-- the ring shows one
abbrev pub HasLater : Superblock → Units → ℕ → Type 0
HasLater b image client = (s : ℕ) × (p : Message) × (image (PreparePlace s) ≡ Some (PrepareUnit p)) × IsLater b client p

-- ---- both

-- the prepares and the replies that are known are shown, and the grid is as it was
pub record ShowsLog (b : Superblock) (image now : Units) : Type 0 where
  pub blocks : (a : ℕ) → now (BlockPlace a) ≡ image (BlockPlace a)
  pub prepares : AreShown (shape b.file) now (content_of_superblock b) Prepare
  pub replies : AreShown (shape b.file) now (content_of_superblock b) Reply

-- all known units are shown, and the trailer passes the tests of an open
pub record ShowsAll (b : Superblock) (image : Units) : Type 0 where
  pub all : AllShown (shape b.file) image (content_of_superblock b)
  pub trailer : PassesTrailer (shape b.file) image (content_of_superblock b)
