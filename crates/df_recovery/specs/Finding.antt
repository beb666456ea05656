-- What an open finds after a superblock, by what a scan saw of the slots and of the replies: the state, or the first damage in the order of open.
use Rattle.std.specs.{Prelude.{◌≡◌, ◌+◌, ◌-◌, ◌<◌, ◌≤◌, ℕ, Bool, nat_le, if◌then◌else◌, List, [], length, map, slice_get, position, Option, Some, None, Result, Ok, Err}, List.{range_with_len}}
use Rattle.df_base.specs.{declared.TheConstants.{GREATEST}, Image.{IsImage}}
use Rattle.df_disk.specs.Told.{Told}
use Rattle.df_layout.specs.{declared.damage.Class.{Class}, declared.layout.Layout.{Layout}, declared.places.Place.{Place}}
use Rattle.df_format.specs.{declared.header.Header.{Header}, Copies.{content_with}}
use Rattle.df_sessions.specs.{declared.session.Session.{Session}, Requests.{sessions_of}}
use Rattle.df_theory.specs.Units
use Rattle.df_theory.specs.Found
use Rattle.df_theory.specs.{Opens.{BootSpent as NoBoot, Damaged as Damages, IsLowest, IsReadable, Opens, Refusal, Refused}, MendLaws.{IsSlotHeader}, Shape.{Shape, clients, slots}}
use Rattle.df_theory.specs.{Tails.{last_checksum}, View.{Checkpoint, View, boot_of, head, sessions}}
use Rattle.df_model.specs.Memory
use Rattle.df_model.specs.{Work.{first_tour, opened}, declared.errors.OpenError.{OpenError}, declared.errors.OpenError.TheVariants.{BootSpent, Damaged}}
use Rattle.df_units.specs.{Bytes.{unit_at}, Meaning.{content_of, header_of, layout_of, number_of, place_of}}
use Rattle.df_journal.specs.{Scan.{Scan}, Shows.{TellsRings}, Tail.{AreUnstored, EndsAt}, Starting.{start_of}}
use Rattle.df_journal.specs.Scanned as rings
use Rattle.df_replies.specs.Shown
use Rattle.df_replies.specs.Shown.{ShowsReplies}
use Rattle.df_rooms.specs.{State.{Represents, State, shape, stored_sum}, declared.file.DataFile.{DataFile}}
use Rattle.df_checkpoint.specs.Reads.{blocks_read}
use Rattle.df_recovery.specs.{Checkpoints.{Base, HasCheckpoint, base_of}, Waiting.{waiting_in, waiting_sum}, Found.{IsChoiceOf}, Surveys.{HasFile, SurveysAs, class_there}}
use Rattle.df_recovery.specs.{declared.superblock.Found.{Found}, declared.finding.Traces.{Traces}, declared.scanned.Scanned.{Scanned}}

abbrev pub or_first : Option ℕ → ℕ
or_first None = 0
or_first (Some number) = number

-- the number of the lowest copy that is a member
abbrev pub lowest_of : List Bool → ℕ
lowest_of members = or_first (position (λ member. member) members)

-- the refusal that names a place of the theory
abbrev pub damage : Units.Place → Class → OpenError
damage at class = Damaged (place_of at) class

-- the refusal is by what stands after the superblock and its trailer: it names a place, or the boot is spent
abbrev pub IsDamage : OpenError → Type 0
IsDamage (Damaged place class) = Unit {0}
IsDamage BootSpent = Unit {0}
IsDamage e = ⊥

-- what an open has read: the superblock, what a scan saw of the slots and of the replies, and the sessions of the checkpoint
pub record Read : Type 0 where
  pub layout : Layout
  pub found : Found
  pub slots : Scan
  pub replies : List (Result Header Class)
  pub sessions : List Session

-- of a file that was scanned
abbrev pub read_of : Scanned → Read
read_of s = record { layout = s.file.layout; found = s.copies.found; slots = s.rooms.log.slots; replies = s.rooms.log.replies; sessions = s.sessions.sessions }

-- it was read from an image with this checkpoint: the superblock names it and can be used
pub record IsReadFrom (sh : Shape) (image : Units.Units) (b : Checkpoint) (read : Read) : Type 0 where
  pub tells : TellsRings read.layout image read.slots
  pub shows : ShowsReplies image read.replies
  pub slots_are : slots sh ≡ read.layout.slots
  pub clients_are : clients sh ≡ read.layout.clients
  pub content_is : b.content ≡ content_of (content_with read.found.content)
  pub readable : IsReadable sh image b
  pub lowest_is : IsLowest image b.content (lowest_of read.found.chosen.members)
  pub sessions_are : b.parts.sessions ≡ sessions_of read.sessions

-- of a disk, what a scan saw
pub record IsScannedFrom (t : Told) (read : Read) : Type 0 where
  pub slots : rings.IsScanned read.layout (Some t) read.slots
  pub replies : Shown.AreRepliesScanned read.layout read.slots.start.cluster (Some t) read.replies

-- the image's state is a view that ends so, with these sessions, and its boot can be raised
pub record FindsView (sh : Shape) (image : Units.Units) (b : Checkpoint) (traces : Traces) (sessions : List Session) : Type 0 where
  pub view : View
  pub checkpoint : view.checkpoint ≡ b
  pub ends : EndsAt b view.tail traces.tail sessions
  pub replies : view.replies ≡ traces.replies
  pub found : Found.IsFound sh image view
  pub unspent : boot_of view < GREATEST

-- of each image that was read the open ends so, by the theory
abbrev pub EachOpens : Read → Refusal → Type 0
EachOpens read refusal = (sh : Shape) (image : Units.Units) (b : Checkpoint) → IsReadFrom sh image b read → Opens sh image (Refused refusal)

-- the open ends with this place: of each image that was read the theory blames it, and of a disk that was scanned the class is what stands there
pub record IsDamagedAt (read : Read) (place : Place) (class : Class) : Type 0 where
  pub at : Units.Place
  pub place_is : place ≡ place_of at
  pub opens : EachOpens read (Damages at)
  pub class_is : (t : Told) → IsScannedFrom t read → class ≡ class_there read.layout read.slots.start.cluster t.shown at

-- the open ends with this refusal
abbrev pub IsRefusedOpen : Read → OpenError → Type 0
IsRefusedOpen read (Damaged place class) = IsDamagedAt read place class
IsRefusedOpen read BootSpent = EachOpens read NoBoot
IsRefusedOpen read e = ⊥

-- the answer, with the sessions after the tail
abbrev pub AnswersFinding : Read → Result Traces OpenError → List Session → Type 0
AnswersFinding read (Ok traces) sessions = (sh : Shape) (image : Units.Units) (b : Checkpoint) → IsReadFrom sh image b read → FindsView sh image b traces sessions
AnswersFinding read (Err e) sessions = IsRefusedOpen read e

-- ---- the state in memory

-- nothing is staged, no checkpoint runs, the tour is at its start, and there is no finding
pub record IsStarting (s : State) : Type 0 where
  pub staged : s.staged ≡ []
  pub running : s.running ≡ None
  pub tour : s.tour ≡ first_tour
  pub findings : s.findings ≡ []

-- what a state keeps of a view in this image, before anything is done with it: the header table says what each header is to be
pub record StateKeepsView (sh : Shape) (image : Units.Units) (v : View) (s : State) : Type 0 where
  pub content : v.checkpoint.content ≡ content_of (content_with s.fields)
  pub root_is : s.root ≡ v.checkpoint.parts.root
  pub blocks_are : s.blocks ≡ blocks_read (layout_of s.file.layout) v.checkpoint.parts v.checkpoint.chain
  pub head_is : s.head ≡ head v
  pub head_checksum : number_of s.head_checksum ≡ last_checksum v.checkpoint.content.op_checksum v.tail
  pub replies : s.replies ≡ v.replies
  pub sessions_are : sessions_of s.table.sessions ≡ sessions v
  pub stored : (k : ℕ) (t : Session) → slice_get s.table.sessions k ≡ Some t → stored_sum t ≡ Memory.stored_sum (v.stored k)
  pub count : length s.headers ≡ s.file.layout.slots
  pub headers : (slot : ℕ) (h : Header) → slice_get s.headers slot ≡ Some h → IsSlotHeader sh image v slot (header_of h)
  pub waiting : map number_of s.waiting ≡ map (waiting_sum s image) (range_with_len (s.replies + 1) (s.head - s.replies))
  pub starts : IsStarting s

-- such a state stands for what the machine begins with from the view that an open finds
abbrev pub StateIsOpened : Type 0
StateIsOpened =
    (image : Units.Units) (v : View) (s : State) → Found.IsFound (shape s.file) image v → StateKeepsView (shape s.file) image v s → Represents s (opened (shape s.file) image v)

-- ---- of a file

-- what was read is of a file: its superblock with the members of the choice, the slots and the replies as they were scanned, and this of its checkpoint
pub record IsOfFile (t : Told) (file : DataFile) (read : Read) (base : Base) : Type 0 where
  pub image : IsImage t.shown
  pub has : HasFile t.shown file read.found.content
  pub choice : IsChoiceOf t.shown read.found.chosen
  pub chosen_is : read.found.content ≡ read.found.chosen.content
  pub layout : read.layout ≡ file.layout
  pub cluster : read.slots.start.cluster ≡ file.cluster
  pub start : read.slots.start ≡ start_of read.found.content
  pub scanned : IsScannedFrom t read
  pub checkpoint : HasCheckpoint file (unit_at file.layout file.cluster t.shown) read.found.content base
  pub sessions : base.sessions ≡ read.sessions

-- it was read from the image in the theory's words
abbrev pub FileIsRead : Type 0
FileIsRead =
    (t : Told) (file : DataFile) (read : Read) (base : Base) (is : IsOfFile t file read base)
    → IsReadFrom (shape file) (unit_at file.layout file.cluster t.shown) (base_of read.found.content is.checkpoint.chain is.checkpoint.parts) read

-- so a refusal is the answer to an open
abbrev pub RefusedIsAnswer : Type 0
RefusedIsAnswer = (t : Told) (file : DataFile) (read : Read) (base : Base) (e : OpenError) → IsOfFile t file read base → IsRefusedOpen read e → SurveysAs file.version file.layout t.shown (Err e)

-- ---- the stored replies

-- the checksum of the reply to a session whose op is at most n, by what its slot shows
abbrev pub reply_in : ℕ → Session → Option (Result Header Class) → Option (List ℕ)
reply_in n s (Some (Ok h)) = if nat_le s.op n then Some h.checksum else s.reply
reply_in n s (Some (Err class)) = s.reply
reply_in n s None = s.reply

abbrev pub with_stored : ℕ → Option (Result Header Class) → Session → Session
with_stored n shown s = record s { reply = reply_in n s shown }

-- each of the first count sessions has the checksum of its reply, and the others are as they were
pub record StoresTo (n : ℕ) (replies : List (Result Header Class)) (count : ℕ) (before after : List Session) : Type 0 where
  pub stored : (k : ℕ) (s : Session) → k < count → slice_get before k ≡ Some s → slice_get after k ≡ Some (with_stored n (slice_get replies k) s)
  pub others : (k : ℕ) → count ≤ k → slice_get after k ≡ slice_get before k
  pub requests : sessions_of after ≡ sessions_of before

-- then each session has the checksum of the reply that counts as stored
abbrev pub StoredIsKept : Type 0
StoredIsKept =
    (image : Units.Units) (v : View) (replies : List (Result Header Class)) (before after : List Session) → ShowsReplies image replies → Found.IsStored image v → sessions_of before ≡ sessions v → AreUnstored before
    → StoresTo v.replies replies (length before) before after → (k : ℕ) (t : Session) → slice_get after k ≡ Some t → stored_sum t ≡ Memory.stored_sum (v.stored k)

-- ---- the answer

-- what a state keeps of the traces that are found, and of the sessions after the tail
pub record KeepsTraces (read : Read) (traces : Traces) (after : List Session) (s : State) : Type 0 where
  pub fields : s.fields ≡ read.found.content
  pub head_is : s.head ≡ traces.tail.op
  pub head_checksum : s.head_checksum ≡ traces.tail.checksum
  pub replies : s.replies ≡ traces.replies
  pub unstored : AreUnstored after
  pub stored : StoresTo traces.replies read.replies (length after) after s.table.sessions
  pub count : length s.headers ≡ s.file.layout.slots
  pub waiting : s.waiting ≡ waiting_in s.file.layout.slots read.slots s.headers s.replies s.head
  pub starts : IsStarting s

-- the header table says what each header is to be, of whatever view is found
abbrev pub HasHeaders : Units.Units → State → Type 0
HasHeaders image s = (v : View) → Found.IsFound (shape s.file) image v → (slot : ℕ) (h : Header) → slice_get s.headers slot ≡ Some h → IsSlotHeader (shape s.file) image v slot (header_of h)

-- of the checkpoint it keeps root and blocks, beside these sessions
abbrev pub base_with : State → List Session → Base
base_with s sessions = record { root = s.root; sessions = sessions; blocks = s.blocks }

-- such a state is the answer to an open
abbrev pub KeptIsAnswer : Type 0
KeptIsAnswer =
    (t : Told) (read : Read) (traces : Traces) (after : List Session) (s : State) → IsOfFile t s.file read (base_with s read.sessions) → AnswersFinding read (Ok traces) after → KeepsTraces read traces after s
    → HasHeaders (unit_at s.file.layout s.file.cluster t.shown) s → SurveysAs s.file.version s.file.layout t.shown (Ok s)
