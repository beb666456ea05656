-- What a replica keeps in memory of its file, and what that is in the words of the machine.
use Rattle.std.specs.{Prelude.{◌≡◌, ◌<◌, ◌≤◌, ◌+◌, ◌-◌, ◌%◌, ◌^◌, ℕ, Bool, true, List, [], ◌∷◌, length, map, slice_get, Option, Some, None}, List.{range_with_len}}
use Rattle.df_base.specs.declared.TheConstants.{GREATEST, HEADER}
use Rattle.df_format.specs.{Copies.{content_with}, Spelling.{IsCheck, no_checksum}, Super.{AreChecks}, SuperRules.{IsSecondSuper}, declared.header.Header.{Header}}
use Rattle.df_format.specs.declared.superblock.SuperFields.{SuperFields}
use Rattle.df_layout.specs.{declared.damage.Finding.{Finding}, declared.layout.Layout.{Layout}}
use Rattle.df_headers.specs.Ring.{IsHeaderTable}
use Rattle.df_journal.specs.Tail.{AreNumbered}
use Rattle.df_sessions.specs.{Requests.{sessions_of}, declared.session.Session.{Session}, Table.{Table}}
use Rattle.df_theory.specs.{Next.{MayAskInTurn}, Sessions.{Tracks}, Trailer.{IsCount, greatest_trailer}, Units.{Parts}, Shape.{Shape}}
use Rattle.df_theory.specs.Units
use Rattle.df_units.specs.Superblocks.{AreFieldsOf}
use Rattle.df_model.specs.{Blocks.{Blocks, sum_at}, Memory.{Course, Memory, memory_of}, Work.{Request, Tour, Work}}
use Rattle.df_checkpoint.specs.Below.{spell, parse_of, captured_parts, shape_as, content_of, layout_of, number_of}
use Rattle.df_grid.specs.{Grid.{GridState}, Table.{IsIdle}, Writes.{first_address, first_sum}}
use Rattle.df_rooms.specs.declared.file.DataFile.{DataFile}

-- what the running checkpoint captured, beside the blocks that the grid marks, and how far its trailer is written
pub record RunningState : Type 0 where
  pub op : ℕ
  pub op_checksum : List ℕ
  pub root : List ℕ
  pub sessions : List Session
  pub sequence : ℕ  -- of the superblock that ends it
  pub size : ℕ  -- bytes of its trailer's text
  pub blocks : ℕ  -- how many blocks the trailer has, and how many of them are written
  pub written : ℕ

pub record State : Type 0 where
  pub file : DataFile
  pub fields : SuperFields  -- what the superblock says
  pub root : List ℕ  -- what the durable checkpoint's trailer has as its root
  pub head : ℕ
  pub head_checksum : List ℕ
  pub replies : ℕ
  pub table : Table
  pub waiting : List (List ℕ)  -- the checksums of the prepares that wait for their replies, in order of op
  pub staged : List Request  -- what the next flush appends as one group, in order
  pub headers : List Header  -- what the header ring shows, or is to show once it is mended, slot by slot
  pub blocks : Blocks  -- what the grid holds
  pub running : Option RunningState
  pub tour : Tour
  pub findings : List Finding
  pub boot : ℕ  -- the boot in which units are made: 0 before the boot update, and then the superblock's
  pub live : Bool  -- whether calls may go on: not before the boot update, and not after a fault

-- ---- in the words of the machine

-- the checksum of a header of the ring
abbrev pub sum_of_header : Option Header → ℕ
sum_of_header None = 0
sum_of_header (Some h) = number_of h.checksum

-- that of the prepare with this op, by the header in its slot
abbrev pub prepare_sum : State → ℕ → ℕ
prepare_sum s op = sum_of_header (slice_get s.headers (op % s.file.layout.slots))

-- the checksum of a session's reply, where it is stored
abbrev pub reply_sum : Option (List ℕ) → Option ℕ
reply_sum None = None
reply_sum (Some check) = Some (number_of check)

abbrev pub stored_sum : Session → Option ℕ
stored_sum s = reply_sum s.reply

-- how a trailer of the file is spelled
abbrev pub spelling : DataFile → Parts → List ℕ
spelling file = spell (layout_of file.layout)

-- the text of the running checkpoint's trailer: of the grid's blocks those that are captured
abbrev pub captured_text : DataFile → Blocks → RunningState → List ℕ
captured_text file b r = spelling file (captured_parts r.root r.sessions (λ a. sum_at a b.captured))

abbrev pub course_of : DataFile → Blocks → RunningState → Course
course_of file b r = record {
  op = r.op;
  op_checksum = number_of r.op_checksum;
  root = r.root;
  text = captured_text file b r;
  count = length b.written;
  last = first_address b.written;
  last_checksum = first_sum b.written;
  left = b.left;
}

abbrev pub course_in : DataFile → Blocks → Option RunningState → Option Course
course_in file b None = None
course_in file b (Some r) = Some (course_of file b r)

abbrev pub memory : State → Memory
memory s = record {
  layout = layout_of s.file.layout;
  content = content_of (content_with s.fields);
  root = s.root;
  head = s.head;
  head_checksum = number_of s.head_checksum;
  replies = s.replies;
  sessions = sessions_of s.table.sessions;
  prepares = map (prepare_sum s) (range_with_len (s.fields.op + 1) (s.head - s.fields.op));
  stored = map stored_sum s.table.sessions;
  waiting = map number_of s.waiting;
  staged = s.staged;
  blocks = s.blocks;
  running = course_in s.file s.blocks s.running;
  tour = s.tour;
  findings = s.findings;
}

-- the shape of its file
abbrev pub shape : DataFile → Shape
shape file = shape_as file.version file.layout file.cluster file.named (parse_of (layout_of file.layout))

-- the replica stands for this state of the machine
abbrev pub Represents : State → Work → Type 0
Represents s w = memory s ≡ memory_of (shape s.file) (spelling s.file) w

-- the grid of the file with these blocks, whose trailer blocks are of this boot
abbrev pub grid_with : DataFile → (boot : ℕ) → Blocks → GridState
grid_with file boot b = record { layout = file.layout; cluster = file.cluster; boot = boot; blocks = b }

-- ---- by itself

-- each session's last request is a client's first or a later one
abbrev pub AreAsked : List Units.Session → Type 0
AreAsked ss = (k : ℕ) (s : Units.Session) → slice_get ss k ≡ Some s → 0 < s.request

-- it was begun after the superblock, of an op of the log, and ends with the next sequence
pub record IsBegunFrom (op number head captured next : ℕ) : Type 0 where
  pub op_from : op ≤ captured
  pub op_to : captured ≤ head
  pub sequence : (next ≡ number + 1) × (next ≤ GREATEST)

-- what it captured is an op's checksum, and a root and sessions for which a trailer has room
pub record IsContents (clients op : ℕ) (checksum kept : List ℕ) (taken : List Session) : Type 0 where
  pub parent : IsCheck checksum
  pub first : op ≡ 0 → checksum ≡ no_checksum
  pub root : length kept ≤ 1024
  pub sessions : length taken ≤ clients

-- its trailer's text is as long as it says, and fills this many blocks
pub record IsMeasured (file : DataFile) (text bytes blocks : ℕ) : Type 0 where
  pub size : bytes ≡ text
  pub fits : (0 < bytes) × (bytes ≤ greatest_trailer (layout_of file.layout))
  pub count : IsCount (file.layout.block_size - HEADER) bytes blocks
  pub few : blocks ≤ 70

-- of which this many are written, and the grid lists the others
pub record IsHalfway (b : Blocks) (blocks done : ℕ) : Type 0 where
  pub all : length b.written + length b.left ≡ blocks
  pub written : done ≡ length b.written

-- a running checkpoint goes with the superblock and the log that it was begun from, and with the blocks of the grid
pub record IsRunningCheckpoint (file : DataFile) (f : SuperFields) (head : ℕ) (b : Blocks) (r : RunningState) : Type 0 where
  pub begun : IsBegunFrom f.op f.sequence head r.op r.sequence
  pub open begun use *
  pub contents : IsContents file.layout.clients r.op r.op_checksum r.root r.sessions
  pub open contents use *
  pub trailer : IsMeasured file (length (captured_text file b r)) r.size r.blocks
  pub open trailer use *
  pub progress : IsHalfway b r.blocks r.written
  pub open progress use *

-- the running checkpoint, if there is one, is the grid's
abbrev pub IsCourse : DataFile → SuperFields → (head : ℕ) → Blocks → Option RunningState → Type 0
IsCourse file f head b None = IsIdle b
IsCourse file f head b (Some r) = IsRunningCheckpoint file f head b r

-- a superblock of a file of version 2: it has a boot, and names the prepare of its head and replies of sessions alone
pub record IsSecond (file : DataFile) (f : SuperFields) : Type 0 where
  pub rules : IsSecondSuper f
  pub of : AreFieldsOf file.layout file.cluster f
  pub names : AreChecks f.reply_checksums
  pub first_nonzero : f.first_nonzero ≡ None

-- after a boot update units are made in the superblock's boot
pub record IsBooted (made superblock : ℕ) : Type 0 where
  pub boot : made ≡ superblock
  pub some : 0 < made

-- a running checkpoint that captured the head as it is has that prepare's checksum
abbrev pub IsLevel : (head : ℕ) → (checksum : List ℕ) → Option RunningState → Type 0
IsLevel head checksum None = Unit {0}
IsLevel head checksum (Some r) = head ≡ r.op → checksum ≡ r.op_checksum

-- the file's superblock is one of its own, and so are the durable checkpoint's root and the header ring
pub record AreInFile (file : DataFile) (f : SuperFields) (kept : List ℕ) (headers : List Header) : Type 0 where
  pub cluster : file.cluster < 2 ^ 128
  pub version : f.version ≡ file.version
  pub second : IsSecond file f
  pub sequence : (0 < f.sequence) × (f.sequence ≤ GREATEST)
  pub root : length kept ≤ 1024
  pub ring : IsHeaderTable file.layout file.cluster headers

-- the log ends after its checkpoint's op, and within the ring
pub record EndsLog (slots op : ℕ) (op_checksum : List ℕ) (head : ℕ) (checksum : List ℕ) : Type 0 where
  pub parent : IsCheck checksum
  pub order : op ≤ head
  pub room : head ≤ op + slots
  pub head_to : head ≤ GREATEST
  pub first : head ≡ 0 → checksum ≡ no_checksum  -- the first prepare has no parent
  pub level : head ≡ op → checksum ≡ op_checksum  -- an empty tail ends with the checkpoint's prepare

-- at most eight of its prepares wait for their replies, each of them its client's last request
pub record AwaitsReplies (clients head replies : ℕ) (unanswered : List (List ℕ)) (table : Table) : Type 0 where
  pub waiting : replies + length unanswered ≡ head
  pub few : length unanswered ≤ 8
  pub places : table.max ≡ clients
  pub requests : AreNumbered table.sessions
  pub asked : AreAsked (sessions_of table.sessions)
  pub tracks : Tracks replies head (sessions_of table.sessions)

-- a staged request as sessions see the header of its prepare, with this op, where this many replies are stored
abbrev pub asker_of : (replies op : ℕ) → Request → Units.Header
asker_of replies op r = record { checksum = 0; parent = 0; client = r.client; op = op; request = r.request; mark = replies; checkpoint = 0; boot = 0; group = 0; group_last = 0 }

-- and all of them, from this op on
abbrev pub asks_of : (replies op : ℕ) → List Request → List Units.Message
asks_of replies op [] = []
asks_of replies op (r ∷ rs) = record { header = asker_of replies op r; body = [] } ∷ asks_of replies (op + 1) rs

-- a request that a prepare of the file can have
pub record IsRequest (layout : Layout) (r : Request) : Type 0 where
  pub client : (0 < r.client) × (r.client < 2 ^ 128)
  pub request : (0 < r.request) × (r.request ≤ GREATEST)
  pub fits : HEADER + length r.body ≤ layout.message_size

-- what is staged may be appended as one group: no more than eight prepares would wait, slots and ops are left for it, and each client asks in its turn
pub record Stages (layout : Layout) (op head replies : ℕ) (sessions : List Units.Session) (requests : List Request) : Type 0 where
  pub pipeline : head + length requests ≤ replies + 8
  pub behind : head + length requests ≤ op + layout.slots
  pub unspent : head + length requests ≤ GREATEST
  pub each : (i : ℕ) (r : Request) → slice_get requests i ≡ Some r → IsRequest layout r
  pub asks : MayAskInTurn layout.clients sessions (asks_of replies (head + 1) requests)

abbrev pub AreStaging : State → Type 0
AreStaging s = Stages s.file.layout s.fields.op s.head s.replies (sessions_of s.table.sessions) s.staged

-- the state makes sense by itself: its numbers are in their ranges, and its parts go together
pub record IsState (s : State) : Type 0 where
  pub in_file : AreInFile s.file s.fields s.root s.headers
  pub open in_file use *
  pub booted : s.live ≡ true → IsBooted s.boot s.fields.boot
  pub ends : EndsLog s.file.layout.slots s.fields.op s.fields.op_checksum s.head s.head_checksum
  pub open ends use *
  pub awaits : AwaitsReplies s.file.layout.clients s.head s.replies s.waiting s.table
  pub open awaits use *
  pub staging : AreStaging s
  pub captured : IsLevel s.head s.head_checksum s.running
  pub course : IsCourse s.file s.fields s.head s.blocks s.running
