-- What a read lends, whatever the disk shows as it reads: what was written there.
use Rattle.std.specs.{Prelude.{◌≡◌, ◌%◌, ℕ, Option, Some, None, Result, Ok, Err}, List.{slice_get}}
use Rattle.df_base.specs.{Log.{Log, Sync, add}, Moments.{Extends}}
use Rattle.df_disk.specs.Told.{Told}
use Rattle.df_opening.specs.Below.{FindsHad, IsTheOne, WasWritten, DataFile, Represents, State, memory, shape, spelling}
use Rattle.df_model.specs.{Blocks.{sum_at}, Commands.{Answer, Command, Given, ReadBlock, ReadPrepare, ReadReply, ToReadBlock, ToReadPrepare, ToReadReply}, Memory.{prepare_sum, reply_sum}}
use Rattle.df_model.specs.{Sense.{IsWork}, Work.{Work, kept, opened, raised}}
use Rattle.df_theory.specs.{Device.{NoChanceOf, units_log}, Sessions.{Answers}, Tails.{In}}
use Rattle.df_theory.specs.{Units.{Block, BlockPlace, BlockUnit, Content, Message, PreparePlace, PrepareUnit, ReplyPlace, ReplyUnit, Session}, View.{View, sessions}}
use Rattle.df_units.specs.Bytes.{unit_at}
use Rattle.df_replica.specs.{BlockReads.{IsReadBlock}, Lookups.{IsReadReply, place_for}, Reading.{IsReadPrepare}, Serving.{Firm, Grade, IsCall, IsKept, Keeps, format}, WrittenFor.{IsWrittenFor}}

-- ---- whatever is in memory: the one unit with the checksum that is known

-- the prepare of an op, in its slot
abbrev pub IsThePrepare : State → Log → (op : ℕ) → Message → Type 0
IsThePrepare s log op p = (prepare_sum (memory s) op ≡ Some p.header.checksum) × IsTheOne (units_log (format s.file) log) (PreparePlace (op % s.file.layout.slots)) (PrepareUnit p)

-- the reply of a client, in its place
abbrev pub IsTheReply : State → Log → (client : ℕ) → Message → Type 0
IsTheReply s log client r = (reply_sum (memory s) (place_for s client) ≡ Some r.header.checksum) × IsTheOne (units_log (format s.file) log) (ReplyPlace (place_for s client)) (ReplyUnit r)

-- the block of an address
abbrev pub IsTheBlock : State → Log → (address : ℕ) → Block → Type 0
IsTheBlock s log address b = (sum_at address (memory s).blocks.live ≡ Some b.checksum) × IsTheOne (units_log (format s.file) log) (BlockPlace address) (BlockUnit b)

-- over any image that came about without chance a read that is Ok gives that one
abbrev pub PrepareIsTheOne : Type 0
PrepareIsTheOne = (s : State) (t : Told) (op : ℕ) (p : Message) → NoChanceOf (format s.file) t.log t.shown → IsReadPrepare op s (Some t) (Ok p) → IsThePrepare s t.log op p

abbrev pub ReplyIsTheOne : Type 0
ReplyIsTheOne = (s : State) (t : Told) (client : ℕ) (r : Message) → NoChanceOf (format s.file) t.log t.shown → IsReadReply client s (Some t) (Ok r) → IsTheReply s t.log client r

abbrev pub BlockIsTheOne : Type 0
BlockIsTheOne = (s : State) (t : Told) (address : ℕ) (b : Block) → NoChanceOf (format s.file) t.log t.shown → IsReadBlock address s (Some t) (Ok b) → IsTheBlock s t.log address b

-- and so does a call of a replica, as a session makes it
abbrev pub AnswersTheOne : State → Log → Command → Answer → Type 0
AnswersTheOne s log (ReadPrepare op) answer = (p : Message) → answer ≡ ToReadPrepare (Ok p) → IsThePrepare s log op p
AnswersTheOne s log (ReadReply client) answer = (r : Message) → answer ≡ ToReadReply (Ok r) → IsTheReply s log client r
AnswersTheOne s log (ReadBlock address) answer = (b : Block) → answer ≡ ToReadBlock (Ok b) → IsTheBlock s log address b
AnswersTheOne s log command answer = Unit {0}

abbrev pub CallIsTheOne : Type 0
CallIsTheOne =
    (given : Given) (command : Command) (s u : State) (w : Work) (t : Told) (new : Option Told) (answer : Answer) → IsCall given command s u (Some t) new (Some answer) → Keeps Firm s w None → NoChanceOf (format s.file) t.log t.shown
    → AnswersTheOne s t.log command answer

-- ---- of which state it is known that it was written, beside the one after a call of such a state

-- that of a file which is kept from call to call
abbrev pub KeptIsWritten : Type 0
KeptIsWritten = (g : Grade) (s : State) (w : Work) (log : Log) → IsKept g s w log → IsWrittenFor s.file log w

-- that after the boot update of what an open found on a disk that may be hurt, with a superblock with which it makes sense, however the log goes on after its barrier
abbrev pub OpenedIsWrittenFor : Type 0
OpenedIsWrittenFor =
    (file : DataFile) (view : View) (t : Told) (s : State) (later : Log) (d : Content) → (finds : FindsHad file view t s) → Extends later (add Sync t.log)
    → IsWork (shape s.file) (spelling s.file) (raised (opened (shape file) (unit_at file.layout file.cluster t.shown) finds.found) d)
    → IsWrittenFor s.file later (raised (opened (shape file) (unit_at file.layout file.cluster t.shown) finds.found) d)

-- ---- so what a read gives is the view's own

-- a read of a prepare that is Ok gives the tail's prepare of this op
abbrev pub PrepareIsLent : Type 0
PrepareIsLent =
    (s : State) (w : Work) (t : Told) (op : ℕ) (p : Message) → Represents s w → WasWritten s.file t.log (kept w) → NoChanceOf (format s.file) t.log t.shown → IsReadPrepare op s (Some t) (Ok p)
    → In p (kept w).tail × (p.header.op ≡ op)

-- the stored reply to the last request of a client
pub record IsReplyTo (client : ℕ) (view : View) (r : Message) : Type 0 where
  pub place : ℕ
  pub session : Session
  pub at : slice_get (sessions view) place ≡ Some session
  pub of : session.client ≡ client
  pub stored : view.stored place ≡ Some r
  pub answers : Answers session r

-- a read of a reply that is Ok gives the stored one
abbrev pub ReplyIsLent : Type 0
ReplyIsLent =
    (s : State) (w : Work) (t : Told) (client : ℕ) (r : Message) → Represents s w → WasWritten s.file t.log (kept w) → NoChanceOf (format s.file) t.log t.shown → IsReadReply client s (Some t) (Ok r)
    → IsReplyTo client (kept w) r

-- a read of a block that is Ok gives a live one, with the checksum that the machine has of it
abbrev pub BlockIsLent : Type 0
BlockIsLent = (s : State) (w : Work) (t : Told) (address : ℕ) (b : Block) → Represents s w → IsReadBlock address s (Some t) (Ok b) → w.live address ≡ Some b.checksum

-- and so does a call of a replica: what a read that is Ok answers is the state's own
abbrev pub AnswersOwn : Work → Command → Answer → Type 0
AnswersOwn w (ReadPrepare op) answer = (p : Message) → answer ≡ ToReadPrepare (Ok p) → In p (kept w).tail × (p.header.op ≡ op)
AnswersOwn w (ReadReply client) answer = (r : Message) → answer ≡ ToReadReply (Ok r) → IsReplyTo client (kept w) r
AnswersOwn w (ReadBlock address) answer = (b : Block) → answer ≡ ToReadBlock (Ok b) → w.live address ≡ Some b.checksum
AnswersOwn w command answer = Unit {0}

abbrev pub CallIsOwn : Type 0
CallIsOwn =
    (given : Given) (command : Command) (s u : State) (w : Work) (t : Told) (new : Option Told) (answer : Answer) → IsCall given command s u (Some t) new (Some answer) → Keeps Firm s w None → IsWrittenFor s.file t.log w
    → NoChanceOf (format s.file) t.log t.shown → AnswersOwn w command answer

-- both: a read that is Ok gives the one unit that was ever written with the checksum that is known, and it was written at its place; and it is the state's own. So it is of any
-- image that came about without chance
abbrev pub GivesOwn : State → Option Told → Work → Command → Answer → Type 0
GivesOwn s None w command answer = Unit {0}
GivesOwn s (Some t) w command answer = NoChanceOf (format s.file) t.log t.shown → AnswersTheOne s t.log command answer × AnswersOwn w command answer

-- ---- as clauses of the reads

-- the prepare of an op that is lent is the one, where no unit of the image came about by chance; and where the state's view was written, it is the tail's
abbrev pub LendsWrittenPrepare : {E : Type 0} → (op : ℕ) → State → Result Message E → Option Told → Type 0
LendsWrittenPrepare op s (Err e) told = Unit {0}
LendsWrittenPrepare op s (Ok p) None = Unit {0}
LendsWrittenPrepare op s (Ok p) (Some t) = NoChanceOf (format s.file) t.log t.shown
    → IsThePrepare s t.log op p × ((w : Work) → Represents s w → WasWritten s.file t.log (kept w) → In p (kept w).tail × (p.header.op ≡ op))

-- so is the reply of a client, and then it is the stored one
abbrev pub LendsWrittenReply : {E : Type 0} → (client : ℕ) → State → Result Message E → Option Told → Type 0
LendsWrittenReply client s (Err e) told = Unit {0}
LendsWrittenReply client s (Ok r) None = Unit {0}
LendsWrittenReply client s (Ok r) (Some t) = NoChanceOf (format s.file) t.log t.shown
    → IsTheReply s t.log client r × ((w : Work) → Represents s w → WasWritten s.file t.log (kept w) → IsReplyTo client (kept w) r)

-- and the block of an address, which is live in the machine
abbrev pub LendsWrittenBlock : {E : Type 0} → (address : ℕ) → State → Result Block E → Option Told → Type 0
LendsWrittenBlock address s (Err e) told = Unit {0}
LendsWrittenBlock address s (Ok b) None = Unit {0}
LendsWrittenBlock address s (Ok b) (Some t) = NoChanceOf (format s.file) t.log t.shown → IsTheBlock s t.log address b × ((w : Work) → Represents s w → w.live address ≡ Some b.checksum)
