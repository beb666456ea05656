-- The laws of the machine: it keeps its sense, and what a call does to the device leads from the view before to the view after.
use Rattle.std.specs.Prelude.{◌≡◌, ◌+◌, ◌%◌, ◌<◌, ◌≤◌, ℕ, length, true, false, List, [], ◌∷◌, Option, Some, None}
use Rattle.df_base.specs.declared.TheConstants.{GREATEST}
use Rattle.df_theory.specs.Units.{Block, BlockPlace, BlockUnit, Header, HeaderPlace, HeaderUnit, Message, PreparePlace, PrepareUnit, ReplyPlace, ReplyUnit, Units, Parts, overlay}
use Rattle.df_theory.specs.{Sessions.{session_of_header}, Tails.{In}, Trailer.{InChain, text_of}, Shape.{Shape, slots}, View.{Checkpoint, View, boot_of}, Found.{AreOfPlaces, IsFound}}
use Rattle.df_theory.specs.{Holds.{Holds, Sound, Stands}, Next.{MayAppend, MayFinish, MayReply, Next}, UnitLog.{PutsOne, UnitLog, now}, Runs.{Step, after_steps}}
use Rattle.df_theory.specs.{WriterLaws.{AllPutPrepare, IsHeaderSector}, MendLaws.{AllPutTable}, GroupLaws.{IsGroupTable, flush_command}, TidyLaws.{IsTidy, KeepsStanding, LeadsTidily}}
use Rattle.df_theory.specs.{Commands.{append_command, block_command, finish_command, reply_command}, CopyPuts.{PutsCopies}}
use Rattle.df_model.specs.{Work.{Running, Work, is_held, kept, opened}, Codec.{AreBytes, InGrid, IsCodec, IsLawfulSession}}
use Rattle.df_model.specs.{Refusals.{append_refusals, block_refusals, first_refusal, flush_refusals, reply_refusals, stage_refusals}, After.{next_trailer, checkpoint_of, with_staged}}
use Rattle.df_model.specs.{Sense.{IsBacked, IsVersionTwo, IsWork, ShowsWritten}, Memory.{memory_of, message_room}, Making.{block_of, group_of, next_address, place_of_reply, prepare_of, reply_of}}
use Rattle.df_model.specs.Commands.{Advance, Append, Begin, Command, Flush, Given, IsInput, ReadBlock, ReadPrepare, ReadReply, Recent, Release, Reply, Scrub, Stage, WriteBlock, after, supplied_sum, supplied_sums}

-- ---- the state keeps its sense

-- the fields of each prepare of the tail are in range, and the trailer's text is of bytes, as validity demands
pub record HasFields (v : View) : Type 0 where
  pub prepares : (p : Message) → In p v.tail → IsLawfulSession (session_of_header p.header)
  pub bytes : AreBytes (text_of v.checkpoint.chain)

-- the image shows the trailer: so each block of it has an address of its own
abbrev pub ShowsOwnTrailer : Units → View → Type 0
ShowsOwnTrailer image v = (a : ℕ) (b : Block) → InChain a b v.checkpoint.chain → image (BlockPlace a) ≡ Some (BlockUnit b)

-- a state after an open
abbrev pub OpenedLaw : Type 0
OpenedLaw = (sh : Shape) (spell : Parts → List ℕ) (image : Units) (v : View) → IsCodec sh spell → IsVersionTwo sh v → Sound sh v → HasFields v → ShowsOwnTrailer image v → IsWork sh spell (opened sh image v)

-- the state that an open finds in an image, whatever was done to it
abbrev pub FoundStateLaw : Type 0
FoundStateLaw = (sh : Shape) (spell : Parts → List ℕ) (image : Units) (v : View) → IsCodec sh spell → IsVersionTwo sh v → AreOfPlaces sh image → IsFound sh image v → IsWork sh spell (opened sh image v)

-- a state after a command
abbrev pub SenseLaw : Type 0
SenseLaw = (sh : Shape) (spell : Parts → List ℕ) (w : Work) (given : Given) (command : Command) → IsInput given command → IsWork sh spell w → IsWork sh spell (after sh spell w given command).0

-- the view stays, or one thing happens to it
abbrev pub NextLaw : Type 0
NextLaw = (sh : Shape) (spell : Parts → List ℕ) (w : Work) (given : Given) (command : Command) → IsWork sh spell w → Next (kept w) (kept (after sh spell w given command).0)

-- ---- what is refused is what may not be done

abbrev pub AppendMayLaw : Type 0
AppendMayLaw =
    (sh : Shape) (spell : Parts → List ℕ) (w : Work) (sum client request : ℕ) (body : List ℕ) → IsWork sh spell w → first_refusal (append_refusals (memory_of sh spell w) client request body) ≡ None
    → MayAppend sh (kept w) (prepare_of (memory_of sh spell w) sum client request body ∷ [])

-- all that is staged may be appended as one group, with whatever checksums
abbrev pub FlushMayLaw : Type 0
FlushMayLaw = (sh : Shape) (spell : Parts → List ℕ) (w : Work) (sums : List ℕ) → IsWork sh spell w → first_refusal (flush_refusals (memory_of sh spell w)) ≡ None → MayAppend sh (kept w) (group_of (memory_of sh spell w) sums)

abbrev pub ReplyMayLaw : Type 0
ReplyMayLaw =
    (sh : Shape) (spell : Parts → List ℕ) (w : Work) (sum op : ℕ) (body : List ℕ) → IsWork sh spell w → first_refusal (reply_refusals (memory_of sh spell w) op body) ≡ None
    → MayReply (kept w) (place_of_reply (memory_of sh spell w)) (reply_of (memory_of sh spell w) sum body)

-- a block is written at the least address that isn't held
pub record IsLeastFree (sh : Shape) (w : Work) (a : ℕ) : Type 0 where
  pub inside : InGrid sh.layout a
  pub free : is_held w a ≡ false
  pub below : (x : ℕ) → 0 < x → x < a → is_held w x ≡ true

-- what may be done isn't refused, where its fields are in range
abbrev pub AppendExactLaw : Type 0
AppendExactLaw =
    (sh : Shape) (spell : Parts → List ℕ) (w : Work) (sum client request : ℕ) (body : List ℕ) → IsWork sh spell w → w.staged ≡ [] → 0 < client → length body ≤ message_room sh.layout → request ≤ GREATEST
    → MayAppend sh (kept w) (prepare_of (memory_of sh spell w) sum client request body ∷ []) → first_refusal (append_refusals (memory_of sh spell w) client request body) ≡ None

-- a request is staged where it could be appended after those that are staged
abbrev pub StageExactLaw : Type 0
StageExactLaw =
    (sh : Shape) (spell : Parts → List ℕ) (w : Work) (client request : ℕ) (body : List ℕ) → IsWork sh spell w → 0 < client → length body ≤ message_room sh.layout → request ≤ GREATEST
    → MayAppend sh (kept w) (group_of (memory_of sh spell (with_staged w (record { client = client; request = request; body = body }))) []) → first_refusal (stage_refusals (memory_of sh spell w) client request body) ≡ None

abbrev pub ReplyExactLaw : Type 0
ReplyExactLaw =
    (sh : Shape) (spell : Parts → List ℕ) (w : Work) (sum : ℕ) (body : List ℕ) → length body ≤ message_room sh.layout
    → MayReply (kept w) (place_of_reply (memory_of sh spell w)) (reply_of (memory_of sh spell w) sum body) → first_refusal (reply_refusals (memory_of sh spell w) (w.view.replies + 1) body) ≡ None

abbrev pub BlockMayLaw : Type 0
BlockMayLaw = (sh : Shape) (spell : Parts → List ℕ) (w : Work) (kind : ℕ) (body : List ℕ) → first_refusal (block_refusals (memory_of sh spell w) kind body) ≡ None → IsLeastFree sh w (next_address (memory_of sh spell w))

-- where the whole trailer is written
abbrev pub FinishMayLaw : Type 0
FinishMayLaw =
    (sh : Shape) (spell : Parts → List ℕ) (w : Work) (r : Running) (sum : ℕ) → IsWork sh spell w → w.running ≡ Some r → r.left ≡ []
    → MayFinish sh (kept w) (checkpoint_of sh spell w r sum)

-- and only there: the last step comes exactly where the checkpoint may be finished
abbrev pub FinishExactLaw : Type 0
FinishExactLaw =
    (sh : Shape) (spell : Parts → List ℕ) (w : Work) (r : Running) (sum : ℕ) → IsWork sh spell w → w.running ≡ Some r → MayFinish sh (kept w) (checkpoint_of sh spell w r sum) → r.left ≡ []

-- what stands at an address that isn't held is no matter of the view: an image that holds it does so whatever is written there
abbrev pub BlockAsideLaw : Type 0
BlockAsideLaw =
    (sh : Shape) (w : Work) (image put : Units) (a : ℕ) (b : Block) → is_held w a ≡ false → PutsOne put (BlockPlace a) (BlockUnit b)
    → (Holds sh image (kept w) → Holds sh (overlay put image) (kept w)) × (Stands image (kept w) → Stands (overlay put image) (kept w))

-- ---- what a command does to the device

-- an append writes the prepare, and then its header sector
pub record DoesAppend (sh : Shape) (image : Units) (v : View) (p : Message) (steps : List Step) : Type 0 where
  pub prepare : Units
  pub headers : Units
  pub one : PutsOne prepare (PreparePlace (p.header.op % slots sh)) (PrepareUnit p)
  pub sector : IsHeaderSector sh image p headers
  pub there : headers (HeaderPlace (p.header.op % slots sh)) ≡ Some (HeaderUnit p.header)
  pub are : steps ≡ (append_command v p prepare headers).steps

-- a flush writes the prepares of its group, syncs, and then writes their header sectors, of one table, and syncs; a group of several is one of a file with boots
pub record DoesFlush (sh : Shape) (image : Units) (v : View) (ps : List Message) (steps : List Step) : Type 0 where
  pub prepares : List Units
  pub table : ℕ → Header
  pub headers : List Units
  pub puts : AllPutPrepare sh ps prepares
  pub sectors : AllPutTable table headers
  pub is_table : IsGroupTable sh image ps table headers
  pub booted : 1 < length ps → 0 < boot_of v
  pub are : steps ≡ (flush_command v ps prepares headers).steps

pub record DoesReply (v : View) (place : ℕ) (r : Message) (steps : List Step) : Type 0 where
  pub put : Units
  pub one : PutsOne put (ReplyPlace place) (ReplyUnit r)
  pub are : steps ≡ (reply_command v place r put).steps

-- a block is written without a sync
pub record DoesBlock (v : View) (a : ℕ) (b : Block) (steps : List Step) : Type 0 where
  pub put : Units
  pub one : PutsOne put (BlockPlace a) (BlockUnit b)
  pub are : steps ≡ (block_command v put).steps

-- the last step of a checkpoint syncs, and writes the four copies
pub record DoesFinish (v : View) (c : Checkpoint) (steps : List Step) : Type 0 where
  pub puts : PutsCopies c.content
  pub are : steps ≡ (finish_command v c puts).steps

abbrev pub DoesNothing : List Step → Type 0
DoesNothing steps = steps ≡ []

-- what is refused does nothing
abbrev pub UnlessRefused : {E : Type 0} → Option E → List Step → Type 0 → Type 0
UnlessRefused (Some e) steps DoesCommand = DoesNothing steps
UnlessRefused None steps DoesCommand = DoesCommand

abbrev pub DoesAdvanceTo : Shape → (Parts → List ℕ) → Work → (sum : ℕ) → Running → List ℕ → List Step → Type 0
DoesAdvanceTo sh spell w sum r [] steps = DoesFinish w.view (checkpoint_of sh spell w r sum) steps
DoesAdvanceTo sh spell w sum r (a ∷ more) steps = DoesBlock w.view a (next_trailer sh spell w r sum) steps

abbrev pub DoesAdvance : Shape → (Parts → List ℕ) → Work → (sum : ℕ) → Option Running → List Step → Type 0
DoesAdvance sh spell w sum None steps = DoesNothing steps
DoesAdvance sh spell w sum (Some r) steps = DoesAdvanceTo sh spell w sum r r.left steps

-- the steps of a command, over the image that is shown at its start
abbrev pub DoesCommand : Shape → (Parts → List ℕ) → Units → Work → Given → Command → List Step → Type 0
DoesCommand sh spell image w given (Append client request body) steps = UnlessRefused (first_refusal (append_refusals (memory_of sh spell w) client request body)) steps (DoesAppend sh image w.view (prepare_of (memory_of sh spell w) (supplied_sum given) client request body) steps)
DoesCommand sh spell image w given (Stage client request body) steps = DoesNothing steps
DoesCommand sh spell image w given Flush steps = UnlessRefused (first_refusal (flush_refusals (memory_of sh spell w))) steps (DoesFlush sh image w.view (group_of (memory_of sh spell w) (supplied_sums given)) steps)
DoesCommand sh spell image w given (Reply op body) steps = UnlessRefused (first_refusal (reply_refusals (memory_of sh spell w) op body)) steps (DoesReply w.view (place_of_reply (memory_of sh spell w)) (reply_of (memory_of sh spell w) (supplied_sum given) body) steps)
DoesCommand sh spell image w given (WriteBlock kind body) steps = UnlessRefused (first_refusal (block_refusals (memory_of sh spell w) kind body)) steps (DoesBlock w.view (next_address (memory_of sh spell w)) (block_of (memory_of sh spell w).content.boot (supplied_sum given) kind body) steps)
DoesCommand sh spell image w given Advance steps = DoesAdvance sh spell w (supplied_sum given) w.running steps
DoesCommand sh spell image w given (Release address) steps = DoesNothing steps
DoesCommand sh spell image w given (Begin root) steps = DoesNothing steps
DoesCommand sh spell image w given (ReadPrepare op) steps = DoesNothing steps
DoesCommand sh spell image w given (ReadReply client) steps = DoesNothing steps
DoesCommand sh spell image w given (ReadBlock address) steps = DoesNothing steps
DoesCommand sh spell image w given Scrub steps = DoesNothing steps
DoesCommand sh spell image w given Recent steps = DoesNothing steps

-- the file is kept for the state: it is tidy with its view, and shows the running trailer as far as it is written. Its referenced blocks may be hurt
pub record IsKeptBy (sh : Shape) (spell : Parts → List ℕ) (log : UnitLog) (w : Work) : Type 0 where
  pub sense : IsWork sh spell w
  pub tidy : IsTidy sh log (kept w)
  pub written : ShowsWritten (now log) w

-- each command leads from one such file to the next
pub record LeadsOn (sh : Shape) (spell : Parts → List ℕ) (log : UnitLog) (w u : Work) (steps : List Step) : Type 0 where
  pub leads : LeadsTidily sh log (kept w) (record { steps = steps; view = kept u })
  pub keeps : IsKeptBy sh spell (after_steps steps log) u

-- and where each referenced block is shown, it is so at each moment and at the end
pub record BacksOn (sh : Shape) (log : UnitLog) (w u : Work) (steps : List Step) : Type 0 where
  pub stands : KeepsStanding sh log (kept w) (record { steps = steps; view = kept u })
  pub backed : IsBacked (after_steps steps log) u

abbrev pub CommandLaw : Type 0
CommandLaw =
    (sh : Shape) (spell : Parts → List ℕ) (log : UnitLog) (w : Work) (given : Given) (command : Command) (steps : List Step) → IsInput given command → IsKeptBy sh spell log w → DoesCommand sh spell (now log) w given command steps
    → LeadsOn sh spell log w (after sh spell w given command).0 steps × (IsBacked log w → BacksOn sh log w (after sh spell w given command).0 steps)
