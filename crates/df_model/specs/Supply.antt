-- What the device and the codecs supply to a command: a function of what is in memory and of what is shown. So a session is a list of commands, and its result a fold.
use Rattle.std.specs.Prelude.{ℕ, ◌+◌, ◌%◌, ◌==◌, nat_lt, Bool, true, false, not, if◌then◌else◌, List, [], ◌∷◌, length, Option, Some, None, Result, Ok, Err}
use Rattle.df_layout.specs.{declared.damage.Class.{Class}, declared.damage.Class.TheVariants.{Blank, Stale}}
use Rattle.df_theory.specs.Units.{AnyUnit, Block, BlockPlace, BlockUnit, Content, CopyPlace, CopyUnit, Message, Parts, Place, PreparePlace, PrepareUnit, ReplyPlace, ReplyUnit, Units, overlay}
use Rattle.df_theory.specs.{Shape.{Shape}, UnitLog.{put_one}}
use Rattle.df_model.specs.{Work.{Request, Work, raised}, Memory.{Course, Memory, memory_of, prepare_sum, reply_sum}, Blocks.{sum_at}}
use Rattle.df_model.specs.Refusals.{append_refusals, block_refusals, first_refusal, flush_refusals, reply_refusals}
use Rattle.df_model.specs.Making.{block_of, boot_content, finishing_content, first_of, group_of, next_address, place_of_reply, prepare_in, prepare_of, reply_of, trailer_block}
use Rattle.df_model.specs.After.{place_of_client, to_check}
use Rattle.df_model.specs.Commands.{Advance, Answer, Append, Begin, Command, Flush, ForAdvance, ForAppend, ForBegin, ForFlush, ForReadBlock, ForReadPrepare, ForReadReply, ForRecent, ForRelease, ForReply, ForScrub, ForStage, ForWriteBlock, Given, ReadBlock, ReadPrepare, ReadReply, Recent, Release, Reply, Scrub, Stage, WriteBlock, after}
use Rattle.df_model.specs.{declared.answers.Verdict.{Verdict}, declared.answers.Verdict.TheVariants.{Sound, Failing}}

-- how a trailer is spelled, and the checksum that each kind of unit gets, whatever stands in its own field: a reply's and a block's header names its place, too
pub record Codec : Type 0 where
  pub spell : Parts → List ℕ
  pub prepare : Message → ℕ
  pub reply : (place : ℕ) → Message → ℕ
  pub block : (address : ℕ) → Block → ℕ
  pub content : Content → ℕ

-- what a device shows: the valid units, and the class of what stands at a place that shows none
pub record Shown : Type 0 where
  pub units : Units
  pub damage : Place → Class

-- ---- checksums

abbrev pub trailer_sum : Codec → Memory → Course → List ℕ → ℕ
trailer_sum codec m r [] = codec.content (finishing_content m r 0)
trailer_sum codec m r (a ∷ more) = codec.block a (trailer_block m r 0)

abbrev pub step_sum : Codec → Memory → Option Course → ℕ
step_sum codec m None = 0
step_sum codec m (Some r) = trailer_sum codec m r r.left

-- those of requests that are made prepares of one group: each has the one before it as its parent
abbrev pub group_sums : Codec → Memory → (first last op parent : ℕ) → List Request → List ℕ
group_sums codec m first last op parent [] = []
group_sums codec m first last op parent (r ∷ rs) =
    let sum = codec.prepare (prepare_in m first last op parent 0 r) in
    sum ∷ group_sums codec m first last (op + 1) sum rs

-- the checksums of the units that the command makes, in their order
abbrev pub checksums_given : Codec → Memory → Command → List ℕ
checksums_given codec m (Append client request body) = codec.prepare (prepare_of m 0 client request body) ∷ []
checksums_given codec m Flush = group_sums codec m (m.head + 1) (m.head + length m.staged) (m.head + 1) m.head_checksum m.staged
checksums_given codec m (Reply op body) = codec.reply (place_of_reply m) (reply_of m 0 body) ∷ []
checksums_given codec m (WriteBlock kind body) = codec.block (next_address m) (block_of m.content.boot 0 kind body) ∷ []
checksums_given codec m Advance = step_sum codec m m.running ∷ []
checksums_given codec m command = []

-- that of the one unit which it makes, or of the first
abbrev pub checksum_given : Codec → Memory → Command → ℕ
checksum_given codec m command = first_of (checksums_given codec m command)

-- ---- what is shown

-- where a unit is wanted that isn't shown: another valid one is stale
abbrev pub class_or : Option AnyUnit → Class → Class
class_or (Some x) class = Stale
class_or None class = class

abbrev pub class_at : Shown → Place → Class
class_at shown place = class_or (shown.units place) (shown.damage place)

abbrev pub is_sum : Option ℕ → ℕ → Bool
is_sum None sum = false
is_sum (Some known) sum = sum == known

abbrev pub given_if : {X : Type 0} → Bool → X → Class → Result X Class
given_if true x class = Ok x
given_if false x class = Err class

-- the prepare with the checksum that is known, where it is shown
abbrev pub prepare_given : Option ℕ → Option AnyUnit → Class → Result Message Class
prepare_given known (Some (PrepareUnit p)) class = given_if (is_sum known p.header.checksum) p class
prepare_given known unit class = Err class

abbrev pub reply_given : Option ℕ → Option AnyUnit → Class → Result Message Class
reply_given known (Some (ReplyUnit r)) class = given_if (is_sum known r.header.checksum) r class
reply_given known unit class = Err class

abbrev pub block_given : Option ℕ → Option AnyUnit → Class → Result Block Class
block_given known (Some (BlockUnit b)) class = given_if (is_sum known b.checksum) b class
block_given known unit class = Err class

abbrev pub prepare_at : Shown → Option ℕ → (slot : ℕ) → Result Message Class
prepare_at shown known slot = prepare_given known (shown.units (PreparePlace slot)) (class_at shown (PreparePlace slot))

abbrev pub reply_at : Shown → Option ℕ → (place : ℕ) → Result Message Class
reply_at shown known place = reply_given known (shown.units (ReplyPlace place)) (class_at shown (ReplyPlace place))

abbrev pub block_at : Shown → Option ℕ → (address : ℕ) → Result Block Class
block_at shown known a = block_given known (shown.units (BlockPlace a)) (class_at shown (BlockPlace a))

-- a trailer's block isn't read
abbrev pub no_trailer : Result Block Class → Result Block Class
no_trailer (Ok b) = given_if (not (b.kind == 0)) b Stale
no_trailer (Err class) = Err class

abbrev pub message_given : Shown → Memory → Command → Result Message Class
message_given shown m (ReadPrepare op) = prepare_at shown (prepare_sum m op) (op % m.layout.slots)
message_given shown m (ReadReply client) = reply_at shown (reply_sum m (place_of_client client m.sessions)) (place_of_client client m.sessions)
message_given shown m command = Err Blank

abbrev pub block_read : Shown → Memory → Command → Result Block Class
block_read shown m (ReadBlock address) = no_trailer (block_at shown (sum_at address m.blocks.live) address)
block_read shown m command = Err Blank

abbrev pub verdict_of : Result Block Class → Verdict
verdict_of (Ok b) = Sound
verdict_of (Err class) = Failing class

-- a check of a block against the checksum that is known
abbrev pub check_of : Shown → ℕ × ℕ → Verdict
check_of shown x = verdict_of (block_at shown (Some x.1) x.0)

abbrev pub first_check : Shown → List (ℕ × ℕ) → Verdict
first_check shown [] = Sound
first_check shown (x ∷ more) = check_of shown x

-- what is supplied to a command: the checksums of the units that it makes, or what is shown where it looks
abbrev pub supplied : Codec → Shown → Memory → Command → Given
supplied codec shown m (Append client request body) = ForAppend (checksums_given codec m (Append client request body))
supplied codec shown m (Stage client request body) = ForStage
supplied codec shown m Flush = ForFlush (checksums_given codec m Flush)
supplied codec shown m (Reply op body) = ForReply (checksums_given codec m (Reply op body))
supplied codec shown m (WriteBlock kind body) = ForWriteBlock (checksums_given codec m (WriteBlock kind body))
supplied codec shown m (Release address) = ForRelease
supplied codec shown m (Begin root) = ForBegin
supplied codec shown m Advance = ForAdvance (checksums_given codec m Advance)
supplied codec shown m (ReadPrepare op) = ForReadPrepare (message_given shown m (ReadPrepare op))
supplied codec shown m (ReadReply client) = ForReadReply (message_given shown m (ReadReply client))
supplied codec shown m (ReadBlock address) = ForReadBlock (block_read shown m (ReadBlock address))
supplied codec shown m Scrub = ForScrub (first_check shown (to_check m))
supplied codec shown m Recent = ForRecent

-- ---- what a command leaves shown

abbrev pub nothing : Units
nothing place = None

-- what is refused writes nothing
abbrev pub unless : {E : Type 0} → Option E → Units → Units
unless (Some e) put = nothing
unless None put = put

-- the four copies
abbrev pub copies_of : Content → Units
copies_of c (CopyPlace n) = if nat_lt n 4 then Some (CopyUnit c) else None
copies_of c place = None

abbrev pub trailer_puts : Memory → Course → (sum : ℕ) → List ℕ → Units
trailer_puts m r sum [] = copies_of (finishing_content m r sum)
trailer_puts m r sum (a ∷ more) = put_one (BlockPlace a) (BlockUnit (trailer_block m r sum))

abbrev pub step_puts : Memory → Option Course → (sum : ℕ) → Units
step_puts m None sum = nothing
step_puts m (Some r) sum = trailer_puts m r sum r.left

-- prepares, each in its slot
abbrev pub group_puts : (slots : ℕ) → List Message → Units
group_puts n [] = nothing
group_puts n (p ∷ ps) = overlay (group_puts n ps) (put_one (PreparePlace (p.header.op % n)) (PrepareUnit p))

-- the units that a command writes, headers aside: no command reads them
abbrev pub puts_of : Memory → (sums : List ℕ) → Command → Units
puts_of m sums (Append client request body) = unless (first_refusal (append_refusals m client request body)) (put_one (PreparePlace ((m.head + 1) % m.layout.slots)) (PrepareUnit (prepare_of m (first_of sums) client request body)))
puts_of m sums Flush = unless (first_refusal (flush_refusals m)) (group_puts m.layout.slots (group_of m sums))
puts_of m sums (Reply op body) = unless (first_refusal (reply_refusals m op body)) (put_one (ReplyPlace (place_of_reply m)) (ReplyUnit (reply_of m (first_of sums) body)))
puts_of m sums (WriteBlock kind body) = unless (first_refusal (block_refusals m kind body)) (put_one (BlockPlace (next_address m)) (BlockUnit (block_of m.content.boot (first_of sums) kind body)))
puts_of m sums Advance = step_puts m m.running (first_of sums)
puts_of m sums command = nothing

abbrev pub shown_after : Codec → Shown → Memory → Command → Shown
shown_after codec shown m command = record { units = overlay (puts_of m (checksums_given codec m command) command) shown.units; damage = shown.damage }

-- ---- an open

-- the checksum of the superblock that an open writes
abbrev pub boot_sum : Codec → Memory → ℕ
boot_sum codec m = codec.content (boot_content m 0)

-- the state that calls begin with, after an open that finds this one: its boot is raised, by a superblock that records the state as it is
abbrev pub begun_from : Shape → Codec → Work → Work
begun_from sh codec w = raised w (boot_content (memory_of sh codec.spell w) (boot_sum codec (memory_of sh codec.spell w)))

-- ---- a session

-- a command over what is shown
abbrev pub next : Shape → Codec → Shown → Work → Command → Work × Answer
next sh codec shown w command = after sh codec.spell w (supplied codec shown (memory_of sh codec.spell w) command) command

-- the answers of these commands
abbrev pub result : Shape → Codec → Shown → Work → List Command → List Answer
result sh codec shown w [] = []
result sh codec shown w (c ∷ cs) = (next sh codec shown w c).1 ∷ result sh codec (shown_after codec shown (memory_of sh codec.spell w) c) (next sh codec shown w c).0 cs

-- the state after them
abbrev pub last_work : Shape → Codec → Shown → Work → List Command → Work
last_work sh codec shown w [] = w
last_work sh codec shown w (c ∷ cs) = last_work sh codec (shown_after codec shown (memory_of sh codec.spell w) c) (next sh codec shown w c).0 cs

-- what is shown after them
abbrev pub last_shown : Shape → Codec → Shown → Work → List Command → Shown
last_shown sh codec shown w [] = shown
last_shown sh codec shown w (c ∷ cs) = last_shown sh codec (shown_after codec shown (memory_of sh codec.spell w) c) (next sh codec shown w c).0 cs
