-- What a call of a replica answers in the words of the machine, and what it promises.
use Rattle.std.specs.Prelude.{◌≡◌, List, ℕ, Bool, true, false, if◌then◌else◌, Option, Some, None, Result, Ok, Err}
use Rattle.df_base.specs.declared.Failed.{Failed}
use Rattle.df_disk.specs.Told.{Told}
use Rattle.df_layout.specs.{declared.damage.Class.{Class}, declared.damage.Finding.{Finding}}
use Rattle.df_theory.specs.Units
use Rattle.df_units.specs.Meaning.{number_of}
use Rattle.df_format.specs.declared.reference.Reference.{Reference}
use Rattle.df_model.specs.Commands.{Answer, Command, Given, Scrub, ToAppend, ToBegin, ToFlush, ToRelease, ToReply, ToScrub, ToStage, ToWriteBlock, supplied_block, supplied_message, supplied_verdict}
use Rattle.df_model.specs.{declared.answers.Receipt.{Receipt}, declared.errors.AppendError.{AppendError}, declared.errors.BeginError.{BeginError}, declared.errors.FlushError.{FlushError}}
use Rattle.df_model.specs.{declared.errors.ReplyError.{ReplyError}, declared.errors.BlockError.{BlockError}, declared.errors.NotLive.{NotLive}, declared.errors.StepError.{StepError}}
use Rattle.df_model.specs.{declared.answers.Scrubbed.{Scrubbed}, Work.{Work}}
use Rattle.df_model.specs.declared.errors.StepError.TheVariants as step
use Rattle.df_opening.specs.Below.{verdict_in, State}
use Rattle.df_replica.specs.{Scrubbing.{TellsTour, toured, work_toured}, Serving.{Grade, IsCall, Keeps}, Supply.{IsSupplied}, WrittenFor.{WritesOn}}

-- the answer in the words of the machine; there is none where the call was stopped: by a fault of the disk, or, a step, by copies that were not read back
abbrev pub answer_of : {T E : Type 0} → (unanswered : E → Bool) → (told : Result T E → Answer) → Result T E → Option Answer
answer_of unanswered told (Ok x) = Some (told (Ok x))
answer_of unanswered told (Err e) = if unanswered e then None else Some (told (Err e))

-- how an append is told
abbrev pub as_append : Result Receipt AppendError → Answer
as_append (Ok receipt) = ToAppend (Ok (receipt.op, number_of receipt.checksum))
as_append (Err e) = ToAppend (Err e)

-- a flush
abbrev pub as_flush : Result ℕ FlushError → Answer
as_flush result = ToFlush result

-- a reply
abbrev pub as_reply : Result (List ℕ) ReplyError → Answer
as_reply (Ok check) = ToReply (Ok (number_of check))
as_reply (Err e) = ToReply (Err e)

-- a write of a block
abbrev pub as_write_block : Result Reference BlockError → Answer
as_write_block (Ok reference) = ToWriteBlock (Ok (reference.address, number_of reference.checksum))
as_write_block (Err e) = ToWriteBlock (Err e)

-- the errors of a step that stop the replica
abbrev pub is_step_unanswered : StepError → Bool
is_step_unanswered step.NotRunning = false
is_step_unanswered (step.Damaged place kind) = true
is_step_unanswered step.DiskFault = true

-- that of a stage, which asks no disk
abbrev pub stage_answer : Result ℕ AppendError → Option Answer
stage_answer result = Some (ToStage result)

-- of a begin, which asks none either
abbrev pub begin_answer : Result ℕ BeginError → Option Answer
begin_answer result = Some (ToBegin result)

-- that of a release, which no fault ends
abbrev pub release_answer : {A : Type 0} → Result A NotLive → Option Answer
release_answer (Ok done) = Some (ToRelease (Ok tt))
release_answer (Err e) = Some (ToRelease (Err e))

-- that of a step of the scrubber
abbrev pub scrub_answer : Result Scrubbed Failed → Option Answer
scrub_answer (Ok scrubbed) = Some (ToScrub scrubbed)
scrub_answer (Err e) = None

-- the command is served, whatever it was rightly supplied with
abbrev pub Serves : Command → (s t : State) → (old new : Option Told) → Option Answer → Type 0
Serves command s t old new answer = (given : Given) → IsSupplied s old command given → IsCall given command s t old new answer

-- where the disk doesn't tell what it shows, what a read was supplied with is what it found
abbrev pub GivesFound : Option Told → Option (Result Units.Message Class) → Given → Type 0
GivesFound None (Some found) given = supplied_message given ≡ found
GivesFound told found given = Unit {0}

-- the read is served, and does nothing to the disk
abbrev pub ServesRead : Command → (s t : State) → Option Told → Option (Result Units.Message Class) → Option Answer → Type 0
ServesRead command s t told found answer = (given : Given) → IsSupplied s told command given → GivesFound told found given → IsCall given command s t told told answer

-- so it is with a block that is read
abbrev pub GivesBlock : Option Told → Option (Result Units.Block Class) → Given → Type 0
GivesBlock None (Some found) given = supplied_block given ≡ found
GivesBlock told found given = Unit {0}

abbrev pub ServesBlockRead : Command → (s t : State) → Option Told → Option (Result Units.Block Class) → Option Answer → Type 0
ServesBlockRead command s t told found answer = (given : Given) → IsSupplied s told command given → GivesBlock told found given → IsCall given command s t told told answer

-- and with the verdict of a check
abbrev pub GivesVerdict : Option Told → Result Scrubbed Failed → Given → Type 0
GivesVerdict None (Ok scrubbed) given = supplied_verdict given ≡ verdict_in scrubbed
GivesVerdict told result given = Unit {0}

abbrev pub ServesScrub : (s t : State) → Option Told → Result Scrubbed Failed → Type 0
ServesScrub s t told result = (given : Given) → IsSupplied s told Scrub given → GivesVerdict told result given → IsCall given Scrub s t told told (scrub_answer result)

-- a whole tour that listed these is checks of the machine's alone, from its start to its end; what is kept of the file goes on from there, and so does what was written
pub record ServesTour (s : State) (told : Option Told) (list : List Finding) : Type 0 where
  pub machine : TellsTour s told
  pub keeps : (g : Grade) (w : Work) (base : Option Told) → Keeps g s w base → Keeps g (toured s list) (work_toured w list) base
  pub written : (w : Work) → WritesOn s.file told told w (work_toured w list)
