-- Commands, what is supplied to them and what they answer, and the machine: one function for all.
use Rattle.std.specs.Prelude.{ℕ, ◌<◌, ◌^◌, List, [], Result, Err}
use Rattle.df_layout.specs.{declared.damage.Class.{Class}, declared.damage.Class.TheVariants.{Blank}, declared.damage.Finding.{Finding}}
use Rattle.df_theory.specs.{Units.{Block, Message, Parts}, Shape.{Shape}}
use Rattle.df_model.specs.{Work.{Work}, Memory.{memory_of}, Codec.{AreBytes, AreChecksums}, Making.{first_of}}
use Rattle.df_model.specs.After.{after_advance, after_append, after_begin, after_block, after_flush, after_release, after_reply, after_scrub, after_stage, lookup_answer, prepare_answer, read_answer}
use Rattle.df_model.specs.{declared.errors.AppendError.{AppendError}, declared.errors.FlushError.{FlushError}, declared.errors.ReplyError.{ReplyError}, declared.errors.BlockError.{BlockError}}
use Rattle.df_model.specs.{declared.errors.NotLive.{NotLive}, declared.errors.BeginError.{BeginError}, declared.errors.StepError.{StepError}, declared.answers.Progress.{Progress}}
use Rattle.df_model.specs.{declared.reading.PrepareError.{PrepareError}, declared.reading.LookupError.{LookupError}, declared.reading.ReadError.{ReadError}, declared.answers.Verdict.{Verdict}}
use Rattle.df_model.specs.{declared.answers.Verdict.TheVariants.{Sound}, declared.answers.Scrubbed.{Scrubbed}}

pub data Command : Type 0 where
  Append : (client request : ℕ) (body : List ℕ) → Command
  Stage : (client request : ℕ) (body : List ℕ) → Command
  Flush : Command
  Reply : (op : ℕ) (body : List ℕ) → Command
  WriteBlock : (kind : ℕ) (body : List ℕ) → Command
  Release : (address : ℕ) → Command
  Begin : (root : List ℕ) → Command
  Advance : Command
  ReadPrepare : (op : ℕ) → Command
  ReadReply : (client : ℕ) → Command
  ReadBlock : (address : ℕ) → Command
  Scrub : Command
  Recent : Command

-- what the device and the codecs supply, a case for each command: the checksums of the units that it makes, in their order, of a flush as many as it appends, else one; or the unit that is wanted at the place that it reads, or the class of what is shown there
pub data Given : Type 0 where
  ForAppend : (checksums : List ℕ) → Given
  ForStage : Given
  ForFlush : (checksums : List ℕ) → Given
  ForReply : (checksums : List ℕ) → Given
  ForWriteBlock : (checksums : List ℕ) → Given
  ForRelease : Given
  ForBegin : Given
  ForAdvance : (checksums : List ℕ) → Given
  ForReadPrepare : (message : Result Message Class) → Given
  ForReadReply : (message : Result Message Class) → Given
  ForReadBlock : (block : Result Block Class) → Given
  ForScrub : (verdict : Verdict) → Given
  ForRecent : Given

-- what is supplied of each kind: no checksums, a blank place and a sound block where the case has none
abbrev pub supplied_sums : Given → List ℕ
supplied_sums (ForAppend checksums) = checksums
supplied_sums (ForFlush checksums) = checksums
supplied_sums (ForReply checksums) = checksums
supplied_sums (ForWriteBlock checksums) = checksums
supplied_sums (ForAdvance checksums) = checksums
supplied_sums given = []

abbrev pub supplied_message : Given → Result Message Class
supplied_message (ForReadPrepare message) = message
supplied_message (ForReadReply message) = message
supplied_message given = Err Blank

abbrev pub supplied_block : Given → Result Block Class
supplied_block (ForReadBlock block) = block
supplied_block given = Err Blank

abbrev pub supplied_verdict : Given → Verdict
supplied_verdict (ForScrub verdict) = verdict
supplied_verdict given = Sound

-- the checksum of the one unit that a command makes, or of the first
abbrev pub supplied_sum : Given → ℕ
supplied_sum given = first_of (supplied_sums given)

-- the fields are in the range of their types
abbrev pub IsCommandInRange : Command → Type 0
IsCommandInRange (Append client request body) = client < 2 ^ 128
IsCommandInRange (Stage client request body) = client < 2 ^ 128
IsCommandInRange Flush = Unit {0}
IsCommandInRange (Reply op body) = Unit {0}
IsCommandInRange (WriteBlock kind body) = Unit {0}
IsCommandInRange (Release address) = Unit {0}
IsCommandInRange (Begin root) = AreBytes root
IsCommandInRange Advance = Unit {0}
IsCommandInRange (ReadPrepare op) = Unit {0}
IsCommandInRange (ReadReply client) = Unit {0}
IsCommandInRange (ReadBlock address) = Unit {0}
IsCommandInRange Scrub = Unit {0}
IsCommandInRange Recent = Unit {0}

-- what is supplied is in range too
pub record IsInput (given : Given) (command : Command) : Type 0 where
  pub checksums : AreChecksums (supplied_sums given)
  pub fields : IsCommandInRange command

pub data Answer : Type 0 where
  ToAppend : (answer : Result (ℕ × ℕ) AppendError) → Answer
  ToStage : (answer : Result ℕ AppendError) → Answer
  ToFlush : (answer : Result ℕ FlushError) → Answer
  ToReply : (answer : Result ℕ ReplyError) → Answer
  ToWriteBlock : (answer : Result (ℕ × ℕ) BlockError) → Answer
  ToRelease : (answer : Result (Unit {0}) NotLive) → Answer
  ToBegin : (answer : Result ℕ BeginError) → Answer
  ToAdvance : (answer : Result Progress StepError) → Answer
  ToReadPrepare : (answer : Result Message PrepareError) → Answer
  ToReadReply : (answer : Result Message LookupError) → Answer
  ToReadBlock : (answer : Result Block ReadError) → Answer
  ToScrub : (answer : Scrubbed) → Answer
  ToRecent : (findings : List Finding) → Answer

abbrev pub as_answer : {A : Type 0} → (A → Answer) → Work × A → Work × Answer
as_answer answer pair = (pair.0, answer pair.1)

-- the state after a command, and its answer
abbrev pub after : Shape → (Parts → List ℕ) → Work → Given → Command → Work × Answer
after sh spell w given (Append client request body) = as_answer ToAppend (after_append sh spell w (supplied_sum given) client request body)
after sh spell w given (Stage client request body) = as_answer ToStage (after_stage sh spell w client request body)
after sh spell w given Flush = as_answer ToFlush (after_flush sh spell w (supplied_sums given))
after sh spell w given (Reply op body) = as_answer ToReply (after_reply sh spell w (supplied_sum given) op body)
after sh spell w given (WriteBlock kind body) = as_answer ToWriteBlock (after_block sh spell w (supplied_sum given) kind body)
after sh spell w given (Release address) = as_answer ToRelease (after_release sh spell w address)
after sh spell w given (Begin root) = as_answer ToBegin (after_begin sh spell w root)
after sh spell w given Advance = as_answer ToAdvance (after_advance sh spell w (supplied_sum given))
after sh spell w given (ReadPrepare op) = (w, ToReadPrepare (prepare_answer (memory_of sh spell w) (supplied_message given) op))
after sh spell w given (ReadReply client) = (w, ToReadReply (lookup_answer (memory_of sh spell w) (supplied_message given) client))
after sh spell w given (ReadBlock address) = (w, ToReadBlock (read_answer (memory_of sh spell w) (supplied_block given) address))
after sh spell w given Scrub = as_answer ToScrub (after_scrub sh spell w (supplied_verdict given))
after sh spell w given Recent = (w, ToRecent w.findings)
