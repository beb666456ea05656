-- The lines that a script's calls print: what was done, what was read, and why a call is refused.
use Rattle.std.specs.Prelude.{ℕ, List, [], ◌∷◌, ◌++◌, length, codes, decimal, Result, Ok, Err}
use Rattle.hex.specs.Hex.{encode_lower}
use Rattle.df_layout.specs.{declared.places.Zone.{Zone}, declared.places.Zone.TheVariants.{Superblock, WalHeaders, WalPrepares, ClientReplies, Grid}, declared.places.Place.{Place}}
use Rattle.df_layout.specs.{declared.damage.Class.{Class}, declared.damage.Class.TheVariants.{Blank, Garbled, Elsewhere, Stale}, declared.damage.Finding.{Finding}}
use Rattle.df_theory.specs.Units.{Block, Message}
use Rattle.df_model.specs.{declared.errors.AppendError.{AppendError}, declared.errors.FlushError.{FlushError}, declared.errors.ReplyError.{ReplyError}, declared.errors.BlockError.{BlockError}}
use Rattle.df_model.specs.{declared.errors.BeginError.{BeginError}, declared.errors.StepError.{StepError}, declared.reading.PrepareError.{PrepareError}, declared.reading.LookupError.{LookupError}}
use Rattle.df_model.specs.{declared.reading.ReadError.{ReadError}, declared.answers.Progress.{Progress}, declared.answers.Progress.TheVariants.{Working, Done}, declared.answers.Verdict.{Verdict}}
use Rattle.df_model.specs.{declared.answers.Verdict.TheVariants.{Sound, Failing}, declared.answers.Scrubbed.{Scrubbed}, declared.answers.Scrubbed.TheVariants.{Checked, TourEnd}}
use Rattle.df_model.specs.declared.errors.AppendError.TheVariants as append
use Rattle.df_model.specs.declared.errors.FlushError.TheVariants as flush
use Rattle.df_model.specs.declared.errors.ReplyError.TheVariants as reply
use Rattle.df_model.specs.declared.errors.BlockError.TheVariants as block
use Rattle.df_model.specs.declared.errors.BeginError.TheVariants as begin
use Rattle.df_model.specs.declared.errors.StepError.TheVariants as step
use Rattle.df_model.specs.declared.reading.PrepareError.TheVariants as prepare
use Rattle.df_model.specs.declared.reading.LookupError.TheVariants as lookup
use Rattle.df_model.specs.declared.reading.ReadError.TheVariants as read

-- a text as a line: the byte 10 ends it
abbrev pub line_of : List ℕ → List ℕ
line_of text = text ++ 10 ∷ []

-- a word, a space and a number; of two such texts the second stands after a space
abbrev pub numbered : List ℕ → ℕ → List ℕ
numbered word n = word ++ (32 ∷ decimal n)

abbrev pub spaced : List ℕ → List ℕ → List ℕ
spaced first second = first ++ (32 ∷ second)

-- a body: - for no bytes, else two lower hexadecimal digits for each
abbrev pub body_text : List ℕ → List ℕ
body_text [] = codes "-"
body_text (byte ∷ bytes) = encode_lower (byte ∷ bytes)

-- ---- places and classes

abbrev pub zone_name : Zone → List ℕ
zone_name Superblock = codes "Superblock"
zone_name WalHeaders = codes "WalHeaders"
zone_name WalPrepares = codes "WalPrepares"
zone_name ClientReplies = codes "ClientReplies"
zone_name Grid = codes "Grid"

abbrev pub place_text : Place → List ℕ
place_text place = numbered (zone_name place.zone) place.index

abbrev pub class_text : Class → List ℕ
class_text Blank = codes "Blank"
class_text Garbled = codes "Garbled"
class_text Stale = codes "Stale"
class_text (Elsewhere place) = spaced (codes "Elsewhere") (place_text place)

abbrev pub damaged_text : Place → Class → List ℕ
damaged_text place class = line_of (spaced (codes "refused Damaged") (spaced (place_text place) (class_text class)))

-- ---- refusals: the name of the cause and its numbers; a failing disk has no line

abbrev pub append_refusal : AppendError → List ℕ
append_refusal append.ClientZero = codes "refused ClientZero\n"
append_refusal (append.BodyTooLong max) = line_of (numbered (codes "refused BodyTooLong max") max)
append_refusal (append.ClientsFull max) = line_of (numbered (codes "refused ClientsFull max") max)
append_refusal (append.Repeated op) = line_of (numbered (codes "refused Repeated op") op)
append_refusal (append.ReplyPending op) = line_of (numbered (codes "refused ReplyPending op") op)
append_refusal (append.RequestOrder expected) = line_of (numbered (codes "refused RequestOrder expected") expected)
append_refusal (append.PipelineFull waiting) = line_of (numbered (codes "refused PipelineFull waiting") waiting)
append_refusal (append.WalFull op checkpoint_op) = line_of (spaced (numbered (codes "refused WalFull op") op) (numbered (codes "checkpoint_op") checkpoint_op))
append_refusal append.OpsSpent = codes "refused OpsSpent\n"
append_refusal append.DiskFault = []
append_refusal (append.Staged count) = line_of (numbered (codes "refused Staged count") count)

abbrev pub flush_refusal : FlushError → List ℕ
flush_refusal flush.NothingStaged = codes "refused NothingStaged\n"
flush_refusal flush.DiskFault = []

abbrev pub reply_refusal : ReplyError → List ℕ
reply_refusal (reply.NothingPending head) = line_of (numbered (codes "refused NothingPending head") head)
reply_refusal (reply.ReplyOrder expected) = line_of (numbered (codes "refused ReplyOrder expected") expected)
reply_refusal (reply.BodyTooLong max) = line_of (numbered (codes "refused BodyTooLong max") max)
reply_refusal reply.DiskFault = []

abbrev pub block_refusal : BlockError → List ℕ
block_refusal block.KindZero = codes "refused KindZero\n"
block_refusal (block.BodyTooLong max) = line_of (numbered (codes "refused BodyTooLong max") max)
block_refusal (block.GridFull blocks) = line_of (numbered (codes "refused GridFull blocks") blocks)
block_refusal block.DiskFault = []

abbrev pub begin_refusal_line : BeginError → List ℕ
begin_refusal_line (begin.Running left) = line_of (numbered (codes "refused Running left") left)
begin_refusal_line (begin.RootTooLong max) = line_of (numbered (codes "refused RootTooLong max") max)
begin_refusal_line (begin.GridFull needed free) = line_of (spaced (numbered (codes "refused GridFull needed") needed) (numbered (codes "free") free))
begin_refusal_line begin.SequenceSpent = codes "refused SequenceSpent\n"

abbrev pub step_refusal : StepError → List ℕ
step_refusal step.NotRunning = codes "refused NotRunning\n"
step_refusal (step.Damaged place class) = damaged_text place class
step_refusal step.DiskFault = []

abbrev pub prepare_refusal : PrepareError → List ℕ
prepare_refusal (prepare.NotKept first last) = line_of (spaced (numbered (codes "refused NotKept first") first) (numbered (codes "last") last))
prepare_refusal (prepare.Damaged place class) = damaged_text place class
prepare_refusal prepare.DiskFault = []

abbrev pub lookup_refusal : LookupError → List ℕ
lookup_refusal lookup.NoClient = codes "refused NoClient\n"
lookup_refusal (lookup.ReplyPending op) = line_of (numbered (codes "refused ReplyPending op") op)
lookup_refusal (lookup.Damaged place class) = damaged_text place class
lookup_refusal lookup.DiskFault = []

abbrev pub read_refusal : ReadError → List ℕ
read_refusal read.NotLive = codes "refused NotLive\n"
read_refusal (read.Damaged place class) = damaged_text place class
read_refusal read.DiskFault = []

-- ---- answers

-- what was done, or why it is refused
abbrev pub text_or : {A E : Type 0} → (E → List ℕ) → (A → List ℕ) → Result A E → List ℕ
text_or refusal done (Ok x) = done x
text_or refusal done (Err e) = refusal e

-- a prepare or a reply that was read
abbrev pub message_text : List ℕ → Message → List ℕ
message_text word p =
    line_of (spaced (numbered word p.header.op) (spaced (numbered (codes "client") p.header.client) (spaced (numbered (codes "request") p.header.request)
    (spaced (numbered (codes "mark") p.header.mark) (spaced (numbered (codes "checkpoint") p.header.checkpoint) (spaced (codes "body") (body_text p.body)))))))

abbrev pub block_text : ℕ → Block → List ℕ
block_text address b = line_of (spaced (numbered (codes "block") address) (spaced (numbered (codes "kind") b.kind) (spaced (codes "body") (body_text b.body))))

abbrev pub progress_text : Progress → List ℕ
progress_text (Working left) = line_of (numbered (codes "working") left)
progress_text (Done sequence) = line_of (numbered (codes "done") sequence)

abbrev pub verdict_text : Verdict → List ℕ
verdict_text Sound = codes "Sound"
verdict_text (Failing class) = class_text class

abbrev pub scrubbed_text : Scrubbed → List ℕ
scrubbed_text (Checked address verdict) = line_of (spaced (numbered (codes "checked") address) (verdict_text verdict))
scrubbed_text (TourEnd checked failing) = line_of (spaced (numbered (codes "tour") checked) (decimal failing))

-- each finding after a space
abbrev pub findings_text : List Finding → List ℕ
findings_text [] = []
findings_text (f ∷ fs) = 32 ∷ (spaced (decimal f.address) (class_text f.«class») ++ findings_text fs)

-- the ring of findings, the oldest first
abbrev pub recent_text : List Finding → List ℕ
recent_text fs = line_of (numbered (codes "recent") (length fs) ++ findings_text fs)
