-- What each call answers, and the state that it leads to.
use Rattle.std.specs.{Prelude.{ℕ, suc, ◌+◌, ◌-◌, ◌%◌, ◌==◌, nat_lt, if◌then◌else◌, List, [], ◌∷◌, ◌++◌, length, map, take, drop, Option, Some, None, Result, Ok, Err}, List.{filter}}
use Rattle.df_layout.specs.{declared.damage.Class.{Class}, declared.damage.Finding.{Finding}, declared.places.Zone.TheVariants.{WalPrepares, ClientReplies, Grid}}
use Rattle.df_theory.specs.{Units.{Block, Message, Parts, Session}, Shape.{Shape}, View.{Checkpoint, sequence}, Next.{appended, checkpointed, replied}}
use Rattle.df_model.specs.{Work.{Request, Running, Work, first_tour}, Memory.{Memory, free_of, referenced_of, course, memory_of, sum_of_message}}
use Rattle.df_model.specs.Refusals.{append_refusals, begin_refusals, block_refusals, first_refusal, flush_refusals, lookup_refusals, prepare_refusals, read_refusals, release_refusals, reply_refusals, stage_refusals}
use Rattle.df_model.specs.{Making.{finishing_content, group_of, needed_of, next_address, parts_of, place_of_reply, prepare_of, reply_of, trailer_block}, declared.errors.AppendError.{AppendError}}
use Rattle.df_model.specs.{declared.errors.FlushError.{FlushError}, declared.errors.ReplyError.{ReplyError}, declared.errors.BlockError.{BlockError}, declared.errors.NotLive.{NotLive}}
use Rattle.df_model.specs.{declared.errors.BeginError.{BeginError}, declared.errors.StepError.{StepError}, declared.errors.StepError.TheVariants.{NotRunning}, declared.answers.Progress.{Progress}}
use Rattle.df_model.specs.{declared.answers.Progress.TheVariants.{Working, Done}, declared.reading.PrepareError.{PrepareError}, declared.reading.LookupError.{LookupError}}
use Rattle.df_model.specs.{declared.reading.ReadError.{ReadError}, declared.answers.Verdict.{Verdict}, declared.answers.Verdict.TheVariants.{Sound, Failing}, declared.answers.Scrubbed.{Scrubbed}}
use Rattle.df_model.specs.declared.answers.Scrubbed.TheVariants.{Checked, TourEnd}
use Rattle.df_model.specs.declared.reading.PrepareError.TheVariants as prepare
use Rattle.df_model.specs.declared.reading.LookupError.TheVariants as lookup
use Rattle.df_model.specs.declared.reading.ReadError.TheVariants as read

-- the answer of a call, and the state after it: a refused call leaves the state as it was
abbrev pub outcome : {E A : Type 0} → Option E → Work → Work → A → Work × Result A E
outcome (Some e) w u answer = (w, Err e)
outcome None w u answer = (u, Ok answer)

-- ---- prepares and replies

abbrev pub with_prepare : Work → Message → Work
with_prepare w p = record w { view = appended w.view (p ∷ []); waiting = w.waiting ++ p.header.checksum ∷ [] }

-- the op and the checksum of the prepare
abbrev pub after_append : Shape → (Parts → List ℕ) → Work → (sum client request : ℕ) → List ℕ → Work × Result (ℕ × ℕ) AppendError
after_append sh spell w sum client request body =
    let p = prepare_of (memory_of sh spell w) sum client request body in
    outcome (first_refusal (append_refusals (memory_of sh spell w) client request body)) w (with_prepare w p) (p.header.op, sum)

abbrev pub with_staged : Work → Request → Work
with_staged w r = record w { staged = w.staged ++ r ∷ [] }

-- the op that the request is to get
abbrev pub after_stage : Shape → (Parts → List ℕ) → Work → (client request : ℕ) → List ℕ → Work × Result ℕ AppendError
after_stage sh spell w client request body =
    let m = memory_of sh spell w in
    outcome (first_refusal (stage_refusals m client request body)) w (with_staged w (record { client = client; request = request; body = body })) (m.head + length m.staged + 1)

-- with a group of prepares more, and nothing staged
abbrev pub with_group : Work → List Message → Work
with_group w ps = record w { view = appended w.view ps; waiting = w.waiting ++ map sum_of_message ps; staged = [] }

-- how many prepares were appended
abbrev pub after_flush : Shape → (Parts → List ℕ) → Work → (sums : List ℕ) → Work × Result ℕ FlushError
after_flush sh spell w sums =
    let m = memory_of sh spell w in
    outcome (first_refusal (flush_refusals m)) w (with_group w (group_of m sums)) (length m.staged)

abbrev pub with_reply : Work → ℕ → Message → Work
with_reply w place r = record w { view = replied w.view place r; waiting = drop 1 w.waiting }

-- the checksum of the reply
abbrev pub after_reply : Shape → (Parts → List ℕ) → Work → (sum op : ℕ) → List ℕ → Work × Result ℕ ReplyError
after_reply sh spell w sum op body =
    let m = memory_of sh spell w in
    outcome (first_refusal (reply_refusals m op body)) w (with_reply w (place_of_reply m) (reply_of m sum body)) sum

-- ---- blocks

abbrev pub with_live : Work → ℕ → Option ℕ → Work
with_live w a sum = record w { live = λ k. if k == a then sum else w.live k }

-- the address and the checksum of the block
abbrev pub after_block : Shape → (Parts → List ℕ) → Work → (sum kind : ℕ) → List ℕ → Work × Result (ℕ × ℕ) BlockError
after_block sh spell w sum kind body =
    let a = next_address (memory_of sh spell w) in
    outcome (first_refusal (block_refusals (memory_of sh spell w) kind body)) w (with_live w a (Some sum)) (a, sum)

abbrev pub after_release : Shape → (Parts → List ℕ) → Work → (address : ℕ) → Work × Result (Unit {0}) NotLive
after_release sh spell w address = outcome (first_refusal (release_refusals (memory_of sh spell w) address)) w (with_live w address None) tt

-- ---- checkpoints

-- a checkpoint is begun: its trailer takes the least addresses that aren't held
abbrev pub begun : Shape → (Parts → List ℕ) → Work → (root : List ℕ) → Running
begun sh spell w root =
    let m = memory_of sh spell w in
    record {
      op = m.head;
      op_checksum = m.head_checksum;
      parts = parts_of m root;
      written = [];
      left = take (needed_of spell m root) (free_of m);
    }

abbrev pub with_running : Work → Option Running → Work
with_running w r = record w { running = r }

-- how many blocks the trailer has
abbrev pub after_begin : Shape → (Parts → List ℕ) → Work → (root : List ℕ) → Work × Result ℕ BeginError
after_begin sh spell w root =
    let needed = needed_of spell (memory_of sh spell w) root in
    outcome (first_refusal (begin_refusals (memory_of sh spell w) needed root)) w (with_running w (Some (begun sh spell w root))) needed

-- the checkpoint that the running one ends as
abbrev pub checkpoint_of : Shape → (Parts → List ℕ) → Work → Running → (sum : ℕ) → Checkpoint
checkpoint_of sh spell w r sum = record { content = finishing_content (memory_of sh spell w) (course spell r) sum; chain = r.written; parts = r.parts }

-- the next block of the running trailer
abbrev pub next_trailer : Shape → (Parts → List ℕ) → Work → Running → (sum : ℕ) → Block
next_trailer sh spell w r sum = trailer_block (memory_of sh spell w) (course spell r) sum

abbrev pub with_trailer_block : Work → Running → (a : ℕ) → Block → List ℕ → Work
with_trailer_block w r a b more = with_running w (Some (record r { written = (a, b) ∷ r.written; left = more }))

abbrev pub finished : Shape → (Parts → List ℕ) → Work → Running → (sum : ℕ) → Work
finished sh spell w r sum = record w { view = checkpointed w.view (checkpoint_of sh spell w r sum); running = None }

-- a step writes the next block of the trailer; where all are written, it finishes the checkpoint
abbrev pub after_running : Shape → (Parts → List ℕ) → Work → (sum : ℕ) → Running → List ℕ → Work × Result Progress StepError
after_running sh spell w sum r [] = (finished sh spell w r sum, Ok (Done (sequence w.view + 1)))
after_running sh spell w sum r (a ∷ more) = (with_trailer_block w r a (next_trailer sh spell w r sum) more, Ok (Working (length more + 1)))

abbrev pub after_step_of : Shape → (Parts → List ℕ) → Work → (sum : ℕ) → Option Running → Work × Result Progress StepError
after_step_of sh spell w sum None = (w, Err NotRunning)
after_step_of sh spell w sum (Some r) = after_running sh spell w sum r r.left

abbrev pub after_advance : Shape → (Parts → List ℕ) → Work → (sum : ℕ) → Work × Result Progress StepError
after_advance sh spell w sum = after_step_of sh spell w sum w.running

-- ---- reads

-- the unit that is wanted at a place, or the class of what is shown there
abbrev pub shown_or : {X E : Type 0} → Option E → (Class → E) → Result X Class → Result X E
shown_or (Some e) damaged shown = Err e
shown_or None damaged (Ok x) = Ok x
shown_or None damaged (Err class) = Err (damaged class)

abbrev pub prepare_answer : Memory → Result Message Class → (op : ℕ) → Result Message PrepareError
prepare_answer m shown op = shown_or (first_refusal (prepare_refusals m op)) (prepare.Damaged (record { zone = WalPrepares; index = op % m.layout.slots })) shown

abbrev pub place_of_client : ℕ → List Session → ℕ
place_of_client client [] = 0
place_of_client client (s ∷ ss) = if s.client == client then 0 else suc (place_of_client client ss)

abbrev pub lookup_answer : Memory → Result Message Class → (client : ℕ) → Result Message LookupError
lookup_answer m shown client = shown_or (first_refusal (lookup_refusals m client)) (lookup.Damaged (record { zone = ClientReplies; index = place_of_client client m.sessions })) shown

abbrev pub read_answer : Memory → Result Block Class → (address : ℕ) → Result Block ReadError
read_answer m shown address = shown_or (first_refusal (read_refusals m address)) (read.Damaged (record { zone = Grid; index = address })) shown

-- ---- the scrubber

-- the referenced addresses that this tour has yet to check, from the least on, each with its checksum
abbrev pub to_check : Memory → List (ℕ × ℕ)
to_check m = filter (λ x. nat_lt m.tour.last x.0) (referenced_of m)

-- the newest 64
abbrev pub newest : List Finding → List Finding
newest fs = drop (length fs - 64) fs

abbrev pub with_verdict : Work → (address : ℕ) → Verdict → Work
with_verdict w a Sound = record w { tour = record { last = a; checked = w.tour.checked + 1; failing = w.tour.failing } }
with_verdict w a (Failing class) = record w { tour = record { last = a; checked = w.tour.checked + 1; failing = w.tour.failing + 1 }; findings = newest (w.findings ++ record { address = a; «class» = class } ∷ []) }

-- a tour that has nothing more to check ends, and the next one begins
abbrev pub after_check : Work → Verdict → List (ℕ × ℕ) → Work × Scrubbed
after_check w verdict [] = (record w { tour = first_tour }, TourEnd w.tour.checked w.tour.failing)
after_check w verdict (x ∷ more) = (with_verdict w x.0 verdict, Checked x.0 verdict)

abbrev pub after_scrub : Shape → (Parts → List ℕ) → Work → Verdict → Work × Scrubbed
after_scrub sh spell w verdict = after_check w verdict (to_check (memory_of sh spell w))
