-- Answers and their order.
use Rattle.std.{proofs.{Common.{◌≡◌, ℕ, ◌+◌, ◌-◌, ◌^◌, ◌<◌, ◌≤◌, ◌==◌, ◌&&◌, ◌||◌, not, nat_lt, nat_le, Bool, true, false, List, [], ◌∷◌, length, Option, Some, None, Result, Ok, Err, refl, sym, ◌∙◌, ap, arith, eq-eqb, ne_eqb, lt-ltb, le-ltb, le-leb}, lemmas.Bool.{lt-leb, and_right, and_left, and_from}}, specs.List.{slice_get}}
use Rattle.df_theory.specs.{Units.{Parts, Session}, Shape.{Shape}}
use Rattle.df_model.{specs.{Work.{Request, Running, Work}, Memory.{Course, Memory, course_of, free_of, block_room, memory_of, message_room}, Refusals.{append_refusals, begin_refusals, block_refusals, first_refusal, flush_refusals, is_last_request, is_new, is_running, is_staged, last_op, next_request, release_refusals, reply_refusals, request_refusals, session_of_client, stage_refusals, steps_left}, Making.{first_of, group_of, needed_of, next_address, place_of_reply, prepare_of, reply_of}, After.{after_check, after_running, after_step_of, begun, lookup_answer, outcome, prepare_answer, read_answer, to_check, with_group, with_live, with_prepare, with_reply, with_running, with_staged}, Commands.{Advance, Answer, Append, Begin, Command, Flush, Given, ReadBlock, ReadPrepare, ReadReply, Recent, Release, Reply, Scrub, Stage, ToAdvance, ToAppend, ToBegin, ToFlush, ToReadBlock, ToReadPrepare, ToReadReply, ToRecent, ToRelease, ToReply, ToScrub, ToStage, ToWriteBlock, WriteBlock, after, supplied_block, supplied_message, supplied_sum, supplied_sums, supplied_verdict}, Answering.{AppendsInOrder, MemoryLaw, OrderLaw, OthersInOrder, ReplyParentLaw}, declared.errors.AppendError.{AppendError}, declared.errors.BeginError.{BeginError}, declared.errors.StepError.{StepError}, declared.errors.StepError.TheVariants.{NotRunning}, declared.answers.Progress.{Progress}, declared.answers.Progress.TheVariants.{Working, Done}, declared.answers.Verdict.{Verdict}, declared.answers.Scrubbed.{Scrubbed}, declared.answers.Scrubbed.TheVariants.{Checked, TourEnd}}, proofs.Tests.{behind_decides, first_refuses}}
use Rattle.df_model.specs.declared.errors.AppendError.TheVariants as append
use Rattle.df_model.specs.declared.errors.FlushError.TheVariants as flush
use Rattle.df_model.specs.declared.errors.ReplyError.TheVariants as reply
use Rattle.df_model.specs.declared.errors.BlockError.TheVariants as block
use Rattle.df_model.specs.declared.errors.BeginError.TheVariants as begin
use Rattle.df_model.specs.declared.reading.LookupError.TheVariants as lookup

-- ---- answers by what is in memory

abbrev pub answer_or : {E A : Type 0} → Option E → A → Result A E
answer_or (Some e) answer = Err e
answer_or None answer = Ok answer

outcome_answer : {E A : Type 0} (o : Option E) (w u : Work) (a : A) → (outcome o w u a).1 ≡ answer_or o a
outcome_answer (Some e) w u a = refl
outcome_answer None w u a = refl

abbrev pub running_answer : Memory → List ℕ → Result Progress StepError
running_answer m [] = Ok (Done (m.content.sequence + 1))
running_answer m (a ∷ more) = Ok (Working (length more + 1))

abbrev pub step_answer : Memory → Option Course → Result Progress StepError
step_answer m None = Err NotRunning
step_answer m (Some r) = running_answer m r.left

abbrev pub check_answer : Memory → Verdict → List (ℕ × ℕ) → Scrubbed
check_answer m verdict [] = TourEnd m.tour.checked m.tour.failing
check_answer m verdict (x ∷ more) = Checked x.0 verdict

abbrev pub answer_from : (Parts → List ℕ) → Memory → Given → Command → Answer
answer_from spell m given (Append client request body) =
    ToAppend (answer_or (first_refusal (append_refusals m client request body)) (m.head + 1, supplied_sum given))
answer_from spell m given (Stage client request body) =
    ToStage (answer_or (first_refusal (stage_refusals m client request body)) (m.head + length m.staged + 1))
answer_from spell m given Flush = ToFlush (answer_or (first_refusal (flush_refusals m)) (length m.staged))
answer_from spell m given (Reply op body) = ToReply (answer_or (first_refusal (reply_refusals m op body)) (supplied_sum given))
answer_from spell m given (WriteBlock kind body) =
    ToWriteBlock (answer_or (first_refusal (block_refusals m kind body)) (next_address m, supplied_sum given))
answer_from spell m given (Release address) = ToRelease (answer_or {A = Unit {0}} (first_refusal (release_refusals m address)) tt)
answer_from spell m given (Begin root) =
    ToBegin (answer_or (first_refusal (begin_refusals m (needed_of spell m root) root)) (needed_of spell m root))
answer_from spell m given Advance = ToAdvance (step_answer m m.running)
answer_from spell m given (ReadPrepare op) = ToReadPrepare (prepare_answer m (supplied_message given) op)
answer_from spell m given (ReadReply client) = ToReadReply (lookup_answer m (supplied_message given) client)
answer_from spell m given (ReadBlock address) = ToReadBlock (read_answer m (supplied_block given) address)
answer_from spell m given Scrub = ToScrub (check_answer m (supplied_verdict given) (to_check m))
answer_from spell m given Recent = ToRecent m.findings

module _ (sh : Shape) (spell : Parts → List ℕ) (w : Work) (given : Given) where
  abbrev m : Memory
  m = memory_of sh spell w

  running_is : (r : Running) (l : List ℕ) → (after_running sh spell w (supplied_sum given) r l).1 ≡ running_answer m l
  running_is r [] = refl
  running_is r (a ∷ more) = refl

  step_is : (o : Option Running) → (after_step_of sh spell w (supplied_sum given) o).1 ≡ step_answer m (course_of spell o)
  step_is None = refl
  step_is (Some r) = running_is r r.left

  check_is : (xs : List (ℕ × ℕ)) → (after_check w (supplied_verdict given) xs).1 ≡ check_answer m (supplied_verdict given) xs
  check_is [] = refl
  check_is (x ∷ more) = refl

  pub answer_is : (c : Command) → (after sh spell w given c).1 ≡ answer_from spell m given c
  answer_is (Append client request body) = ap ToAppend (outcome_answer (first_refusal (append_refusals m client request body))
      w (with_prepare w (prepare_of m (supplied_sum given) client request body)) (m.head + 1, supplied_sum given))
  answer_is (Stage client request body) = ap ToStage (outcome_answer (first_refusal (stage_refusals m client request body))
      w (with_staged w (record { client = client; request = request; body = body })) (m.head + length m.staged + 1))
  answer_is Flush =
      ap ToFlush (outcome_answer (first_refusal (flush_refusals m)) w (with_group w (group_of m (supplied_sums given))) (length m.staged))
  answer_is (Reply op body) = ap ToReply (outcome_answer (first_refusal (reply_refusals m op body))
      w (with_reply w (place_of_reply m) (reply_of m (supplied_sum given) body)) (supplied_sum given))
  answer_is (WriteBlock kind body) = ap ToWriteBlock (outcome_answer (first_refusal (block_refusals m kind body))
      w (with_live w (next_address m) (Some (supplied_sum given))) (next_address m, supplied_sum given))
  answer_is (Release address) =
      ap ToRelease (outcome_answer {A = Unit {0}} (first_refusal (release_refusals m address)) w (with_live w address None) tt)
  answer_is (Begin root) = ap ToBegin (outcome_answer (first_refusal (begin_refusals m (needed_of spell m root) root))
      w (with_running w (Some (begun sh spell w root))) (needed_of spell m root))
  answer_is Advance = ap ToAdvance (step_is w.running)
  answer_is Scrub = ap ToScrub (check_is (to_check m))
  answer_is command = refl

pub memory_law : MemoryLaw
memory_law sh spell w u given c same =
    answer_is sh spell w given c ∙ ap (λ (m : Memory). answer_from spell m given c) same ∙ sym (answer_is sh spell u given c)

-- ---- the order

-- a test that holds is answered, and one that doesn't is passed
hit : {E : Type 0} (t : Bool × E) (ts : List (Bool × E)) → t.0 ≡ true → first_refusal (t ∷ ts) ≡ Some t.1
hit (true, e) ts is = refl
hit (false, e) ts is = absurd (cc)

skip : {E : Type 0} (t : Bool × E) (ts : List (Bool × E)) (o : Option E) → t.0 ≡ false → first_refusal ts ≡ o → first_refusal (t ∷ ts) ≡ o
skip (true, e) ts o is rest = absurd (cc)
skip (false, e) ts o is rest = rest

module _ (m : Memory) (client request : ℕ) (body : List ℕ) where
  abbrev session : Option Session
  session = session_of_client client m.sessions

  abbrev zero_test : Bool × AppendError
  zero_test = (client == 0, append.ClientZero)

  abbrev long_test : Bool × AppendError
  long_test = (nat_lt (message_room m.layout) (length body), append.BodyTooLong (message_room m.layout))

  abbrev full_test : Bool × AppendError
  full_test = (is_new session && (length m.sessions == m.layout.clients), append.ClientsFull m.layout.clients)

  abbrev repeated_test : Bool × AppendError
  repeated_test = (is_last_request request session && nat_le (last_op session) m.replies, append.Repeated (last_op session))

  abbrev pending_test : Bool × AppendError
  pending_test = (nat_lt m.replies (last_op session), append.ReplyPending (last_op session))

  abbrev number_test : Bool × AppendError
  number_test = (not (request == next_request session), append.RequestOrder (next_request session))

  -- the tests after these
  abbrev last : List (Bool × AppendError)
  last = (m.head - m.replies == 8, append.PipelineFull (m.head - m.replies))
      ∷ (nat_lt (m.content.op + m.layout.slots) (m.head + 1), append.WalFull (m.head + 1) m.content.op)
      ∷ ((m.head == 2 ^ 62) || nat_lt (2 ^ 62) request, append.OpsSpent) ∷ (is_staged m, append.Staged (length m.staged)) ∷ []

  abbrev after_pending : List (Bool × AppendError)
  after_pending = number_test ∷ last

  abbrev after_repeated : List (Bool × AppendError)
  after_repeated = pending_test ∷ after_pending

  abbrev after_full : List (Bool × AppendError)
  after_full = repeated_test ∷ after_repeated

  past_two : (o : Option AppendError) → 0 < client → length body ≤ message_room m.layout
      → first_refusal (full_test ∷ after_full) ≡ o → first_refusal (append_refusals m client request body) ≡ o
  past_two o named fits more = skip zero_test (long_test ∷ full_test ∷ after_full) o (ne_eqb client 0 (λ same. omega arith))
      (skip long_test (full_test ∷ after_full) o (le-ltb (message_room m.layout) (length body) fits) more)

  module _ (s : Session) (known : session ≡ Some s) where
    not_full : full_test.0 ≡ false
    not_full = ap (λ (o : Option Session). is_new o && (length m.sessions == m.layout.clients)) known

    is_repeated : request ≡ s.request → s.op ≤ m.replies → repeated_test.0 ≡ true
    is_repeated same stored = ap (λ (o : Option Session). is_last_request request o && nat_le (last_op o) m.replies) known
        ∙ and_from (request == s.request) (nat_le s.op m.replies) (eq-eqb request s.request same) (le-leb s.op m.replies stored)

    not_stored : m.replies < s.op → repeated_test.0 ≡ false
    not_stored waits = ap (λ (o : Option Session). is_last_request request o && nat_le (last_op o) m.replies) known
        ∙ and_right (request == s.request) (nat_le s.op m.replies) (lt-leb s.op m.replies waits)

    not_last : (request ≡ s.request → ⊥) → repeated_test.0 ≡ false
    not_last apart = ap (λ (o : Option Session). is_last_request request o && nat_le (last_op o) m.replies) known
        ∙ and_left (request == s.request) (nat_le s.op m.replies) (ne_eqb request s.request apart)

    is_pending : m.replies < s.op → pending_test.0 ≡ true
    is_pending waits = ap (λ (o : Option Session). nat_lt m.replies (last_op o)) known ∙ lt-ltb m.replies s.op waits

    not_pending : s.op ≤ m.replies → pending_test.0 ≡ false
    not_pending stored = ap (λ (o : Option Session). nat_lt m.replies (last_op o)) known ∙ le-ltb m.replies s.op stored

    is_numbered : s.request + 1 < request → number_test.0 ≡ true
    is_numbered above =
        ap (λ (o : Option Session). not (request == next_request o)) known ∙ ap not (ne_eqb request (s.request + 1) (λ same. omega arith))

    repeats : request ≡ s.request → s.op ≤ m.replies → first_refusal (full_test ∷ after_full) ≡ Some (append.Repeated s.op)
    repeats same stored = skip full_test after_full _ not_full
        (hit repeated_test after_repeated (is_repeated same stored) ∙ ap (λ (o : Option Session). Some (append.Repeated (last_op o))) known)

    waits : m.replies < s.op → first_refusal (full_test ∷ after_full) ≡ Some (append.ReplyPending s.op)
    waits late = skip full_test after_full _ not_full (skip repeated_test after_repeated _ (not_stored late)
        (hit pending_test after_pending (is_pending late) ∙ ap (λ (o : Option Session). Some (append.ReplyPending (last_op o))) known))

    orders : s.op ≤ m.replies → s.request + 1 < request → first_refusal (full_test ∷ after_full) ≡ Some (append.RequestOrder (s.request + 1))
    orders stored above = skip full_test after_full _ not_full
        (skip repeated_test after_repeated _ (not_last (λ same. omega arith)) (skip pending_test after_pending _ (not_pending stored)
        (hit number_test last (is_numbered above) ∙ ap (λ (o : Option Session). Some (append.RequestOrder (next_request o))) known)))

  appends : AppendsInOrder m client request body
  appends = record {
    zero = λ same. hit zero_test (long_test ∷ full_test ∷ after_full) (eq-eqb client 0 same);
    long = λ named long. skip zero_test (long_test ∷ full_test ∷ after_full) _ (ne_eqb client 0 (λ same. omega arith))
        (hit long_test (full_test ∷ after_full) (lt-ltb (message_room m.layout) (length body) long));
    full = λ named fits new full. past_two _ named fits (hit full_test after_full (and_from
        (is_new session) (length m.sessions == m.layout.clients) (ap is_new new) (eq-eqb (length m.sessions) m.layout.clients full)));
    repeated = λ s named fits known same stored. past_two _ named fits (repeats s known same stored);
    pending = λ s named fits known late. past_two _ named fits (waits s known late);
    number = λ s named fits known stored above. past_two _ named fits (orders s known stored above);
    first = λ e some. first_refuses (request_refusals m client request body) ((is_staged m, append.Staged (length m.staged)) ∷ []) e some;
    staged = λ none some. behind_decides (request_refusals m client request body) ((is_staged m, append.Staged (length m.staged)) ∷ []) none
        ∙ hit (is_staged m, append.Staged (length m.staged)) [] (lt-ltb 0 (length m.staged) some);
  }

  others : OthersInOrder m request body
  others = record {
    unstaged = λ none. hit (not (is_staged m), flush.NothingStaged) [] (ap (λ (rs : List Request). not (nat_lt 0 (length rs))) none);
    nothing = λ same. hit (m.replies == m.head, reply.NothingPending m.head) ((not (request == m.replies + 1), reply.ReplyOrder (m.replies + 1)) ∷ (long_test.0, reply.BodyTooLong (message_room m.layout)) ∷ []) (eq-eqb m.replies m.head same);
    kind = λ same. hit (request == 0, block.KindZero) ((nat_lt (block_room m.layout) (length body), block.BodyTooLong (block_room m.layout))
        ∷ (length (free_of m) == 0, block.GridFull m.layout.blocks) ∷ []) (eq-eqb request 0 same);
    running = λ r at. ap (λ (o : Option Course). first_refusal (begin_refusals (record m { running = o }) request body)) at;
    long = λ at long. skip (is_running m.running, begin.Running (steps_left m.running))
        (begin_long ∷ begin_last) _ (ap is_running at) (hit begin_long begin_last (lt-ltb 1024 (length body) long));
    unknown = λ new. hit (is_new session_there, lookup.NoClient)
        ((nat_lt m.replies (last_op session_there), lookup.ReplyPending (last_op session_there)) ∷ []) (ap is_new new);
  }
    where
      begin_long : Bool × BeginError
      begin_long = (nat_lt 1024 (length body), begin.RootTooLong 1024)

      begin_last : List (Bool × BeginError)
      begin_last = (nat_lt (length (free_of m)) request, begin.GridFull request (length (free_of m)))
          ∷ (m.content.sequence == 2 ^ 62, begin.SequenceSpent) ∷ []

      session_there : Option Session
      session_there = session_of_client request m.sessions

pub order_law : OrderLaw
order_law m client request body = (appends m client request body, others m client request body)

-- ---- the parent of a reply

parent_of : (sums : List ℕ) (c : ℕ) → slice_get sums 0 ≡ Some c → first_of sums ≡ c
parent_of [] c is = absurd (cc)
parent_of (x ∷ sums) c is = (let both : Some x ≡ Some c = is in cc)

pub reply_parent_law : ReplyParentLaw
reply_parent_law sh spell w sum body p work at op = parent_of w.waiting p.header.checksum (work.waiting.each 0 p at (omega (arith, op)))
