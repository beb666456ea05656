-- A generated run over what is shown goes one way, and the numbers of its file follow from its answers.
use Rattle.std.proofs.Common.{◌≡◌, ℕ, ◌+◌, List, [], ◌∷◌, length, map, Option, Some, None, Ok, refl, sym, ◌∙◌, ap, subst}
use Rattle.{df_base.specs.{Image.{Image, IsImage}, Streams.{Appends}}, df_disk.specs.Told.{Told}, df_units.specs.Bytes.{unit_at}}
use Rattle.df_inspect.specs.{Reports.{workload_text}, declared.counts.Workload.{Workload}}
use Rattle.df_layout.specs.declared.layout.Layout.{Layout}
use Rattle.df_theory.specs.{Found.{IsFound}, Shape.{Shape}, Units.{AnyUnit, Message, Parts, Place}, View.{View, head, sequence}}
use Rattle.df_model.{specs.{After.{after_running, after_step_of, outcome, to_check, with_group, with_prepare, with_reply, with_staged}, Changing.{appended_in, begun_in, checked_in, course_on, flushed_in, memory_after, replied_in, staged_in, step_in, unless_refused}, Commands.{Advance, Answer, Append, Begin, Command, Flush, Given, Reply, Scrub, Stage, ToAdvance, ToAppend, ToFlush, ToReply, ToStage, after, supplied_sum, supplied_sums, supplied_verdict}, Making.{group_of, needed_of, place_of_reply, prepare_of, reply_of}, Memory.{Course, Memory, course, course_of, memory_of}, Refusals.{append_refusals, begin_refusals, first_refusal, flush_refusals, reply_refusals, stage_refusals}, Supply.{Codec, Shown, begun_from, next, result, shown_after}, Work.{Request, Running, Work, opened}, declared.errors.AppendError.{AppendError}, declared.errors.BeginError.{BeginError}, declared.errors.FlushError.{FlushError}, declared.errors.ReplyError.{ReplyError}, declared.answers.Progress.TheVariants.{Done as Ended}, declared.answers.Verdict.{Verdict}, declared.answers.Verdict.TheVariants.{Sound, Failing}}, proofs.Laws.{change_law, length_in}}
use Rattle.df_session.{specs.{Below.{DataFile, State as Replica, memory, shape, spelling}, Reading.{shown_of}, Serving.{Firm, Keeps, next as next_work}, Session.{Act, Exchange, acts_in, answers_in, command_in}, Codec.{codec}, Agreeing.{AgreeShown}, Begun.{begun_work}, Found.{FoundFile}, Links.{AreCalls, EndsCalls, More, NoCalls}}, proofs.Laws.{file_there, layout_there, view_there, agree_self}}
use Rattle.df_workload.specs.{Asking.{asks}, Following.{Follows}, Hearing.{heard}, Rounds.{start}, declared.state.State.{State as Run}}
use Rattle.df_top.specs.{Outside.{Outside}, Working.{WorksThrough}, Works.{WritesReport, asked_by, workload_of}, declared.status.Status.{Status}, declared.status.Status.TheVariants.{Done, Script, Words, Refused, Memory as NoMemory, DiskFault, ReadFault, WriteFault, Found}}
use Rattle.df_lifetime.{specs.Printed.{HasEnded, OnFile, PrintsOne, Twice, WorkloadHasOneText}, proofs.Alike.{agree_there, file_alike, units_alike, view_alike}}

-- ---- one way

no_command : (c : Command) → None ≡ Some c → ⊥
no_command c is = cc

module _ (sh : Shape) (by : Codec) where
  -- two runs that go on from one state ask for the same, and so are answered the same
  pub same_run : (shown : Shown) (w : Work) (s e f : Run) (cs ds : List Command) (xs ys : List Answer)
      → Follows s cs xs e → Follows s ds ys f → asks e ≡ None → asks f ≡ None → xs ≡ result sh by shown w cs → ys ≡ result sh by shown w ds
      → (e ≡ f) × (xs ≡ ys)
  same_run shown w s e f [] ds (x ∷ xs) ys one two ends ending are same = absurd one
  same_run shown w s e f (c ∷ cs) ds [] ys one two ends ending are same = absurd one
  same_run shown w s e f [] [] [] (y ∷ ys) one two ends ending are same = absurd two
  same_run shown w s e f [] (d ∷ ds) [] [] one two ends ending are same = absurd two
  same_run shown w s e f [] [] [] [] one two ends ending are same = (one ∙ sym two, refl)
  same_run shown w s e f [] (d ∷ ds) [] (y ∷ ys) one two ends ending are same = absurd (no_command d (sym ends ∙ ap asks one ∙ two.0))
  same_run shown w s e f (c ∷ cs) [] (x ∷ xs) (y ∷ ys) one two ends ending are same = absurd two
  same_run shown w s e f (c ∷ cs) (d ∷ ds) (x ∷ xs) [] one two ends ending are same = absurd two
  same_run shown w s e f (c ∷ cs) [] (x ∷ xs) [] one two ends ending are same = absurd (no_command c (sym ending ∙ ap asks two ∙ one.0))
  same_run shown w s e f (c ∷ cs) (d ∷ ds) (x ∷ xs) (y ∷ ys) one two ends ending are same =
      let both : Some c ≡ Some d = sym one.0 ∙ two.0 in let asked : d ≡ c = cc both in let here : x ≡ (next sh by shown w c).1 = cc are in
      let there : y ≡ (next sh by shown w d).1 = cc same in
      let answer : y ≡ x = there ∙ ap (λ (k : Command). (next sh by shown w k).1) asked ∙ sym here in
      let more : xs ≡ result sh by (shown_after by shown (memory_of sh by.spell w) c) (next sh by shown w c).0 cs = cc are in
      let others : ys ≡ result sh by (shown_after by shown (memory_of sh by.spell w) d) (next sh by shown w d).0 ds = cc same in let rest =
      same_run (shown_after by shown (memory_of sh by.spell w) c)
      (next sh by shown w c).0 (heard x s) e f cs ds xs ys one.1 (rw answer at two.1) ends ending more
      (rw asked at others) in (rest.0, (λ i. sym answer i ∷ rest.1 i))

-- ---- the numbers of a file

-- its head, its replies and its sequence
abbrev pub Numbers : Type 0
Numbers = ℕ × ℕ × ℕ

abbrev pub numbers_in : Memory → Numbers
numbers_in m = (m.head, m.replies, m.content.sequence)

-- what an answer makes of them, and what answers do
abbrev pub after_answer : Answer → Numbers → Numbers
after_answer (ToAppend (Ok receipt)) n = (n.0 + 1, n.1, n.2)
after_answer (ToFlush (Ok count)) n = (n.0 + count, n.1, n.2)
after_answer (ToReply (Ok sum)) n = (n.0, n.1 + 1, n.2)
after_answer (ToAdvance (Ok (Ended sequence))) n = (n.0, n.1, n.2 + 1)
after_answer x n = n

abbrev pub after_answers : List Answer → Numbers → Numbers
after_answers [] n = n
after_answers (x ∷ xs) n = after_answers xs (after_answer x n)

append_counts : (o : Option AppendError) (w u : Work) (m : Memory) (p : Message) (r : ℕ × ℕ)
    → numbers_in (unless_refused o m (appended_in m p)) ≡ after_answer (ToAppend (outcome o w u r).1) (numbers_in m)
append_counts (Some e) w u m p r = refl
append_counts None w u m p r = refl

stage_counts : (o : Option AppendError) (w u : Work) (m : Memory) (r : Request) (op : ℕ)
    → numbers_in (unless_refused o m (staged_in m r)) ≡ after_answer (ToStage (outcome o w u op).1) (numbers_in m)
stage_counts (Some e) w u m r op = refl
stage_counts None w u m r op = refl

flush_counts : (o : Option FlushError) (w u : Work) (m : Memory) (ps : List Message) (count : ℕ)
    → length ps ≡ count → numbers_in (unless_refused o m (flushed_in m ps)) ≡ after_answer (ToFlush (outcome o w u count).1) (numbers_in m)
flush_counts (Some e) w u m ps count many = refl
flush_counts None w u m ps count many = λ i. (m.head + many i, m.replies, m.content.sequence)

reply_counts : (o : Option ReplyError) (w u : Work) (m : Memory) (sum : ℕ)
    → numbers_in (unless_refused o m (replied_in m sum)) ≡ after_answer (ToReply (outcome o w u sum).1) (numbers_in m)
reply_counts (Some e) w u m sum = refl
reply_counts None w u m sum = refl

begin_counts : (o : Option BeginError) (m : Memory) (r : Option Course)
    → numbers_in (unless_refused o m (record m { running = r })) ≡ numbers_in m
begin_counts (Some e) m r = refl
begin_counts None m r = refl

module _ (sh : Shape) (spell : Parts → List ℕ) (w : Work) (given : Given) where
  abbrev m : Memory
  m = memory_of sh spell w

  left_counts : (r : Running) (l : List ℕ) → numbers_in (course_on m (supplied_sum given) (course spell r) l)
      ≡ after_answer (ToAdvance (after_running sh spell w (supplied_sum given) r l).1) (numbers_in m)
  left_counts r [] = refl
  left_counts r (a ∷ more) = refl

  step_counts : (o : Option Running) → numbers_in (step_in m (supplied_sum given) (course_of spell o))
      ≡ after_answer (ToAdvance (after_step_of sh spell w (supplied_sum given) o).1) (numbers_in m)
  step_counts None = refl
  step_counts (Some r) = left_counts r r.left

  check_counts : (v : Verdict) (xs : List (ℕ × ℕ)) → numbers_in (checked_in m v xs) ≡ numbers_in m
  check_counts v [] = refl
  check_counts Sound (x ∷ more) = refl
  check_counts (Failing class) (x ∷ more) = refl

  pub counted_one : (c : Command) → numbers_in (memory_after spell m given c) ≡ after_answer (after sh spell w given c).1 (numbers_in m)
  counted_one (Append client request body) = let p = prepare_of m (supplied_sum given) client request body in
      append_counts (first_refusal (append_refusals m client request body)) w (with_prepare w p) m p (p.header.op, supplied_sum given)
  counted_one (Stage client request body) = let r : Request = record { client = client; request = request; body = body } in
      stage_counts (first_refusal (stage_refusals m client request body)) w (with_staged w r) m r (m.head + length w.staged + 1)
  counted_one Flush = let ps = group_of m (supplied_sums given) in flush_counts (first_refusal (flush_refusals m)) w (with_group w ps) m
      ps (length w.staged) (length_in m (m.head + 1) (m.head + length w.staged) (m.head + 1) m.head_checksum w.staged (supplied_sums given))
  counted_one (Reply op body) = reply_counts (first_refusal (reply_refusals m op body))
      w (with_reply w (place_of_reply m) (reply_of m (supplied_sum given) body)) m (supplied_sum given)
  counted_one (Begin root) = begin_counts (first_refusal (begin_refusals m (needed_of spell m root) root)) m (Some (begun_in spell m root))
  counted_one Advance = step_counts w.running
  counted_one Scrub = check_counts (supplied_verdict given) (to_check m)
  counted_one command = refl

-- after calls they are what the answers make of them
pub calls_count : (s u : Replica) (old new : Option Told) (xs : List Exchange) (w : Work)
    → AreCalls s old xs u new → Keeps Firm s w None → numbers_in (memory u) ≡ after_answers (answers_in xs) (numbers_in (memory s))
calls_count s u old new [] w NoCalls k = refl
calls_count s u old new (x ∷ xs) w (More v mid c rest) k = let a : Act = x.act in let on = c.call.answers Firm w k in
    let then : Work = (next_work s.file w a.given a.command).0 in let known : memory v ≡ memory_of (shape s.file) (spelling s.file) then =
    on.1.1 ∙ ap (λ (f : DataFile). memory_of (shape f) (spelling f) then) c.call.file in
    let one : numbers_in (memory v) ≡ after_answer x.answer (numbers_in (memory s)) =
    ap numbers_in (known ∙ change_law (shape s.file) (spelling s.file) w a.given a.command k.0)
    ∙ counted_one (shape s.file) (spelling s.file) w a.given a.command
    ∙ ap (λ (y : Answer). after_answer y (numbers_in (memory_of (shape s.file) (spelling s.file) w))) (sym on.0)
    ∙ ap (λ (m : Memory). after_answer x.answer (numbers_in m)) (sym k.1) in
    calls_count v u mid new xs then rest on.1 ∙ ap (after_answers (answers_in xs)) one

-- ---- a run that came to its end

-- it has no call without an answer, and printed what it counted
module _ (run : Run) (t : Replica) (told : Option Told) (old new : Option (List ℕ)) where
  run_ended : (failed : Option Act) (status : Status) → HasEnded status → WritesReport run t told failed old new status
      → (failed ≡ None) × (status ≡ Done) × Appends old new (workload_text (workload_of run t))
  run_ended None Done ended wrote = (refl, refl, wrote)
  run_ended None Found ended wrote = absurd wrote
  run_ended (Some a) Done ended wrote = absurd wrote
  run_ended (Some a) Found ended wrote = absurd wrote
  run_ended failed Script ended wrote = absurd ended
  run_ended failed Words ended wrote = absurd ended
  run_ended failed Refused ended wrote = absurd ended
  run_ended failed NoMemory ended wrote = absurd ended
  run_ended failed DiskFault ended wrote = absurd ended
  run_ended failed ReadFault ended wrote = absurd ended
  run_ended failed WriteFault ended wrote = absurd ended

module _ (seed count : ℕ) (layout : Layout) (t : Told) (old new : Outside) (status : Status) (opening : FoundFile layout t)
    (works : WorksThrough seed count layout t opening old new status) (whole : IsImage t.shown) (ended : HasEnded status) where
  pub by_end : (works.worked.failed ≡ None)
      × (status ≡ Done) × Appends old.written new.written (workload_text (workload_of works.run works.last))
  by_end = run_ended works.run works.last new.told old.written new.written works.worked.failed status ended works.written

  pub asks_none : asks works.run ≡ None
  asks_none = works.worked.asked ∙ ap asked_by by_end.0

  found : IsFound (shape opening.replica.file) (unit_at opening.replica.file.layout opening.replica.file.cluster t.shown) opening.is_opened.view
  found = view_there layout t opening

  pub last_numbers : numbers_in (memory works.last) ≡ after_answers (answers_in works.worked.exchanges) (numbers_in (memory opening.replica))
  last_numbers = calls_count opening.replica
      works.last opening.mended new.told works.worked.exchanges (begun_work opening.replica.file t.shown opening.is_opened.view)
      (rw by_end.0 at works.worked.calls) (works.calls.stands opening.is_opened.view found)

  -- the numbers that its calls begin with are those of a view that is found
  pub first_numbers : (view : View) → IsFound (shape opening.replica.file) (unit_at opening.replica.file.layout
      opening.replica.file.cluster t.shown) view → numbers_in (memory opening.replica) ≡ (head view, view.replies, sequence view)
  first_numbers view there = ap numbers_in (works.calls.stands view there).1

  -- its answers over what is shown
  pub answers_over : (shown : Shown) → AgreeShown opening.replica.file.layout (shown_of opening.replica.file t.shown) shown
      → (answers_in works.worked.exchanges) ≡ result (shape opening.replica.file) (codec opening.replica.file)
      shown (begun_work opening.replica.file t.shown opening.is_opened.view) (map command_in (acts_in works.worked.exchanges))
  answers_over shown agree = works.calls.result opening.is_opened.view shown found agree

-- ---- two of them

module _ (seed count : ℕ) (layout : Layout) (runs : Twice layout (OnFile layout (WorksThrough seed count layout)))
    (whole : IsImage runs.one.told.shown) (entire : IsImage runs.other.told.shown) where
  abbrev a : Image
  a = runs.one.told.shown

  abbrev b : Image
  b = runs.other.told.shown

  abbrev here : FoundFile layout runs.one.told
  here = runs.one.does.0

  abbrev there : FoundFile layout runs.other.told
  there = runs.other.does.0

  abbrev u : Replica
  u = there.replica

  abbrev one : WorksThrough seed count layout runs.one.told here runs.one.old runs.one.new runs.one.status
  one = runs.one.does.1

  abbrev s : Replica
  s = here.replica

  abbrev other : WorksThrough seed count layout runs.other.told there runs.other.old runs.other.new runs.other.status
  other = runs.other.does.1

  file : s.file ≡ u.file
  file = file_there layout runs.one.told here ∙ file_alike layout a b runs.same here.found there.found here.is_opened there.is_opened
      ∙ sym (file_there layout runs.other.told there)

  views : here.is_opened.view ≡ there.is_opened.view
  views = view_alike layout a b runs.same here.found there.found here.is_opened there.is_opened

  -- what commands answer over the second image
  abbrev over : DataFile → (Place → Option AnyUnit) → View → List Command → List Answer
  over f image v cs = result (shape f) (codec f) (shown_of f b) (begun_from (shape f) (codec f) (opened (shape f) image v)) cs

  over_alike : (cs : List Command) → over s.file (unit_at s.file.layout s.file.cluster a) here.is_opened.view cs
      ≡ over u.file (unit_at u.file.layout u.file.cluster b) there.is_opened.view cs
  over_alike cs = let alike_there : unit_at s.file.layout s.file.cluster a ≡ unit_at s.file.layout s.file.cluster b =
      subst (λ (l : Layout). unit_at l s.file.cluster a
      ≡ unit_at l s.file.cluster b) (sym (layout_there layout runs.one.told here)) (units_alike layout a b runs.same s.file.cluster) in
      ap (λ (image : Place → Option AnyUnit). over s.file image here.is_opened.view cs) alike_there
      ∙ ap (λ (v : View). over s.file (unit_at s.file.layout s.file.cluster b) v cs) views
      ∙ ap (λ (f : DataFile). over f (unit_at f.layout f.cluster b) there.is_opened.view cs) file

  alike : (one.run ≡ other.run) × ((answers_in one.worked.exchanges) ≡ (answers_in other.worked.exchanges))
  alike = let w : Work = begun_work u.file b there.is_opened.view in let first =
      answers_over seed count layout runs.one.told runs.one.old runs.one.new runs.one.status
      here one whole runs.ended.0 (shown_of s.file b) (agree_there layout a b runs.same s.file (layout_there layout runs.one.told here))
      ∙ over_alike (map command_in (acts_in one.worked.exchanges)) in let second =
      answers_over seed count layout runs.other.told runs.other.old
      runs.other.new runs.other.status there other entire runs.ended.1 (shown_of u.file b) (agree_self u.file.layout (shown_of u.file b)) in
      same_run (shape u.file) (codec u.file) (shown_of u.file b) w (start seed count layout.clients) one.run other.run (map command_in (acts_in one.worked.exchanges)) (map command_in (acts_in other.worked.exchanges)) (answers_in one.worked.exchanges) (answers_in other.worked.exchanges) one.worked.follows
      other.worked.follows (asks_none seed count layout runs.one.told runs.one.old runs.one.new runs.one.status here one whole runs.ended.0)
      (asks_none seed count layout runs.other.told runs.other.old runs.other.new runs.other.status there other entire runs.ended.1)
      first second

  firsts : numbers_in (memory s) ≡ numbers_in (memory u)
  firsts = first_numbers seed count layout runs.one.told
      runs.one.old runs.one.new runs.one.status here one whole runs.ended.0 here.is_opened.view (view_there layout runs.one.told here)
      ∙ ap (λ (v : View). (head v, v.replies, sequence v)) views ∙ sym (first_numbers seed count layout runs.other.told runs.other.old
      runs.other.new runs.other.status there other entire runs.ended.1 there.is_opened.view (view_there layout runs.other.told there))

  numbers_alike : numbers_in (memory one.last) ≡ numbers_in (memory other.last)
  numbers_alike = last_numbers seed count layout runs.one.told runs.one.old runs.one.new runs.one.status here one whole runs.ended.0
      ∙ ap (after_answers (answers_in one.worked.exchanges)) firsts
      ∙ ap (λ (xs : List Answer). after_answers xs (numbers_in (memory u))) alike.1
      ∙ sym (last_numbers seed count layout runs.other.told runs.other.old runs.other.new runs.other.status there other entire runs.ended.1)

  workload_alike : workload_of one.run one.last ≡ workload_of other.run other.last
  workload_alike = λ i. record {
    appended = (alike.0 i).counts.appended;
    replied = (alike.0 i).counts.replied;
    wrote = (alike.0 i).counts.wrote;
    released = (alike.0 i).counts.released;
    checkpoints = (alike.0 i).counts.checkpoints;
    refused = (alike.0 i).counts.refused;
    bytes = (alike.0 i).counts.bytes;
    head = (numbers_alike i).0;
    replies = (numbers_alike i).1;
    sequence = (numbers_alike i).2;
  }

  prints_one : PrintsOne runs.one runs.other
  prints_one = let first = by_end seed count layout runs.one.told runs.one.old runs.one.new runs.one.status here one whole runs.ended.0 in
      let second = by_end seed count layout runs.other.told runs.other.old runs.other.new runs.other.status there other entire runs.ended.1 in
      record {
        status = first.1 ∙ sym second.1;
        text = workload_text (workload_of other.run other.last);
        first = rw workload_alike at first.2;
        second = second.2;
      }

pub workload_has_one_text : WorkloadHasOneText
workload_has_one_text seed count layout runs whole entire = prints_one seed count layout runs whole entire
