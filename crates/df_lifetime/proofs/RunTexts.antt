-- What a generated run prints: its counts count its answers, and so they say how far the numbers of the file went on.
use Rattle.std.{proofs.Common.{◌≡◌, ℕ, ◌+◌, Bool, true, false, if◌then◌else◌, List, [], ◌∷◌, map, Some, Result, Ok, Err, refl, sym, ◌∙◌, ap, subst, arith}, specs.Prelude.{slice_index}}
use Rattle.{df_base.specs.{Image.{IsImage}, Streams.{Appends}}, df_disk.specs.Told.{Told}, df_layout.specs.declared.layout.Layout.{Layout}}
use Rattle.{df_inspect.specs.{Reports.{workload_text}, declared.counts.Workload.{Workload}}, df_units.specs.Bytes.{unit_at}}
use Rattle.df_theory.specs.{Found.{IsFound}, Shape.{Shape}, View.{View, head, sequence}}
use Rattle.df_model.specs.{After.{after_advance, after_begin, after_block, after_release}, Commands.{Advance, Answer, Command, ToAdvance, ToAppend, ToBegin, ToFlush, ToRelease, ToReply, ToWriteBlock, WriteBlock}, Memory.{memory_of}, Supply.{Codec, Shown, checksum_given, next, result, shown_after}, Work.{Work}, declared.answers.Progress.{Progress}, declared.answers.Progress.TheVariants.{Done as Ended, Working}, declared.errors.AppendError.{AppendError}, declared.errors.BeginError.{BeginError}, declared.errors.BlockError.{BlockError}, declared.errors.NotLive.{NotLive}, declared.errors.ReplyError.{ReplyError}, declared.errors.StepError.{StepError}}
use Rattle.df_session.{specs.{Below.{DataFile, memory, shape}, Reading.{shown_of}, Codec.{codec}, Begun.{begun_work}, Found.{FoundFile}, Session.{acts_in, answers_in, command_in}}, proofs.Laws.{layout_there, agree_self}}
use Rattle.df_workload.{specs.{Asking.{asks_at, number_body}, Draw.{drawn_body}, Following.{Follows}, Hearing.{append_heard, begin_heard, block_heard, heard, outcome_of, release_heard, reply_heard, stepped, told_at}, Rounds.{after_reply, start, to_begin, to_block, to_next, to_release, to_replies, to_step}, declared.state.Point.{Point}, declared.state.Point.TheVariants.{Appending, Replying, Stepping, Writing, Releasing, Beginning, Ending}, declared.state.State.{State as Run}}, proofs.Laws.{asks_end}}
use Rattle.df_top.specs.{Outside.{Outside}, Working.{WorksThrough}, Works.{workload_of, workload_with}, declared.status.Status.{Status}, declared.status.Status.TheVariants.{Done}}
use Rattle.df_lifetime.{specs.Printed.{HasEnded, IsRun, OneRun, RunTextIsResult, run_text, workload_by}, proofs.OneRun.{Numbers, after_answer, after_answers, asks_none, by_end, first_numbers, last_numbers, numbers_in, same_run}}

-- ---- what is counted

abbrev counted : Run → Numbers
counted s = (s.counts.appended, s.counts.replied, s.counts.checkpoints)

-- where a run goes on counts nothing
either_counts : (b : Bool) (n : Numbers) (s u : Run) → counted s ≡ n → counted u ≡ n → counted (if b then s else u) ≡ n
either_counts true n s u one other = one
either_counts false n s u one other = other

next_counts : (s : Run) → counted (to_next s) ≡ counted s
next_counts s = either_counts _ (counted s) _ _ refl refl

begin_counts : (s : Run) → counted (to_begin s) ≡ counted s
begin_counts s = either_counts _ (counted s) _ _ refl (next_counts s)

release_counts : (s : Run) → counted (to_release s) ≡ counted s
release_counts s = either_counts _ (counted s) _ _ refl (begin_counts s)

block_counts : (s : Run) → counted (to_block s) ≡ counted s
block_counts s = either_counts _ (counted s) _ _ refl (begin_counts s)

step_counts : (s : Run) → counted (to_step s) ≡ counted s
step_counts s = either_counts _ (counted s) _ _ refl (block_counts s)

replies_counts : (s : Run) → counted (to_replies s) ≡ counted s
replies_counts s = either_counts _ (counted s) _ _ refl (step_counts s)

reply_counts : (op : ℕ) (s : Run) → counted (after_reply op s) ≡ counted s
reply_counts op s = either_counts _ (counted s) _ _ refl (step_counts s)

-- an answer to what is asked for counts as it does for the file
heard_append : (s : Run) (r : Result (ℕ × ℕ) AppendError)
    → counted (to_replies (append_heard (outcome_of (ToAppend r)) s)) ≡ after_answer (ToAppend r) (counted s)
heard_append s (Ok receipt) = replies_counts (append_heard (outcome_of (ToAppend (Ok receipt))) s)
heard_append s (Err e) = replies_counts (append_heard (outcome_of (ToAppend (Err e))) s)

heard_reply : (op : ℕ) (s : Run) (r : Result ℕ ReplyError)
    → counted (after_reply op (reply_heard (outcome_of (ToReply r)) s)) ≡ after_answer (ToReply r) (counted s)
heard_reply op s (Ok sum) = reply_counts op (reply_heard (outcome_of (ToReply (Ok sum))) s)
heard_reply op s (Err e) = reply_counts op (reply_heard (outcome_of (ToReply (Err e))) s)

heard_step : (s : Run) (r : Result Progress StepError)
    → counted (stepped (outcome_of (ToAdvance r)) s) ≡ after_answer (ToAdvance r) (counted s)
heard_step s (Ok (Working left)) = refl
heard_step s (Ok (Ended sequence)) = refl
heard_step s (Err e) = refl

heard_write : (s : Run) (r : Result (ℕ × ℕ) BlockError) → counted (to_release (block_heard (outcome_of (ToWriteBlock r)) s)) ≡ counted s
heard_write s (Ok reference) = release_counts (block_heard (outcome_of (ToWriteBlock (Ok reference))) s)
heard_write s (Err e) = release_counts (block_heard (outcome_of (ToWriteBlock (Err e))) s)

heard_release : (s : Run) (r : Result (Unit {0}) NotLive) → counted (to_begin (release_heard (outcome_of (ToRelease r)) s)) ≡ counted s
heard_release s (Ok done) = begin_counts (release_heard (outcome_of (ToRelease (Ok done))) s)
heard_release s (Err e) = begin_counts (release_heard (outcome_of (ToRelease (Err e))) s)

heard_begin : (s : Run) (r : Result ℕ BeginError) → counted (to_next (begin_heard (outcome_of (ToBegin r)) s)) ≡ counted s
heard_begin s (Ok blocks) = next_counts (begin_heard (outcome_of (ToBegin (Ok blocks))) s)
heard_begin s (Err e) = next_counts (begin_heard (outcome_of (ToBegin (Err e))) s)

same_command : (a c : Command) → Some a ≡ Some c → a ≡ c
same_command a c is = cc is

module _ (sh : Shape) (by : Codec) (shown : Shown) (w : Work) where
  abbrev Counts : Point → Run → Command → Type 0
  Counts p s c = counted (told_at p (outcome_of (next sh by shown w c).1) s) ≡ after_answer (next sh by shown w c).1 (counted s)

  abbrev sum : Command → ℕ
  sum c = checksum_given by (memory_of sh by.spell w) c

  point_counts : (p : Point) (s : Run) (c : Command) → asks_at p s ≡ Some c → Counts p s c
  point_counts Appending s c is = subst (Counts Appending s) (same_command _ c is) (heard_append s _)
  point_counts (Replying op) s c is = subst (Counts (Replying op) s) (same_command _ c is) (heard_reply op s _)
  point_counts Stepping s c is = let r : Result Progress StepError = (after_advance sh by.spell w (sum Advance)).1 in
      subst (Counts Stepping s) (same_command Advance c is) (block_counts (stepped (outcome_of (ToAdvance r)) s) ∙ heard_step s r)
  point_counts Writing s c is = subst (Counts Writing s)
      (same_command _ c is) (heard_write s (after_block sh by.spell w (sum (WriteBlock 1 (drawn_body s.number))) 1 (drawn_body s.number)).1)
  point_counts Releasing s c is =
      subst (Counts Releasing s) (same_command _ c is) (heard_release s (after_release sh by.spell w (slice_index s.held 0)).1)
  point_counts Beginning s c is =
      subst (Counts Beginning s) (same_command _ c is) (heard_begin s (after_begin sh by.spell w (number_body s.round)).1)
  point_counts Ending s c is = subst (Counts Ending s) (asks_end s.running c is) (heard_step s _)

module _ (sh : Shape) (by : Codec) where
  -- so do all of them
  run_counts : (shown : Shown) (w : Work) (s e : Run) (cs : List Command) (xs : List Answer)
      → Follows s cs xs e → xs ≡ result sh by shown w cs → counted e ≡ after_answers xs (counted s)
  run_counts shown w s e [] [] one are = ap counted one
  run_counts shown w s e [] (x ∷ xs) one are = absurd one
  run_counts shown w s e (c ∷ cs) [] one are = absurd one
  run_counts shown w s e (c ∷ cs) (x ∷ xs) one are = let here : x ≡ (next sh by shown w c).1 = cc are in
      let more : xs ≡ result sh by (shown_after by shown (memory_of sh by.spell w) c) (next sh by shown w c).0 cs = cc are in
      let first : counted (heard x s) ≡ after_answer x (counted s) =
      rw (sym here) at (point_counts sh by shown w s.point s c one.0) in
      run_counts (shown_after by shown (memory_of sh by.spell w) c) (next sh by shown w c).0 (heard x s) e cs xs one.1 more
      ∙ ap (after_answers xs) first

-- ---- from any numbers on

abbrev added : Numbers → Numbers → Numbers
added n m = (n.0 + m.0, n.1 + m.1, n.2 + m.2)

same_numbers : (a b c x y z : ℕ) → a ≡ x → b ≡ y → c ≡ z → let n : Numbers = (a, b, c) in n ≡ (x, y, z)
same_numbers a b c x y z one two three = λ i. (one i, two i, three i)

one_added : (x : Answer) (n m : Numbers) → after_answer x (added n m) ≡ added n (after_answer x m)
one_added (ToAppend (Ok receipt)) n m = same_numbers _ _ _ _ _ _ (omega arith) refl refl
one_added (ToFlush (Ok count)) n m = same_numbers _ _ _ _ _ _ (omega arith) refl refl
one_added (ToReply (Ok sum)) n m = same_numbers _ _ _ _ _ _ refl (omega arith) refl
one_added (ToAdvance (Ok (Ended k))) n m = same_numbers _ _ _ _ _ _ refl refl (omega arith)
one_added x n m = refl

none_added : (n : Numbers) → n ≡ added n (0, 0, 0)
none_added n = same_numbers _ _ _ _ _ _ (omega arith) (omega arith) (omega arith)

all_added : (xs : List Answer) (n m : Numbers) → after_answers xs (added n m) ≡ added n (after_answers xs m)
all_added [] n m = refl
all_added (x ∷ xs) n m = ap (after_answers xs) (one_added x n m) ∙ all_added xs n (after_answer x m)

-- ---- the laws

pub one_run : OneRun
one_run seed count file image view run other one two =
    let by : List Command → List Answer = result (shape file) (codec file) (shown_of file image) (begun_work file image view) in
    (same_run (shape file) (codec file) (shown_of file image) (begun_work file image view)
    (start seed count file.layout.clients) run other one.commands two.commands (by one.commands) (by two.commands)
    one.follows two.follows one.ends two.ends refl refl).0

module _ (seed count : ℕ) (layout : Layout) (t : Told) (old new : Outside) (status : Status)
    (opening : FoundFile layout t) (works : WorksThrough seed count layout t opening old new status) (view : View) (whole : IsImage t.shown)
    (found : IsFound (shape opening.replica.file) (unit_at opening.replica.file.layout opening.replica.file.cluster t.shown) view)
    (ended : HasEnded status) where
  abbrev file : DataFile
  file = opening.replica.file

  abbrev w : Work
  w = begun_work file t.shown view

  answers_are : (answers_in works.worked.exchanges)
      ≡ result (shape file) (codec file) (shown_of file t.shown) w (map command_in (acts_in works.worked.exchanges))
  answers_are = works.calls.result view (shown_of file t.shown) found (agree_self file.layout (shown_of file t.shown))

  follows_on : Follows
      (start seed count file.layout.clients) (map command_in (acts_in works.worked.exchanges)) (answers_in works.worked.exchanges) works.run
  follows_on = subst (λ (l : Layout). Follows (start seed count l.clients) (map command_in (acts_in works.worked.exchanges))
      (answers_in works.worked.exchanges) works.run) (sym (layout_there layout t opening)) works.worked.follows

  is_run : IsRun seed count file t.shown view works.run
  is_run = record {
    commands = map command_in (acts_in works.worked.exchanges);
    follows = rw answers_are at follows_on;
    ends = asks_none seed count layout t old new status opening works whole ended;
  }

  run_counted : counted works.run ≡ after_answers (answers_in works.worked.exchanges) (0, 0, 0)
  run_counted = run_counts (shape file) (codec file) (shown_of file t.shown) w (start seed count file.layout.clients)
      works.run (map command_in (acts_in works.worked.exchanges)) (answers_in works.worked.exchanges) follows_on answers_are

  numbers : numbers_in (memory works.last) ≡ added (head view, view.replies, sequence view) (counted works.run)
  numbers = let first : Numbers = (head view, view.replies, sequence view) in
      last_numbers seed count layout t old new status opening works whole ended ∙ ap (after_answers (answers_in works.worked.exchanges)) (first_numbers seed count layout t old new status opening works whole ended view found ∙ none_added first) ∙ all_added (answers_in works.worked.exchanges) first (0, 0, 0) ∙ ap (added first) (sym run_counted)

  report : workload_of works.run works.last ≡ workload_by view works.run
  report = λ i. workload_with works.run (numbers i).0 (numbers i).1 (numbers i).2

  prints_result : (run : Run) × IsRun seed count file t.shown view run × (status ≡ Done) × Appends old.written new.written (run_text view run)
  prints_result = let ends = by_end seed count layout t old new status opening works whole ended in
      (works.run, is_run, ends.1, subst (λ (x : Workload). Appends old.written new.written (workload_text x)) report ends.2)

pub run_text_is_result : RunTextIsResult
run_text_is_result seed count layout t old new status opening works view whole found ended =
    prints_result seed count layout t old new status opening works view whole found ended
