-- What is due is done piece by piece, and what was accepted is counted by the head.
use Rattle.std.proofs.{Common.{◌≡◌, ◌<◌, ℕ, zero, suc, ◌+◌, ◌-◌, ◌&&◌, nat_lt, Bool, true, false, if◌then◌else◌, min, List, [], ◌∷◌, ◌++◌, length, Option, Some, None, replicate, refl, sym, ◌∙◌, ap, subst, arith, length-append, length-drop}, lemmas.Bool.Decides.{nat_tests}}
use Rattle.df_theory.specs.{Units.{Message, Parts}, Shape.{Shape}, View.{head}}
use Rattle.df_model.{specs.{Work.{Request, Running, Work}, Memory.{Course, course_of, memory_of}, Refusals.{append_refusals, begin_refusals, first_refusal, flush_refusals, is_running, stage_refusals, steps_left}, Making.{group_of, needed_of, prepare_of}, After.{after_check, after_running, after_step_of, begun, outcome, to_check, with_group, with_prepare, with_running, with_staged, with_verdict}, Change.{Appends, Change, Checks, Ends, One, Staged}, Commands.{Advance, Append, Command, Flush, Given, Scrub, Stage, ToAppend, ToBegin, ToFlush, ToStage, after, supplied_sum, supplied_sums, supplied_verdict}, Sense.{IsWork}, Supply.{Codec, supplied}, declared.answers.Verdict.{Verdict}, declared.answers.Verdict.TheVariants.{Sound, Failing}, declared.errors.AppendError.{AppendError}, declared.errors.BeginError.{BeginError}, declared.errors.FlushError.{FlushError}}, proofs.Laws.{length_in, one_thing_law}}
use Rattle.df_pace.specs.{declared.beat.Piece.{Piece}, declared.pace.Due.{Due}, Loop.{Stand, answer_at, by_loop, by_script, counted_answer, recounted}, Beats.{FewerDue, IsHeadCounted, LineCounts, NothingDue, PieceCounts, PieceDue, StartsIdle, WholeDue, command_of_piece, is_begun, pieces_left, rest_due, without}}
use Rattle.df_pace.specs.declared.beat.Piece.TheVariants as piece

-- ---- what is left

pub whole_due : WholeDue
whole_due sh codec pace x = refl

-- the work that is left where no begin is, with this many steps still to come of the running checkpoint
abbrev work_left : (steps left scrub : ℕ) → List Command
work_left steps left scrub = replicate (min steps left) Advance ++ replicate scrub Scrub

below_suc : (n : ℕ) → nat_lt 0 (suc n) ≡ true
below_suc n = grind (arith, nat_tests)

no_scrubs : (scrub : ℕ) → (if nat_lt 0 scrub then Option.Some piece.Scrub else None) ≡ None → replicate scrub Scrub ≡ []
no_scrubs zero none = refl
no_scrubs (suc n) none = absurd (let some = rw (below_suc n) at none in cc)

pub none_min : (n : ℕ) → min 0 n ≡ 0
none_min n = omega arith

min_none : (n : ℕ) → min n 0 ≡ 0
min_none n = omega arith

-- nothing is next
nothing : (r : Option Course) (steps scrub : ℕ) → (if (is_running r && nat_lt 0 steps)
    then Option.Some piece.Step else (if nat_lt 0 scrub then Some piece.Scrub else None)) ≡ None → work_left steps (steps_left r) scrub ≡ []
nothing None steps scrub none = λ i. replicate (min_none steps i) Advance ++ no_scrubs scrub none i
nothing (Some r) zero scrub none = λ i. replicate (none_min (length r.left + 1) i) Advance ++ no_scrubs scrub none i
nothing (Some r) (suc n) scrub none = absurd (let some = rw (below_suc n) at none in cc)

-- a stand, and what is left there
module _ (sh : Shape) (codec : Codec) (x : Stand) where
  abbrev w : Work
  w = x.work

  abbrev spell : Parts → List ℕ
  spell = codec.spell

  abbrev left_now : ℕ
  left_now = steps_left (course_of spell w.running)

  abbrev due_with : (b : Bool) (steps scrub : ℕ) → Due
  due_with b steps scrub = record { begin = b; steps = steps; scrub = scrub }

  no_piece : (b : Bool) (steps scrub : ℕ)
      → (if b then Option.Some piece.Begin else (if (is_running (course_of spell w.running) && nat_lt 0 steps) then
      Some piece.Step else (if nat_lt 0 scrub then Some piece.Scrub else None))) ≡ None → rest_due sh codec (due_with b steps scrub) x ≡ []
  no_piece true steps scrub none = absurd (cc)
  no_piece false steps scrub none = nothing (course_of spell w.running) steps scrub none

  -- ---- a step is next

  -- one less is left after it
  run_left : (sum : ℕ) (r : Running) (l : List ℕ) → steps_left (course_of spell (after_running sh spell w sum r l).0.running) ≡ length l
  run_left sum r [] = refl
  run_left sum r (a ∷ more) = omega arith

  step_first : (sum : ℕ) (o : Option Running) (steps scrub : ℕ) → (is_running (course_of spell o) && nat_lt 0 steps) ≡ true
      → work_left steps (steps_left (course_of spell o)) scrub
      ≡ Advance ∷ work_left (steps - 1) (steps_left (course_of spell (after_step_of sh spell w sum o).0.running)) scrub
  step_first sum None steps scrub is = absurd (cc)
  step_first sum (Some r) zero scrub is = absurd (let no : nat_lt 0 zero ≡ false = refl in cc (no, is))
  step_first sum (Some r) (suc n) scrub is = let left = run_left sum r r.left in let counts : min (suc n) (length r.left + 1)
      ≡ suc (min (suc n - 1) (steps_left (course_of spell (after_running sh spell w sum r r.left).0.running))) = omega (arith, left) in
      ap (λ (k : ℕ). replicate k Advance ++ replicate scrub Scrub) counts

  -- ---- a step of the scrubber is

  check_running : (verdict : Verdict) (xs : List (ℕ × ℕ)) → (after_check w verdict xs).0.running ≡ w.running
  check_running verdict [] = refl
  check_running Sound (y ∷ more) = refl
  check_running (Failing class) (y ∷ more) = refl

  no_steps : (r : Option Course) (steps : ℕ) → (is_running r && nat_lt 0 steps) ≡ false → min steps (steps_left r) ≡ 0
  no_steps None steps is = min_none steps
  no_steps (Some r) zero is = none_min (length r.left + 1)
  no_steps (Some r) (suc n) is = absurd (let one = sym (below_suc n) ∙ is in cc)

  scrub_first : (verdict : Verdict) (xs : List (ℕ × ℕ)) (steps n : ℕ) → (is_running (course_of spell w.running) && nat_lt 0 steps) ≡ false
      → work_left steps left_now (suc n)
      ≡ Scrub ∷ work_left steps (steps_left (course_of spell (after_check w verdict xs).0.running)) (suc n - 1)
  scrub_first verdict xs steps n is = let none : min steps left_now ≡ 0 = no_steps (course_of spell w.running) steps is in
      let still : min steps (steps_left (course_of spell (after_check w verdict xs).0.running)) ≡ 0 =
      ap (λ (o : Option Running). min steps (steps_left (course_of spell o))) (check_running verdict xs) ∙ none in
      let one : suc n - 1 ≡ n = omega arith in ap (λ (k : ℕ). replicate k Advance ++ replicate (suc n) Scrub) none
      ∙ sym (λ i. Scrub ∷ (replicate (still i) Advance ++ replicate (one i) Scrub))

  -- ---- any piece

  abbrev Leaves : Due → Piece → Type 0
  Leaves d p = let c = command_of_piece p w.view.checkpoint.parts.root in
      rest_due sh codec d x ≡ c ∷ rest_due sh codec (without p d) (by_loop sh codec x c)

  of_piece : (d : Due) (p q : Piece) → Option.Some q ≡ Some p → Leaves d q → Leaves d p
  of_piece d p q is leaves = let same : q ≡ p = cc is in subst (Leaves d) same leaves

  scrub_left : (steps scrub : ℕ) (p : Piece) → (is_running (course_of spell w.running) && nat_lt 0 steps) ≡ false
      → (if nat_lt 0 scrub then Option.Some piece.Scrub else None) ≡ Some p → Leaves (due_with false steps scrub) p
  scrub_left steps zero p idle is = absurd (cc)
  scrub_left steps (suc n) p idle is = of_piece (due_with false steps (suc n)) p piece.Scrub (rw (below_suc n) at is)
      (scrub_first (supplied_verdict (supplied codec x.shown (memory_of sh spell w) Scrub)) (to_check (memory_of sh spell w)) steps n idle)

  work_next : (b : Bool) (steps scrub : ℕ) (p : Piece) → (is_running (course_of spell w.running) && nat_lt 0 steps) ≡ b → (if b
      then Option.Some piece.Step else (if nat_lt 0 scrub then Some piece.Scrub else None)) ≡ Some p → Leaves (due_with false steps scrub) p
  work_next true steps scrub p runs is = of_piece (due_with false steps scrub)
      p piece.Step is (step_first (supplied_sum (supplied codec x.shown (memory_of sh spell w) Advance)) w.running steps scrub runs)
  work_next false steps scrub p runs is = scrub_left steps scrub p runs is

  any_next : (b : Bool) (steps scrub : ℕ) (p : Piece)
      → (if b then Option.Some piece.Begin else (if (is_running (course_of spell w.running) && nat_lt 0 steps)
      then Some piece.Step else (if nat_lt 0 scrub then Some piece.Scrub else None))) ≡ Some p → Leaves (due_with b steps scrub) p
  any_next true steps scrub p is = of_piece (due_with true steps scrub) p piece.Begin is refl
  any_next false steps scrub p is = work_next (is_running (course_of spell w.running) && nat_lt 0 steps) steps scrub p refl is

pub nothing_due : NothingDue
nothing_due sh codec d x none = no_piece sh codec x d.begin d.steps d.scrub none

pub starts_idle : StartsIdle
starts_idle last true = refl
starts_idle last false = refl

pub piece_due : PieceDue
piece_due sh codec d x p is = any_next sh codec x d.begin d.steps d.scrub p is

-- ---- how much is left

above_none : (n : ℕ) → nat_lt 0 n ≡ true → 0 < n
above_none n is = grind (arith, nat_tests, is)

fewer : (b steps_due scrub_due : Bool) (steps scrub : ℕ) (p : Piece) → (steps_due ≡ true → 0 < steps) → (scrub_due ≡ true → 0 < scrub) → (if
    b then Option.Some piece.Begin else (if steps_due then Some piece.Step else (if scrub_due then Some piece.Scrub else None))) ≡ Some p
    → pieces_left (without p (record { begin = b; steps = steps; scrub = scrub }))
    < pieces_left (record { begin = b; steps = steps; scrub = scrub })
fewer true steps_due scrub_due steps scrub p some_steps some_scrub is = let same : piece.Begin ≡ p = cc in subst (λ (q : Piece).
    pieces_left (without q (record { begin = true; steps = steps; scrub = scrub })) < 1 + steps + scrub) same (omega arith)
fewer false true scrub_due steps scrub p some_steps some_scrub is = let same : piece.Step ≡ p = cc in let some = some_steps refl in
    subst (λ (q : Piece).
    pieces_left (without q (record { begin = false; steps = steps; scrub = scrub })) < 0 + steps + scrub) same (omega (arith, some))
fewer false false true steps scrub p some_steps some_scrub is = let same : piece.Scrub ≡ p = cc in let some = some_scrub refl in
    subst (λ (q : Piece).
    pieces_left (without q (record { begin = false; steps = steps; scrub = scrub })) < 0 + steps + scrub) same (omega (arith, some))
fewer false false false steps scrub p some_steps some_scrub is = absurd (cc)

second_true : (a b : Bool) → (a && b) ≡ true → b ≡ true
second_true true b is = is
second_true false b is = absurd (cc)

pub fewer_due : FewerDue
fewer_due d running p is = fewer d.begin (running && nat_lt 0 d.steps) (nat_lt 0 d.scrub) d.steps d.scrub p (λ both.
    above_none d.steps (second_true running (nat_lt 0 d.steps) both)) (above_none d.scrub) is

-- ---- what is counted

append_counts : (o : Option AppendError) (w u : Work) (answer : ℕ × ℕ) (n since : ℕ) → n + since ≡ head w.view
    → head u.view ≡ head w.view + 1 → counted_answer n (ToAppend (outcome o w u answer).1) + since ≡ head (outcome o w u answer).0.view
append_counts (Some e) w u answer n since is longer = is
append_counts None w u answer n since is longer = omega (arith, is, longer)

flush_counts : (o : Option FlushError) (w u : Work) (count n since : ℕ) → n + since ≡ head w.view
    → head u.view ≡ head w.view + count → counted_answer n (ToFlush (outcome o w u count).1) + since ≡ head (outcome o w u count).0.view
flush_counts (Some e) w u count n since is longer = is
flush_counts None w u count n since is longer = omega (arith, is, longer)

stage_counts : (o : Option AppendError) (w : Work) (r : Request) (op n since : ℕ) → n + since ≡ head w.view
    → counted_answer n (ToStage (outcome o w (with_staged w r) op).1) + since ≡ head (outcome o w (with_staged w r) op).0.view
stage_counts (Some e) w r op n since is = is
stage_counts None w r op n since is = is

begin_counts : (o : Option BeginError) (w u : Work) (blocks n since : ℕ) → n + since ≡ head w.view
    → let answer = ToBegin (outcome o w u blocks).1 in let v = (outcome o w u blocks).0.view in
    recounted n answer + (if is_begun answer then head v else since) ≡ head v
begin_counts (Some e) w u blocks n since is = is
begin_counts None w u blocks n since is = omega arith

-- neither an append nor a flush
abbrev AddsNothing : Command → Type 0
AddsNothing (Append client request body) = ⊥
AddsNothing Flush = ⊥
AddsNothing command = Unit {0}

module _ (sh : Shape) (codec : Codec) (x : Stand) (sense : IsWork sh codec.spell x.work) where
  checked_head : (a : ℕ) (verdict : Verdict) → head (with_verdict x.work a verdict).view ≡ head x.work.view
  checked_head a Sound = refl
  checked_head a (Failing class) = refl

  module _ (given : Given) where
    -- a checkpoint that ends keeps the head
    changed_head : (c : Command) (u : Work) → AddsNothing c → Change sh codec.spell x.work given c u → head u.view ≡ head x.work.view
    changed_head c u none (Appends _ ps (One client request body fine staged)) = absurd none
    changed_head c u none (Appends _ ps (Staged fine)) = absurd none
    changed_head c u none (Ends r running left) = let capture = sense.running r running in
        omega (arith, capture.op_from, capture.op_to, length-drop (r.op - x.work.view.checkpoint.content.op) x.work.view.tail)
    changed_head c u none (Checks y more list) = checked_head y.0 (supplied_verdict given)
    changed_head c u none change = refl

    head_stays : (c : Command) → AddsNothing c → head (after sh codec.spell x.work given c).0.view ≡ head x.work.view
    head_stays c none = changed_head c (after sh codec.spell x.work given c).0 none (one_thing_law sh codec.spell x.work given c)

  module _ (since : ℕ) (is : IsHeadCounted x since) where
    abbrev given_for : Command → Given
    given_for c = supplied codec x.shown (memory_of sh codec.spell x.work) c

    line : (c : Command) → IsHeadCounted (by_script sh codec x c) since
    line (Append client request body) = let m = memory_of sh codec.spell x.work in
        let sum = supplied_sum (given_for (Append client request body)) in let p : Message = prepare_of m sum client request body in
        let longer : head (with_prepare x.work p).view ≡ head x.work.view + 1 = omega (arith, length-append x.work.view.tail (p ∷ [])) in
        append_counts
        (first_refusal (append_refusals m client request body)) x.work (with_prepare x.work p) (p.header.op, sum) x.appended since is longer
    line (Stage client request body) = let m = memory_of sh codec.spell x.work in
        stage_counts (first_refusal (stage_refusals m client request body))
        x.work (record { client = client; request = request; body = body }) (m.head + length x.work.staged + 1) x.appended since is
    line Flush = let m = memory_of sh codec.spell x.work in let sums = supplied_sums (given_for Flush) in let ps = group_of m sums in
        let longer : head (with_group x.work ps).view ≡ head x.work.view + length x.work.staged = omega (arith, length-append x.work.view.tail ps, length_in m (m.head + 1) (m.head + length m.staged) (m.head + 1) m.head_checksum m.staged sums) in
        flush_counts (first_refusal (flush_refusals m)) x.work (with_group x.work ps) (length x.work.staged) x.appended since is longer
    line c = is ∙ sym (head_stays (given_for c) c tt)

    abbrev Counts : Piece → Type 0
    Counts p = let c = command_of_piece p x.work.view.checkpoint.parts.root in let y = by_loop sh codec x c in
        IsHeadCounted y (if is_begun (answer_at sh codec x c) then head y.work.view else since)

    piece_of : (p : Piece) → Counts p
    piece_of piece.Begin = let root = x.work.view.checkpoint.parts.root in let m = memory_of sh codec.spell x.work in
        begin_counts (first_refusal (begin_refusals m (needed_of codec.spell m root) root))
        x.work (with_running x.work (Some (begun sh codec.spell x.work root))) (needed_of codec.spell m root) x.appended since is
    piece_of piece.Step = is ∙ sym (head_stays (given_for Advance) Advance tt)
    piece_of piece.Scrub = is ∙ sym (head_stays (given_for Scrub) Scrub tt)

pub line_counts : LineCounts
line_counts sh codec x c since sense is = line sh codec x sense since is c

pub piece_counts : PieceCounts
piece_counts sh codec x p since sense is = piece_of sh codec x sense since is p
