-- What the scrubber keeps, its tour and its findings, changes no answer of another command.
use Rattle.std.proofs.Common.{◌≡◌, ℕ, zero, suc, ◌+◌, min, Bool, true, false, List, [], ◌∷◌, ◌++◌, length, Option, Some, None, replicate, refl, sym, ◌∙◌, ap}
use Rattle.{df_theory.specs.{Units.{Parts}, Shape.{Shape}}, df_script_model.specs.Script.{answer_text}}
use Rattle.df_model.{specs.{Work.{Running, Work, first_tour}, Memory.{memory_of}, Refusals.{append_refusals, begin_refusals, block_refusals, first_refusal, flush_refusals, is_running, release_refusals, reply_refusals, stage_refusals, steps_left}, Making.{group_of, named_sums, needed_of, next_address, place_of_reply, prepare_of, reply_of}, After.{after_check, after_running, after_step_of, begun, outcome, to_check, with_group, with_live, with_prepare, with_reply, with_running, with_staged}, Commands.{Advance, Append, Begin, Command, Flush, Recent, Release, Reply, Scrub, Stage, WriteBlock, supplied_sum, supplied_verdict}, Supply.{Codec, Shown, checksums_given, next, shown_after, supplied}, declared.answers.Verdict.{Verdict}, declared.answers.Verdict.TheVariants.{Sound, Failing}}, proofs.Laws.{answer_from, answer_is}}
use Rattle.df_pace.{specs.{declared.pace.Pace.{Pace}, Loop.{Stand, all_by_loop, answer_at, begin_due, begin_if, stand_after, by_loop, by_script, course_at, counted_answer, ended, is_begin_due, led, paced, passed, recounted, scrubs_due, steps_due}, Laws.{AsksOfOthers, EachOf, ScrubbingLaw}}, proofs.Lists.{loop_join}}

-- ---- a state in which nothing was scrubbed

abbrev bare : Work → Work
bare w = record w { tour = first_tour; findings = [] }

abbrev bare_at : Stand → Stand
bare_at x = record x { work = bare x.work }

outcome_bare : {E A : Type 0} (o : Option E) (w u : Work) (answer : A) → bare (outcome o w u answer).0 ≡ (outcome o (bare w) (bare u) answer).0
outcome_bare (Some e) w u answer = refl
outcome_bare None w u answer = refl

module _ (sh : Shape) (codec : Codec) where
  abbrev spell : Parts → List ℕ
  spell = codec.spell

  running_bare : (w : Work) (sum : ℕ) (r : Running) (l : List ℕ)
      → bare (after_running sh spell w sum r l).0 ≡ (after_running sh spell (bare w) sum r l).0
  unfolding named_sums
  running_bare w sum r [] = refl
  running_bare w sum r (a ∷ more) = refl

  step_bare : (w : Work) (sum : ℕ) (o : Option Running) → bare (after_step_of sh spell w sum o).0 ≡ (after_step_of sh spell (bare w) sum o).0
  step_bare w sum None = refl
  step_bare w sum (Some r) = running_bare w sum r r.left

  -- what is supplied to another command than a check is supplied to the bare state, too
  work_bare : (shown : Shown) (w : Work) (c : Command) → AsksOfOthers c → bare (next sh codec shown w c).0 ≡ (next sh codec shown (bare w) c).0
  unfolding named_sums
  work_bare shown w (Append client request body) other = let m = memory_of sh spell w in
      let p = prepare_of m (codec.prepare (prepare_of m 0 client request body)) client request body in
      outcome_bare (first_refusal (append_refusals m client request body)) w (with_prepare w p) (p.header.op, p.header.checksum)
  work_bare shown w (Stage client request body) other = let m = memory_of sh spell w in
      outcome_bare (first_refusal (stage_refusals m client request body))
      w (with_staged w (record { client = client; request = request; body = body })) (m.head + length w.staged + 1)
  work_bare shown w Flush other = let m = memory_of sh spell w in
      outcome_bare (first_refusal (flush_refusals m)) w (with_group w (group_of m (checksums_given codec m Flush))) (length w.staged)
  work_bare shown w (Reply op body) other = let m = memory_of sh spell w in let sum = codec.reply (place_of_reply m) (reply_of m 0 body) in
      outcome_bare (first_refusal (reply_refusals m op body)) w (with_reply w (place_of_reply m) (reply_of m sum body)) sum
  work_bare shown w (WriteBlock kind body) other = let m = memory_of sh spell w in
      let sum = supplied_sum (supplied codec shown m (WriteBlock kind body)) in
      outcome_bare (first_refusal (block_refusals m kind body)) w (with_live w (next_address m) (Some sum)) (next_address m, sum)
  work_bare shown w (Release address) other =
      outcome_bare {A = Unit {0}} (first_refusal (release_refusals (memory_of sh spell w) address)) w (with_live w address None) tt
  work_bare shown w (Begin root) other = let m = memory_of sh spell w in
      outcome_bare (first_refusal (begin_refusals m (needed_of spell m root) root))
      w (with_running w (Some (begun sh spell w root))) (needed_of spell m root)
  work_bare shown w Advance other = step_bare w (supplied_sum (supplied codec shown (memory_of sh spell w) Advance)) w.running
  work_bare shown w Scrub other = absurd other
  work_bare shown w Recent other = absurd other
  work_bare shown w command other = refl

  -- what is answered, and what is shown after it
  both_bare : (shown : Shown) (w : Work) (c : Command) → AsksOfOthers c
      → (answer_from spell (memory_of sh spell w) (supplied codec shown (memory_of sh spell w) c) c
      ≡ answer_from spell (memory_of sh spell (bare w)) (supplied codec shown (memory_of sh spell (bare w)) c) c)
      × (shown_after codec shown (memory_of sh spell w) c ≡ shown_after codec shown (memory_of sh spell (bare w)) c)
  unfolding named_sums
  both_bare shown w Scrub other = absurd other
  both_bare shown w Recent other = absurd other
  both_bare shown w command other = (refl, refl)

  answer_bare : (x : Stand) (c : Command) → AsksOfOthers c → answer_at sh codec x c ≡ answer_at sh codec (bare_at x) c
  answer_bare x c other = answer_is sh spell x.work (supplied codec x.shown (memory_of sh spell x.work) c) c
      ∙ (both_bare x.shown x.work c other).0
      ∙ sym (answer_is sh spell (bare x.work) (supplied codec x.shown (memory_of sh spell (bare x.work)) c) c)

  led_bare : (x : Stand) (c : Command) (n k : ℕ) → AsksOfOthers c → n ≡ k → bare_at (led sh codec x c n) ≡ led sh codec (bare_at x) c k
  led_bare x c n k other same =
      λ i. record { shown = (both_bare x.shown x.work c other).1 i; work = work_bare x.shown x.work c other i; appended = same i }

  script_bare : (x : Stand) (c : Command) → AsksOfOthers c → bare_at (by_script sh codec x c) ≡ by_script sh codec (bare_at x) c
  script_bare x c other = led_bare x c _ _ other (ap (counted_answer x.appended) (answer_bare x c other))

  loop_bare : (x : Stand) (c : Command) → AsksOfOthers c → bare_at (by_loop sh codec x c) ≡ by_loop sh codec (bare_at x) c
  loop_bare x c other = led_bare x c _ _ other (ap (recounted x.appended) (answer_bare x c other))

  -- ---- the loop's work

  check_bare : (w : Work) (verdict : Verdict) (xs : List (ℕ × ℕ)) → bare (after_check w verdict xs).0 ≡ bare w
  check_bare w verdict [] = refl
  check_bare w Sound (x ∷ more) = refl
  check_bare w (Failing class) (x ∷ more) = refl

  scrub_bare : (x : Stand) → bare_at (by_loop sh codec x Scrub) ≡ bare_at x
  scrub_bare x = ap (λ (w : Work). record x { work = w }) (check_bare
      x.work (supplied_verdict (supplied codec x.shown (memory_of sh spell x.work) Scrub)) (to_check (memory_of sh spell x.work)))

  scrubs_bare : (n : ℕ) (x : Stand) → bare_at (all_by_loop sh codec x (replicate n Scrub)) ≡ bare_at x
  scrubs_bare zero x = refl
  scrubs_bare (suc n) x = scrubs_bare n (by_loop sh codec x Scrub) ∙ scrub_bare x

  steps_bare : (n : ℕ) (x : Stand)
      → bare_at (all_by_loop sh codec x (replicate n Advance)) ≡ all_by_loop sh codec (bare_at x) (replicate n Advance)
  steps_bare zero x = refl
  steps_bare (suc n) x =
      steps_bare n (by_loop sh codec x Advance) ∙ ap (λ (y : Stand). all_by_loop sh codec y (replicate n Advance)) (loop_bare x Advance tt)

  begin_bare : (b : Bool) (root : List ℕ) (x : Stand)
      → bare_at (all_by_loop sh codec x (begin_if b root)) ≡ all_by_loop sh codec (bare_at x) (begin_if b root)
  begin_bare true root x = loop_bare x (Begin root) tt
  begin_bare false root x = refl

  -- without its scrubbing
  abbrev calm : Pace → Pace
  calm pace = record pace { scrub = 0 }

  -- the begin and the steps that are due
  abbrev worked : Pace → Stand → Stand
  worked pace x = let y = all_by_loop sh codec x (begin_due sh codec pace x) in all_by_loop sh codec y (steps_due sh codec pace y)

  worked_bare : (pace : Pace) (x : Stand) → bare_at (worked pace x) ≡ worked (calm pace) (bare_at x)
  worked_bare pace x = let y = all_by_loop sh codec x (begin_due sh codec pace x) in
      steps_bare (min pace.steps (steps_left (course_at sh codec y))) y
      ∙ ap (λ (z : Stand). all_by_loop sh codec z (steps_due sh codec pace z))
      (begin_bare (is_begin_due pace x.appended (is_running (course_at sh codec x))) x.work.view.checkpoint.parts.root x)

  behind_is : (pace : Pace) (x : Stand) → stand_after sh codec pace x ≡ all_by_loop sh codec (worked pace x) (scrubs_due pace)
  behind_is pace x = let begins = begin_due sh codec pace x in let y = all_by_loop sh codec x begins in
      loop_join sh codec x begins (steps_due sh codec pace y ++ scrubs_due pace)
      ∙ loop_join sh codec y (steps_due sh codec pace y) (scrubs_due pace)

  behind_bare : (pace : Pace) (x : Stand) → bare_at (stand_after sh codec pace x) ≡ stand_after sh codec (calm pace) (bare_at x)
  behind_bare pace x =
      ap bare_at (behind_is pace x) ∙ scrubs_bare pace.scrub (worked pace x) ∙ worked_bare pace x ∙ sym (behind_is (calm pace) (bare_at x))

  -- ---- the script

  passed_bare : (pace : Pace) (x : Stand) (c : Command)
      → AsksOfOthers c → bare_at (passed sh codec pace x c) ≡ passed sh codec (calm pace) (bare_at x) c
  passed_bare pace x c other = behind_bare pace (by_script sh codec x c) ∙ ap (stand_after sh codec (calm pace)) (script_bare x c other)

  paced_bare : (pace : Pace) (x : Stand) (lines : List Command)
      → EachOf AsksOfOthers lines → paced sh codec pace x lines ≡ paced sh codec (calm pace) (bare_at x) lines
  paced_bare pace x [] others = refl
  paced_bare pace x (c ∷ more) others =
      ap (λ (texts : List (List ℕ)). answer_text c (answer_at sh codec x c) ∷ texts) (paced_bare pace (passed sh codec pace x c) more others.1)
      ∙ (λ i. answer_text c (answer_bare x c others.0 i) ∷ paced sh codec (calm pace) (passed_bare pace x c others.0 i) more)

  ended_bare : (pace : Pace) (x : Stand) (lines : List Command)
      → EachOf AsksOfOthers lines → bare_at (ended sh codec pace x lines) ≡ ended sh codec (calm pace) (bare_at x) lines
  ended_bare pace x [] others = refl
  ended_bare pace x (c ∷ more) others = ended_bare pace (passed sh codec pace x c) more others.1
      ∙ ap (λ (y : Stand). ended sh codec (calm pace) y more) (passed_bare pace x c others.0)

pub scrubbing_law : ScrubbingLaw
scrubbing_law sh codec pace scrub x lines others = let other = record pace { scrub = scrub } in
    let ends = ended_bare sh codec pace x lines others ∙ sym (ended_bare sh codec other x lines others) in record {
      texts = paced_bare sh codec pace x lines others ∙ sym (paced_bare sh codec other x lines others);
      image = ap (λ (y : Stand). y.shown) ends;
      view = ap (λ (y : Stand). y.work.view) ends;
    }
