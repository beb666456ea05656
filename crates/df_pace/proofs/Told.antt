-- What is told of the log: the work beside a script changes nothing of it.
use Rattle.std.proofs.{Common.{◌≡◌, ℕ, zero, suc, ◌+◌, ◌-◌, ◌≤◌, min, Bool, true, false, List, [], ◌∷◌, ◌++◌, length, take, drop, Option, Some, None, Result, Ok, Err, replicate, refl, sym, ◌∙◌, ap, arith, length-drop}, lemmas.List.{take_all}}
use Rattle.df_layout.specs.declared.damage.Class.{Class}
use Rattle.df_theory.{specs.{Units.{Message, Parts, ReplyPlace, Session, Units, overlay}, Sessions.{sessions_after}, Shape.{Shape}, View.{View, head, sessions}}, proofs.Laws.{sessions-drop}}
use Rattle.df_model.specs.{Work.{Request, Running, Work}, Memory.{Memory, course, course_of, memory_of, stored_sum}, Refusals.{begin_refusals, first_refusal, is_running, steps_left}, Making.{needed_of}, After.{after_check, after_running, after_step_of, begun, outcome, to_check, with_running}, Commands.{Advance, Begin, Scrub, supplied_sum, supplied_verdict}, Supply.{Codec, Shown, class_at, reply_given, step_puts, supplied, trailer_puts}, declared.answers.Verdict.{Verdict}, declared.answers.Verdict.TheVariants.{Sound, Failing}}
use Rattle.df_pace.{specs.{declared.pace.Pace.{Pace}, Loop.{Stand, all_by_loop, begin_due, begin_if, by_loop, course_at, is_begin_due, scrubs_due, stand_after, steps_due}}, proofs.Lists.{loop_join}}

-- ---- what is told

-- a reply without what depends on the checkpoints: its checksum, its prepare's, and the numbers of the checkpoint and the boot that it was
-- made after
abbrev pub plain : Message → Message
plain r = record r { header = record r.header { checksum = 0; parent = 0; checkpoint = 0; boot = 0 } }

abbrev pub plainly : Result Message Class → Result Message Class
plainly (Ok r) = Ok (plain r)
plainly (Err class) = Err class

-- what is read at a place of the replies
abbrev pub read_of : Option Message → Shown → ℕ → Result Message Class
read_of stored shown k = reply_given (stored_sum stored) (shown.units (ReplyPlace k)) (class_at shown (ReplyPlace k))

pub record Told : Type 0 where
  pub head : ℕ
  pub replies : ℕ
  pub sessions : List Session
  pub staged : List Request
  pub reads : ℕ → Result Message Class

abbrev pub told : Shown → Work → Told
told shown w = record { head = head w.view; replies = w.view.replies; sessions = sessions w.view; staged = w.staged; reads = λ k. plainly (read_of (w.view.stored k) shown k) }

abbrev pub told_at : Stand → Told
told_at x = told x.shown x.work

-- ---- the running checkpoint

-- it captured the sessions after a part of the tail
pub record Reaches (v : View) (r : Running) : Type 0 where
  pub from : v.checkpoint.content.op ≤ r.op
  pub to : r.op ≤ head v
  pub sessions : r.parts.sessions ≡ sessions_after v.checkpoint.parts.sessions (take (r.op - v.checkpoint.content.op) v.tail)

abbrev pub IsOnItsWay : View → Option Running → Type 0
IsOnItsWay v None = Unit {0}
IsOnItsWay v (Some r) = Reaches v r

abbrev pub Goes : Work → Type 0
Goes w = IsOnItsWay w.view w.running

-- ---- the loop's work

-- nothing told is changed
pub record Stays (x y : Stand) : Type 0 where
  pub told : told_at y ≡ told_at x
  pub goes : Goes y.work

outcome_stays : {E A : Type 0} (o : Option E) (shown : Shown) (n k : ℕ) (w u : Work) (answer : A)
    → Goes w → Stays (record { shown = shown; work = w; appended = n }) (record { shown = shown; work = u; appended = n })
    → Stays (record { shown = shown; work = w; appended = n }) (record { shown = shown; work = (outcome o w u answer).0; appended = k })
outcome_stays (Some e) shown n k w u answer goes stays = record { told = refl; goes = goes }
outcome_stays None shown n k w u answer goes stays = record { told = stays.told; goes = stays.goes }

module _ (sh : Shape) (codec : Codec) where
  abbrev spell : Parts → List ℕ
  spell = codec.spell

  abbrev memory_at : Stand → Memory
  memory_at x = memory_of sh spell x.work

  begun_reaches : (w : Work) (root : List ℕ) → Reaches w.view (begun sh spell w root)
  begun_reaches w root = let v = w.view in let whole : head v - v.checkpoint.content.op ≡ length v.tail = omega arith in record {
    from = omega arith;
    to = omega arith;
    sessions = ap (sessions_after v.checkpoint.parts.sessions)
        (sym (ap (λ (n : ℕ). take n v.tail) whole ∙ take_all (length v.tail) v.tail (omega arith)));
  }

  begin_stays : (x : Stand) (root : List ℕ) → Goes x.work → Stays x (by_loop sh codec x (Begin root))
  begin_stays x root goes = let m = memory_at x in
      outcome_stays (first_refusal (begin_refusals m (needed_of spell m root) root)) x.shown x.appended _ x.work (with_running
      x.work (Some (begun sh spell x.work root))) (needed_of spell m root) goes (record { told = refl; goes = begun_reaches x.work root })

  -- a checkpoint that ends keeps head and sessions
  ended_head : (v : View) (r : Running) → Reaches v r → r.op + length (drop (r.op - v.checkpoint.content.op) v.tail) ≡ head v
  ended_head v r reaches = omega (arith, reaches.from, reaches.to, length-drop (r.op - v.checkpoint.content.op) v.tail)

  ended_sessions : (v : View) (r : Running)
      → Reaches v r → sessions_after r.parts.sessions (drop (r.op - v.checkpoint.content.op) v.tail) ≡ sessions v
  ended_sessions v r reaches = let n = r.op - v.checkpoint.content.op in
      ap (λ (ss : List Session). sessions_after ss (drop n v.tail)) reaches.sessions ∙ sessions-drop n v.checkpoint.parts.sessions v.tail

  abbrev stepped : Stand → (sum k : ℕ) → Units → Work → Stand
  stepped x sum k puts u = record { shown = record { units = overlay puts x.shown.units; damage = x.shown.damage }; work = u; appended = k }

  run_stays : (x : Stand) (sum k : ℕ) (r : Running) (l : List ℕ) → Reaches x.work.view r
      → Stays x (stepped x sum k (trailer_puts (memory_at x) (course spell r) sum l) (after_running sh spell x.work sum r l).0)
  run_stays x sum k r [] reaches = record {
    told = λ i. record { head = ended_head x.work.view r reaches i; replies = x.work.view.replies; sessions = ended_sessions x.work.view r reaches i; staged = x.work.staged; reads = (told_at x).reads };
    goes = tt;
  }
  run_stays x sum k r (a ∷ more) reaches =
      record { told = refl; goes = record { from = reaches.from; to = reaches.to; sessions = reaches.sessions } }

  step_stays : (x : Stand) (sum k : ℕ) (o : Option Running) → IsOnItsWay x.work.view o
      → Goes x.work → Stays x (stepped x sum k (step_puts (memory_at x) (course_of spell o) sum) (after_step_of sh spell x.work sum o).0)
  step_stays x sum k None way goes = record { told = refl; goes = goes }
  step_stays x sum k (Some r) way goes = run_stays x sum k r r.left way

  advance_stays : (x : Stand) → Goes x.work → Stays x (by_loop sh codec x Advance)
  advance_stays x goes = step_stays x (supplied_sum (supplied codec x.shown (memory_at x) Advance)) _ x.work.running goes goes

  check_stays : (x : Stand) (k : ℕ) (verdict : Verdict) (xs : List (ℕ × ℕ))
      → Goes x.work → Stays x (record { shown = x.shown; work = (after_check x.work verdict xs).0; appended = k })
  check_stays x k verdict [] goes = record { told = refl; goes = goes }
  check_stays x k Sound (y ∷ more) goes = record { told = refl; goes = goes }
  check_stays x k (Failing class) (y ∷ more) goes = record { told = refl; goes = goes }

  scrub_stays : (x : Stand) → Goes x.work → Stays x (by_loop sh codec x Scrub)
  scrub_stays x goes = check_stays x _ (supplied_verdict (supplied codec x.shown (memory_at x) Scrub)) (to_check (memory_at x)) goes

  then_stays : (x y z : Stand) → Stays x y → (Goes y.work → Stays y z) → Stays x z
  then_stays x y z first second = let next = second first.goes in record { told = next.told ∙ first.told; goes = next.goes }

  scrubs_stay : (n : ℕ) (x : Stand) → Goes x.work → Stays x (all_by_loop sh codec x (replicate n Scrub))
  scrubs_stay zero x goes = record { told = refl; goes = goes }
  scrubs_stay (suc n) x goes = then_stays x (by_loop sh codec x Scrub) _ (scrub_stays x goes) (scrubs_stay n (by_loop sh codec x Scrub))

  steps_stay : (n : ℕ) (x : Stand) → Goes x.work → Stays x (all_by_loop sh codec x (replicate n Advance))
  steps_stay zero x goes = record { told = refl; goes = goes }
  steps_stay (suc n) x goes = then_stays x (by_loop sh codec x Advance) _ (advance_stays x goes) (steps_stay n (by_loop sh codec x Advance))

  begins_stay : (b : Bool) (root : List ℕ) (x : Stand) → Goes x.work → Stays x (all_by_loop sh codec x (begin_if b root))
  begins_stay true root x goes = begin_stays x root goes
  begins_stay false root x goes = record { told = refl; goes = goes }

  pub behind_stays : (pace : Pace) (x : Stand) → Goes x.work → Stays x (stand_after sh codec pace x)
  behind_stays pace x goes = let begins = begin_due sh codec pace x in let y = all_by_loop sh codec x begins in
      let z = all_by_loop sh codec y (steps_due sh codec pace y) in
      let joined : stand_after sh codec pace x ≡ all_by_loop sh codec z (scrubs_due pace) = loop_join sh
      codec x begins (steps_due sh codec pace y ++ scrubs_due pace) ∙ loop_join sh codec y (steps_due sh codec pace y) (scrubs_due pace) in
      rw (sym joined) at (then_stays x z (all_by_loop sh codec z (scrubs_due pace))
      (then_stays x y z (begins_stay (is_begin_due pace x.appended (is_running (course_at sh codec x)))
      x.work.view.checkpoint.parts.root x goes) (steps_stay (min pace.steps (steps_left (course_at sh codec y))) y))
      (scrubs_stay pace.scrub z))
