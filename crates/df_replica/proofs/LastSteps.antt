-- The step that ends a checkpoint is the machine's: its answer, the state after it, and what it does to the disk.
use Rattle.std.{proofs.Common.{◌≡◌, ◌∙◌, ℕ, ◌+◌, true, false, List, [], ◌∷◌, Option, Some, None, refl, sym, ap, subst}, specs.Prelude.{Ok, Err}}
use Rattle.{df_base.specs.{Fields.{spelled}, Log.{Event, Sync, now}}, df_journal.specs.Append.{ShowsRing}}
use Rattle.df_disk.{specs.{Told.{Told}, Adds.{AddsPart, after_all}}, proofs.Laws.{all_is_part}}
use Rattle.df_format.specs.{Copies.{content_with}, declared.superblock.SuperFields.{SuperFields}}
use Rattle.{df_superblock.specs.{Events.{update_events}, Steps.{AreStepsOfCopies}}, df_grid.specs.Writes.{first_address, first_sum}}
use Rattle.df_theory.specs.{CopyPuts.{PutsCopies, update_steps}, Runs.{Step, Syncs}, Units.{BlockPlace, CopyPlace, CopyUnit, PreparePlace, ReplyPlace, or_else}, View.{sequence}}
use Rattle.df_theory.specs.Units as theory
use Rattle.df_units.specs.{Meaning.{content_of, number_of}, Puts.{put_copies}}
use Rattle.df_model.specs.{After.{checkpoint_of}, Commands.{Advance, Answer, ForAdvance, Given, ToAdvance, supplied_sum, supplied_sums}, Laws.{DoesFinish}, Memory.{Memory}, Sense.{IsWork}, Supply.{puts_of, trailer_puts}, Work.{Work}, declared.answers.Progress.TheVariants.{Done}, declared.errors.StepError.{StepError}}
use Rattle.df_model.specs.Making as making
use Rattle.df_model.specs.declared.errors.StepError.TheVariants as step
use Rattle.df_opening.{specs.Below.{RunningState, IsCourse, IsRunningCheckpoint, IsState, Represents, State, course_of, memory, shape, spelling}, proofs.Laws.{firmly, recorded_content}}
use Rattle.df_replica.{specs.{Answering.{Serves, answer_of, is_step_unanswered}, Serving.{Grade, IsCall, IsKept, format, next}, Stepping.{IsMadeSuperblock, OfRunning, captured_fields, finished, last_events, made_by, made_for, next_fields}}, proofs.{Calls.{AreCalls}, Leaves.{Makes, copies_made, copies_over}, RingSpared.{ring_spared}, Makes.{OfStep}, StepAnswers.{does_step, fault_call, makes_step, next_is, runs, step_puts_are, stepped_call, sum_is}, StepMemory.{last_memory, step_memory}, WritesOn.{StandsIn}}}

module _ (s : State) (r : RunningState) (given : Given) (is : IsState s)
    (course : IsRunningCheckpoint s.file s.fields s.head s.blocks r) (running : s.running ≡ Some r) (left : s.blocks.left ≡ [])
    (number : number_of (spelled 16 (first_sum s.blocks.written)) ≡ first_sum s.blocks.written)
    (steps : AreStepsOfCopies (update_events (next_fields s r)) (update_steps (put_copies (next_fields s r))))
    (sum : given ≡ ForAdvance (made_by s s.running ∷ [])) where
  abbrev f : SuperFields
  f = next_fields s r

  abbrev made : ℕ
  made = number_of (content_with f).checksum

  abbrev given_steps : List Step
  given_steps = Syncs ∷ update_steps (put_copies f)

  sum_here : supplied_sum given ≡ made
  sum_here = sum_is s r given running sum ∙ ap (made_for s r) left

  module _ (w : Work) (work : IsWork (shape s.file) (spelling s.file) w) (rep : Represents s w) where
    -- the superblock is the machine's
    content_is : content_of (content_with f) ≡ making.finishing_content (memory s) (course_of s.file s.blocks r) made
    content_is = recorded_content
        s (captured_fields s.fields r (first_address s.blocks.written) (spelled 16 (first_sum s.blocks.written))) is.second.rules.version
        ∙ (λ i. record (making.finishing_content (memory s)
        (course_of s.file s.blocks r) made) { sequence = course.sequence.0 i; trailer_checksum = number i; trailer_size = course.size i })

    content_there : content_of (content_with f)
        ≡ (checkpoint_of (shape s.file) (spelling s.file) w (runs s r given running sum w rep).on (supplied_sum given)).content
    content_there = content_is ∙ (λ i. making.finishing_content (rep i) (sym (runs s r given running sum w rep).course i) (sym sum_here i))

    finishes : DoesFinish
        w.view (checkpoint_of (shape s.file) (spelling s.file) w (runs s r given running sum w rep).on (supplied_sum given)) given_steps
    finishes = let there = subst (λ (c : theory.Content).
        (puts : PutsCopies c) × (given_steps ≡ Syncs ∷ update_steps puts)) content_there (put_copies f, refl) in
        record { puts = there.0; are = there.1 }

    leaves : memory (finished s r) ≡ step_memory (memory s) (supplied_sum given)
    leaves = last_memory s r running course.op_from course.op_to content_is left ∙ ap (step_memory (memory s)) (sym sum_here)

  does : AreCalls given Advance s (last_events s r)
  does g w t k = record {
    steps = given_steps;
    are = steps s.file.layout s.file.cluster;
    does = does_step s r given running sum w k.stands [] given_steps left (finishes w (firmly g s w t.log k).sense k.stands);
  }

  -- it makes no block
  makes : (w : Work) → Represents s w
      → OfStep (shape s.file) (spelling s.file) (StandsIn (format s.file) (last_events s r)) w (supplied_sum given) w.running
  makes w rep = makes_step s r given running sum (StandsIn (format s.file) (last_events s r)) w rep [] left tt

  -- its steps put copies, which no call reads
  puts : Makes given Advance s (last_events s r)
  puts = let none : (place : theory.Place) → puts_of (memory s) (supplied_sums given) Advance place
      ≡ trailer_puts (memory s) (course_of s.file s.blocks r) (supplied_sum given) [] place = step_puts_are s r given running sum [] left in
      record {
        steps = given_steps;
        are = steps s.file.layout s.file.cluster;
        prepare = λ k o. sym (ap (λ (p : Option theory.AnyUnit). or_else p o) (none (PreparePlace k)));
        reply = λ k o. sym (ap (λ (p : Option theory.AnyUnit). or_else p o) (none (ReplyPlace k)));
        block = λ k o. sym (ap (λ (p : Option theory.AnyUnit). or_else p o) (none (BlockPlace k)));
        copy = λ w work rep k o.
            let is : content_of (content_with f) ≡ making.finishing_content (memory s) (course_of s.file s.blocks r) (supplied_sum given) =
            content_is w work rep ∙ ap (making.finishing_content (memory s) (course_of s.file s.blocks r)) (sym sum_here) in
            ap (λ (c : theory.Content). copies_over (CopyUnit c) k o) is
            ∙ copies_made (making.finishing_content (memory s) (course_of s.file s.blocks r) (supplied_sum given)) k o
            ∙ sym (ap (λ (p : Option theory.AnyUnit). or_else p o) (none (CopyPlace k)));
        last = λ whole. tt;
      }

  ring : (g : Grade) (w : Work) (x y : Told)
      → IsKept g s w x.log → Some y ≡ after_all (last_events s r) (Some x) → ShowsRing s.file.layout s.file.cluster (now y.log) s.headers
  ring g w x y k all =
      ring_spared s.file.layout s.file.cluster s.headers (last_events s r) given_steps x y k.log_is (steps s.file.layout s.file.cluster)
      (λ slot. refl, (λ slot. refl, (λ slot. refl, (λ slot. refl, tt)))) k.ring all

  answers : (w : Work) → Represents s w → (next s.file w given Advance).1 ≡ ToAdvance (Ok (Done r.sequence))
  answers w rep =
      let after : sequence w.view + 1 ≡ r.sequence = ap (λ (m : Memory). m.content.sequence + 1) (sym rep) ∙ sym course.sequence.0 in
      ap (λ (x : Work × Answer). x.1) (next_is s r given running sum w rep [] left) ∙ ap (λ (n : ℕ). ToAdvance (Ok (Done n))) after

  pub last_call : s.live ≡ true → (old new : Option Told)
      → new ≡ after_all (last_events s r) old → IsCall given Advance s (finished s r) old new (Some (ToAdvance (Ok (Done r.sequence))))
  last_call live old new all =
      stepped_call s r given running sum (finished s r) (last_events s r) (Done r.sequence) refl live refl does puts (λ w work rep.
      leaves w work rep) answers makes ring old new sum all

  pub last_fault : (old new : Option Told) (t : State)
      → t.live ≡ false → AddsPart (last_events s r) old new → IsCall given Advance s t old new None
  last_fault old new t dead part = fault_call s r given running sum (last_events s r) does puts old new t sum dead part

-- ---- of the state alone

abbrev last_of : SuperFields → List Event
last_of f = Sync ∷ update_events f

module _ (s : State) (is : IsState s) (live : s.live ≡ true)
    (left : s.blocks.left ≡ []) (number : number_of (spelled 16 (first_sum s.blocks.written)) ≡ first_sum s.blocks.written)
    (f : SuperFields) (fields : OfRunning s.running (λ r. f ≡ next_fields s r))
    (steps : AreStepsOfCopies (update_events f) (update_steps (put_copies f))) (old new : Option Told) where
  abbrev StepsOf : SuperFields → Type 0
  StepsOf g = AreStepsOfCopies (update_events g) (update_steps (put_copies g))

  pub last_serves : (t : State) (sequence : ℕ) → sequence ≡ f.sequence → OfRunning s.running (λ r. t ≡ finished s r)
      → IsMadeSuperblock {T = Unit {0}} f old new (Ok tt) → Serves Advance s t old new (Some (ToAdvance (Ok (Done sequence))))
  last_serves t sequence same next all = go s.running refl is.course fields next
    where
      go : (o : Option RunningState) → s.running ≡ o → IsCourse s.file s.fields s.head s.blocks o → OfRunning o (λ r. f ≡ next_fields s r)
          → OfRunning o (λ r. t ≡ finished s r) → Serves Advance s t old new (Some (ToAdvance (Ok (Done sequence))))
      go None running course fields_are next_is = absurd fields_are
      go (Some r) running course fields_are next_is = λ given supplied.
          subst (λ (x : State). IsCall given Advance s x old new (Some (ToAdvance (Ok (Done sequence))))) (sym next_is)
          (subst (λ (n : ℕ). IsCall given Advance s (finished s r) old new (Some (ToAdvance (Ok (Done n)))))
          (sym (same ∙ ap (λ (g : SuperFields). g.sequence) fields_are))
          (last_call s r given is course running left number (subst StepsOf fields_are steps)
          supplied live old new (subst (λ (g : SuperFields). IsMadeSuperblock {T = Unit {0}} g old new (Ok tt)) fields_are all)))

  stopped : (t : State) → t.live ≡ false → AddsPart (last_of f) old new → Serves Advance s t old new None
  stopped t dead part = go s.running refl is.course fields
    where
      go : (o : Option RunningState) → s.running ≡ o
          → IsCourse s.file s.fields s.head s.blocks o → OfRunning o (λ r. f ≡ next_fields s r) → Serves Advance s t old new None
      go None running course fields_are = absurd fields_are
      go (Some r) running course fields_are = λ given supplied.
          last_fault s r given is course running left number (subst StepsOf fields_are steps)
          supplied old new t dead (subst (λ (g : SuperFields). AddsPart (last_of g) old new) fields_are part)

  pub error_serves : (t : State) (e : StepError) → t.live ≡ false
      → IsMadeSuperblock {T = Unit {0}} f old new (Err e) → Serves Advance s t old new (answer_of is_step_unanswered ToAdvance (Err e))
  error_serves t step.NotRunning dead made = absurd made
  error_serves t (step.Damaged place kind) dead made = stopped t dead (all_is_part (last_of f) old new made.0)
  error_serves t step.DiskFault dead made = stopped t dead made
