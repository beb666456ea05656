-- Each step that writes a trailer block is the machine's: its answer, the state after it, and what it does to the disk.
use Rattle.std.{proofs.{Common.{◌≡◌, ◌∙◌, ℕ, true, false, List, [], ◌∷◌, Option, Some, None, refl, sym, ap, subst, arith}, lemmas.Option.{same_Some}}, specs.Prelude.{Ok, Err}}
use Rattle.{df_base.{proofs.Laws.{AreBytes-check_of, field_at-lt}, specs.Log.{Event, now}}, df_journal.specs.Append.{ShowsRing}}
use Rattle.{df_disk.specs.{Told.{Told}, Adds.{AddsPart, after_all}}, df_theory.specs.Runs.{Step}}
use Rattle.df_format.specs.{declared.header.Header.{Header}, Copies.{content_with}, Super.{covered_bytes}}
use Rattle.df_theory.specs.Units as theory
use Rattle.df_model.{specs.{After.{after_running, after_step_of}, Codec.{AreChecksums, IsChecksum}, Commands.{Advance, ForAdvance, Given, IsInput, ToAdvance, as_answer, supplied_sum, supplied_sums}, Laws.{DoesAdvance, DoesAdvanceTo}, Memory.{Course, Memory, course as course_from, course_of as courses, memory_of}, Sense.{IsWork}, Supply.{puts_of, step_puts, trailer_puts}, Work.{Running, Work}, declared.answers.Progress.{Progress}}, proofs.Laws.{change_law}}
use Rattle.df_model.specs.declared.errors.StepError.TheVariants as step
use Rattle.df_opening.specs.Below.{DataFile, RunningState, Represents, State, course_in, course_of, memory, shape, spelling}
use Rattle.df_replica.{specs.{Serving.{Grade, IsCall, IsKept, format, next}, Stepping.{made_by, made_for, next_fields, pending, trailer_unit}, Supply.{IsSupplied}}, proofs.{Calls.{AreCalls, Answered, answered_call, answered_still, stopped_call}, Leaves.{IsWhole, Makes, makes_nothing}, Makes.{OfLeft, OfStep}, WritesOn.{StandsIn}, StepMemory.{step_memory}}}

-- what is made has a checksum
made_small : (s : State) (r : RunningState) (l : List ℕ) → IsChecksum (made_for s r l)
made_small s r [] = field_at-lt 16 0 (content_with (next_fields s r)).checksum (AreBytes-check_of (covered_bytes (next_fields s r)))
made_small s r (a ∷ more) = field_at-lt 16 0 (trailer_unit s r).header.checksum (AreBytes-check_of _)

made_is : (s : State) (o : Option RunningState) → IsChecksum (made_by s o)
made_is s None = omega arith
made_is s (Some r) = made_small s r s.blocks.left

pub step_input : (s : State) (given : Given) → given ≡ ForAdvance (made_by s s.running ∷ []) → IsInput given Advance
step_input s given sum =
    record { checksums = subst (λ (g : Given). AreChecksums (supplied_sums g)) (sym sum) (made_is s s.running, tt); fields = tt }

-- ---- where no checkpoint runs

none_runs : (spell : theory.Parts → List ℕ) (o : Option Running) → None ≡ courses spell o → o ≡ None
none_runs spell None same = refl
none_runs spell (Some r) same = absurd (cc)

pub none_pending : (o : Option RunningState) (left : List ℕ) → pending o left ≡ None → o ≡ None
none_pending None left none = refl
none_pending (Some r) left none = absurd (cc)

module _ (s : State) (given : Given) (live : s.live ≡ true) (idle : s.running ≡ None) (sum : given ≡ ForAdvance (made_by s s.running ∷ [])) where
  idle_work : (w : Work) → Represents s w → w.running ≡ None
  idle_work w rep = none_runs (spelling s.file) w.running (sym (ap (course_in s.file s.blocks) idle) ∙ ap (λ (m : Memory). m.running) rep)

  idle_next : (w : Work) → Represents s w → next s.file w given Advance ≡ (w, ToAdvance (Err step.NotRunning))
  idle_next w rep = ap (λ (o : Option Running).
      as_answer ToAdvance (after_step_of (shape s.file) (spelling s.file) w (supplied_sum given) o)) (idle_work w rep)

  idle_does : AreCalls given Advance s []
  idle_does g w t k = record {
    steps = [];
    are = tt;
    does = subst (λ (o : Option Running).
        DoesAdvance (shape s.file) (spelling s.file) w (supplied_sum given) o []) (sym (idle_work w k.stands)) refl;
  }

  idle_puts : Makes given Advance s []
  idle_puts = let none : course_in s.file s.blocks s.running ≡ None = ap (course_in s.file s.blocks) idle in
      makes_nothing given Advance s (λ place.
      ap (λ (o : Option Course). step_puts (memory s) o (supplied_sum given) place) none) (λ is. subst IsWhole none is)

  idle_as : Answered given Advance s s [] (ToAdvance (Err step.NotRunning))
  idle_as = answered_still s given Advance (ToAdvance (Err step.NotRunning)) live idle_next (λ w rep. subst (λ (o : Option Running).
      OfStep (shape s.file) (spelling s.file) (StandsIn (format s.file) []) w (supplied_sum given) o) (sym (idle_work w rep)) tt)

  pub idle_call : (old : Option Told)
      → IsSupplied s old Advance given → IsCall given Advance s s old old (Some (ToAdvance (Err step.NotRunning)))
  idle_call old supplied = answered_call
      given Advance s [] (step_input s given sum) idle_does idle_puts s (ToAdvance (Err step.NotRunning)) idle_as old old supplied refl

-- ---- where one does

module _ (s : State)
    (r : RunningState) (given : Given) (running : s.running ≡ Some r) (sum : given ≡ ForAdvance (made_by s s.running ∷ [])) where
  abbrev spell : theory.Parts → List ℕ
  spell = spelling s.file

  -- the machine's checkpoint that runs
  pub record Runs (w : Work) : Type 0 where
    pub on : Running
    pub is : w.running ≡ Some on
    pub course : course_from spell on ≡ course_of s.file s.blocks r

  runs_in : (w : Work) (o : Option Running) → w.running ≡ o → Some (course_of s.file s.blocks r) ≡ courses spell o → Runs w
  runs_in w None at same = absurd (cc)
  runs_in w (Some on) at same = record { on = on; is = at; course = sym (same_Some _ _ same) }

  pub runs : (w : Work) → Represents s w → Runs w
  runs w rep = runs_in w w.running refl (sym (ap (course_in s.file s.blocks) running) ∙ ap (λ (m : Memory). m.running) rep)

  pub sum_is : supplied_sum given ≡ made_for s r s.blocks.left
  sum_is = ap supplied_sum sum ∙ ap (made_by s) running

  -- the machine's step, where these addresses are to come
  pub next_is : (w : Work) (rep : Represents s w) (l : List ℕ) → s.blocks.left ≡ l
      → next s.file w given Advance ≡ as_answer ToAdvance (after_running (shape s.file) spell w (supplied_sum given) (runs w rep).on l)
  next_is w rep l left = let R = runs w rep in
      ap (λ (o : Option Running). as_answer ToAdvance (after_step_of (shape s.file) spell w (supplied_sum given) o)) R.is
      ∙ ap (λ (k : List ℕ).
      as_answer ToAdvance (after_running (shape s.file) spell w (supplied_sum given) R.on k)) (ap (λ (c : Course). c.left) R.course ∙ left)

  -- what it does to the disk
  pub does_step : (w : Work) (rep : Represents s w) (l : List ℕ) (steps : List Step) → s.blocks.left ≡ l → DoesAdvanceTo (shape s.file)
      spell w (supplied_sum given) (runs w rep).on l steps → DoesAdvance (shape s.file) spell w (supplied_sum given) w.running steps
  does_step w rep l steps left does = let R = runs w rep in
      subst (λ (o : Option Running). DoesAdvance (shape s.file) spell w (supplied_sum given) o steps) (sym R.is) (subst (λ (k : List ℕ).
      DoesAdvanceTo (shape s.file) spell w (supplied_sum given) R.on k steps) (sym (ap (λ (c : Course). c.left) R.course ∙ left)) does)

  -- and the block that it makes
  pub makes_step : (P : theory.Place → theory.AnyUnit → Type 0) (w : Work) (rep : Represents s w) (l : List ℕ) → s.blocks.left ≡ l → OfLeft
      (shape s.file) spell P w (supplied_sum given) (runs w rep).on l → OfStep (shape s.file) spell P w (supplied_sum given) w.running
  makes_step P w rep l left made = let R = runs w rep in
      subst (λ (o : Option Running). OfStep (shape s.file) spell P w (supplied_sum given) o) (sym R.is) (subst (λ (k : List ℕ).
      OfLeft (shape s.file) spell P w (supplied_sum given) R.on k) (sym (ap (λ (c : Course). c.left) R.course ∙ left)) made)

  -- what it puts
  pub step_puts_are : (l : List ℕ) → s.blocks.left ≡ l → (place : theory.Place) → puts_of (memory s) (supplied_sums given) Advance place
      ≡ trailer_puts (memory s) (course_of s.file s.blocks r) (supplied_sum given) l place
  step_puts_are l left place =
      ap (λ (o : Option Course). step_puts (memory s) o (supplied_sum given) place) (ap (course_in s.file s.blocks) running)
      ∙ ap (λ (k : List ℕ). trailer_puts (memory s) (course_of s.file s.blocks r) (supplied_sum given) k place) left

  -- what it leaves in memory
  pub memory_is : (w : Work) → IsWork (shape s.file) spell w
      → Represents s w → step_memory (memory s) (supplied_sum given) ≡ memory_of (shape s.file) spell (next s.file w given Advance).0
  memory_is w work rep = ap (λ (m : Memory). step_memory m (supplied_sum given)) rep ∙ sym (change_law (shape s.file) spell w given Advance work)

  -- ---- a call with these device calls, which spare the header ring

  module _ (t : State) (events : List Event)
      (progress : Progress) (same_file : t.file ≡ s.file) (live : t.live ≡ true) (same_headers : t.headers ≡ s.headers)
      (does : AreCalls given Advance s events) (puts : Makes given Advance s events)
      (leaves : (w : Work) → IsWork (shape s.file) spell w → Represents s w → memory t ≡ step_memory (memory s) (supplied_sum given))
      (answers : (w : Work) → Represents s w → (next s.file w given Advance).1 ≡ ToAdvance (Ok progress))
      (makes : (w : Work) → Represents s w → OfStep (shape s.file) spell (StandsIn (format s.file) events) w (supplied_sum given) w.running)
      (spares : (g : Grade) (w : Work) (a b : Told) → IsKept g s w a.log → Some b ≡ after_all events (Some
      a) → ShowsRing s.file.layout s.file.cluster (now b.log) s.headers) where
    stands_at : (w : Work) → IsWork (shape s.file) spell w → Represents s w → Represents t (next s.file w given Advance).0
    stands_at w work rep = subst (λ (file : DataFile). memory t
        ≡ memory_of (shape file) (spelling file) (next s.file w given Advance).0) (sym same_file) (leaves w work rep ∙ memory_is w work rep)

    stepped_as : Answered given Advance s t events (ToAdvance (Ok progress))
    stepped_as = record {
      file = same_file;
      live = live;
      stands = λ w work rep. (sym (answers w rep), stands_at w work rep);
      made = λ w work rep. makes w rep;
      ring = λ g w a b k all.
          subst (λ (hs : List Header). ShowsRing s.file.layout s.file.cluster (now b.log) hs) (sym same_headers) (spares g w a b k all);
    }

    pub stepped_call : (old new : Option Told)
        → IsSupplied s old Advance given → new ≡ after_all events old → IsCall given Advance s t old new (Some (ToAdvance (Ok progress)))
    stepped_call old new supplied all =
        answered_call given Advance s events (step_input s given sum) does puts t (ToAdvance (Ok progress)) stepped_as old new supplied all

  pub fault_call : (events : List Event) → AreCalls given Advance s events → Makes given Advance s events → (old new : Option Told)
      (t : State) → IsSupplied s old Advance given → t.live ≡ false → AddsPart events old new → IsCall given Advance s t old new None
  fault_call events does puts old new t supplied dead part =
      stopped_call given Advance s events (step_input s given sum) does puts t old new supplied dead part
