-- Each step that writes a trailer block is the machine's.
use Rattle.std.{proofs.Common.{◌≡◌, ◌≢◌, inl, ◌∙◌, ℕ, ◌+◌, true, false, List, [], ◌∷◌, length, Option, Some, None, refl, sym, ap, subst, arith}, specs.Prelude.{Ok}}
use Rattle.{df_base.specs.Log.{now}, df_disk.specs.{Told.{Told}, Adds.{AddsPart, after_all}}, df_journal.specs.Append.{ShowsRing}}
use Rattle.df_theory.{specs.{Device.{AreSteps}, Runs.{Step}, UnitLog.{put_one}, Units.{BlockPlace, BlockUnit, CopyPlace, PreparePlace, ReplyPlace, or_else}}, proofs.Laws.{put_one_law}}
use Rattle.df_theory.specs.Units as theory
use Rattle.{df_units.specs.{Format.{format_of}, Meaning.{block_of}}, df_grid.specs.Writes.{block_steps}}
use Rattle.df_model.specs.{After.{next_trailer}, Commands.{Advance, Answer, ForAdvance, Given, ToAdvance, supplied_sum, supplied_sums}, Laws.{DoesBlock}, Making.{first_of, piece_of, trailer_block}, Memory.{Course, block_room}, Supply.{puts_of}, Work.{Work}, declared.answers.Progress.TheVariants.{Working}}
use Rattle.df_opening.specs.Below.{RunningState, IsCourse, IsRunningCheckpoint, IsState, Represents, State, course_in, course_of, memory, shape, spelling}
use Rattle.df_replica.{specs.{Answering.{Serves}, Serving.{Grade, IsCall, IsKept, format, next}, Stepping.{OfRunning, advanced, block_events, block_sum, block_to_write, made_by, made_for, trailer_unit}}, proofs.{Calls.{AreCalls}, Leaves.{IsWhole, Makes, makes_put}, RingSpared.{ring_spared}, Makes.{OfStep}, StepAnswers.{does_step, fault_call, makes_step, next_is, runs, step_puts_are, stepped_call, sum_is}, StepMemory.{block_memory, step_memory}, WritesOn.{StandsIn, steps_stand}}}

module _ (s : State) (r : RunningState) (a : ℕ) (more : List ℕ) (given : Given) (is : IsRunningCheckpoint s.file s.fields s.head s.blocks r)
    (booted : s.boot ≡ s.fields.boot) (running : s.running ≡ Some r) (left : s.blocks.left ≡ a ∷ more)
    (unit : block_of (trailer_unit s r) ≡ block_to_write s r (block_sum s r))
    (steps : AreSteps (format_of s.file.layout s.file.cluster) (block_events s r) (block_steps (trailer_unit s r)))
    (sum : given ≡ ForAdvance (made_by s s.running ∷ [])) where
  abbrev given_steps : List Step
  given_steps = block_steps (trailer_unit s r)

  sum_here : supplied_sum given ≡ block_sum s r
  sum_here = sum_is s r given running sum ∙ ap (made_for s r) left

  -- the block is the machine's
  block_is : (w : Work) (rep : Represents s w) → block_of (trailer_unit s r)
      ≡ next_trailer (shape s.file) (spelling s.file) w (runs s r given running sum w rep).on (supplied_sum given)
  block_is w rep = let c : Course = course_of s.file s.blocks r in unit
      ∙ ap (λ (n : ℕ). record (block_to_write s r (block_sum s r)) { sequence = n }) is.sequence.0
      ∙ ap (λ (n : ℕ). record (block_to_write s r (block_sum s r)) { sequence = s.fields.sequence + 1; boot = n }) booted ∙ ap (λ (n : ℕ).
      record (trailer_block (memory s) c (block_sum s r)) { body = piece_of (block_room (memory s).layout) n c.text }) is.written
      ∙ (λ i. trailer_block (rep i) (sym (runs s r given running sum w rep).course i) (sym sum_here i))

  does : AreCalls given Advance s (block_events s r)
  does g w t k = let u = trailer_unit s r in
      let b : theory.Block = next_trailer (shape s.file) (spelling s.file) w (runs s r given running sum w k.stands).on (supplied_sum given) in
      let one : DoesBlock w.view u.header.op (block_of u) given_steps = record { put = put_one (BlockPlace u.header.op) (BlockUnit (block_of u)); one = put_one_law (BlockPlace u.header.op) (BlockUnit (block_of u)); are = refl } in
      let two : DoesBlock w.view u.header.op b given_steps =
      subst (λ (x : theory.Block). DoesBlock w.view u.header.op x given_steps) (block_is w k.stands) one in
      let three : DoesBlock w.view a b given_steps = subst (λ (x : ℕ). DoesBlock w.view x b given_steps) (ap first_of left) two in record {
        steps = given_steps;
        are = steps;
        does = does_step s r given running sum w k.stands (a ∷ more) given_steps left three;
      }

  -- the block that it makes is the one that it writes
  makes : (w : Work) → Represents s w
      → OfStep (shape s.file) (spelling s.file) (StandsIn (format s.file) (block_events s r)) w (supplied_sum given) w.running
  makes w rep = let f = format s.file in let u = trailer_unit s r in
      let b : theory.Block = next_trailer (shape s.file) (spelling s.file) w (runs s r given running sum w rep).on (supplied_sum given) in
      let wrote : StandsIn f (block_events s r) (BlockPlace u.header.op) (BlockUnit (block_of u)) =
      steps_stand f (block_events s r) given_steps
      (BlockPlace u.header.op) (BlockUnit (block_of u)) steps (inl (put_one_law (BlockPlace u.header.op) (BlockUnit (block_of u))).at) in
      makes_step s r given running sum (StandsIn f (block_events s r)) w rep (a ∷ more) left
      (subst (λ (x : ℕ). StandsIn f (block_events s r) (BlockPlace x) (BlockUnit b)) (ap first_of left)
      (subst (λ (x : theory.Block). StandsIn f (block_events s r) (BlockPlace u.header.op) (BlockUnit x)) (block_is w rep) wrote))

  -- its steps put that block
  made_is : block_of (trailer_unit s r) ≡ trailer_block (memory s) (course_of s.file s.blocks r) (supplied_sum given)
  made_is = let c : Course = course_of s.file s.blocks r in unit
      ∙ ap (λ (n : ℕ). record (block_to_write s r (block_sum s r)) { sequence = n }) is.sequence.0
      ∙ ap (λ (n : ℕ). record (block_to_write s r (block_sum s r)) { sequence = s.fields.sequence + 1; boot = n }) booted ∙ ap (λ (n : ℕ).
      record (trailer_block (memory s) c (block_sum s r)) { body = piece_of (block_room (memory s).layout) n c.text }) is.written
      ∙ ap (trailer_block (memory s) c) (sym sum_here)

  put_is : (place : theory.Place) → put_one (BlockPlace (trailer_unit s r).header.op) (BlockUnit (block_of (trailer_unit s r))) place
      ≡ puts_of (memory s) (supplied_sums given) Advance place
  put_is place = ap (λ (b : theory.Block). put_one (BlockPlace (trailer_unit s r).header.op) (BlockUnit b) place) made_is
      ∙ ap (λ (n : ℕ). put_one
      (BlockPlace n) (BlockUnit (trailer_block (memory s) (course_of s.file s.blocks r) (supplied_sum given))) place) (ap first_of left)
      ∙ sym (step_puts_are s r given running sum (a ∷ more) left place)

  puts : Makes given Advance s (block_events s r)
  puts = makes_put given Advance s (block_events s r) given_steps
      (put_one (BlockPlace (trailer_unit s r).header.op) (BlockUnit (block_of (trailer_unit s r)))) steps (λ place o. refl) put_is (λ whole.
      let none : s.blocks.left ≡ [] = subst IsWhole (ap (course_in s.file s.blocks) running) whole in
      let no : a ∷ more ≡ [] = sym left ∙ none in cc)

  ring : (g : Grade) (w : Work) (x y : Told)
      → IsKept g s w x.log → Some y ≡ after_all (block_events s r) (Some x) → ShowsRing s.file.layout s.file.cluster (now y.log) s.headers
  ring g w x y k all =
      ring_spared s.file.layout s.file.cluster s.headers (block_events s r) given_steps x y k.log_is steps (λ slot. refl, tt) k.ring all

  answers : (w : Work) → Represents s w → (next s.file w given Advance).1 ≡ ToAdvance (Ok (Working (length s.blocks.left)))
  answers w rep = let size : length more + 1 ≡ length s.blocks.left = omega (arith, ap length left) in
      ap (λ (x : Work × Answer). x.1) (next_is s r given running sum w rep (a ∷ more) left) ∙ ap (λ (n : ℕ). ToAdvance (Ok (Working n))) size

  pub block_call : s.live ≡ true → (old new : Option Told) → new ≡ after_all (block_events s r) old
      → IsCall given Advance s (advanced s r) old new (Some (ToAdvance (Ok (Working (length s.blocks.left)))))
  block_call live old new all =
      stepped_call s r given running sum (advanced s r) (block_events s r) (Working (length s.blocks.left)) refl live refl does puts
      (λ w work rep. block_memory s r running a more left ∙ ap (step_memory (memory s)) (sym sum_here)) answers makes ring old new sum all

  pub block_fault : (old new : Option Told) (t : State)
      → t.live ≡ false → AddsPart (block_events s r) old new → IsCall given Advance s t old new None
  block_fault old new t dead part = fault_call s r given running sum (block_events s r) does puts old new t sum dead part

-- ---- of the state alone

-- a list that isn't empty has a first one
first_in : (l : List ℕ) → l ≢ [] → (a : ℕ) × (more : List ℕ) × (l ≡ a ∷ more)
first_in [] some = absurd (some refl)
first_in (a ∷ more) some = (a, more, refl)

module _ (s : State) (is : IsState s) (live : s.live ≡ true) (some : s.blocks.left ≢ [])
    (unit : OfRunning s.running (λ r. block_of (trailer_unit s r) ≡ block_to_write s r (block_sum s r)))
    (steps : OfRunning s.running (λ r.
    AreSteps (format_of s.file.layout s.file.cluster) (block_events s r) (block_steps (trailer_unit s r)))) where
  abbrev Unit_of : Option RunningState → Type 0
  Unit_of o = OfRunning o (λ r. block_of (trailer_unit s r) ≡ block_to_write s r (block_sum s r))

  abbrev Steps_of : Option RunningState → Type 0
  Steps_of o = OfRunning o (λ r. AreSteps (format_of s.file.layout s.file.cluster) (block_events s r) (block_steps (trailer_unit s r)))

  pub block_serves : (t : State) (left : ℕ) (old new : Option Told) → left ≡ length s.blocks.left
      → OfRunning s.running (λ r. t ≡ advanced s r) → OfRunning s.running (λ r. new ≡ after_all (block_events s r) old)
      → Serves Advance s t old new (Some (ToAdvance (Ok (Working left))))
  block_serves t left old new count next all = go s.running refl is.course unit steps next all
    where
      go : (o : Option RunningState) → s.running ≡ o → IsCourse s.file s.fields s.head s.blocks o
          → Unit_of o → Steps_of o → OfRunning o (λ r. t ≡ advanced s r) → OfRunning o (λ r. new ≡ after_all (block_events s r) old)
          → Serves Advance s t old new (Some (ToAdvance (Ok (Working left))))
      go None running course unit_is steps_are next_is all_are = absurd unit_is
      go (Some r) running course unit_is steps_are next_is all_are = λ given supplied. let first = first_in s.blocks.left some in
          subst (λ (x : State). IsCall given Advance s x old new (Some (ToAdvance (Ok (Working left))))) (sym next_is)
          (subst (λ (n : ℕ). IsCall given Advance s (advanced s r) old new (Some (ToAdvance (Ok (Working n))))) (sym count)
          (block_call s r first.0 first.1 given course (is.booted live).boot running first.2 unit_is steps_are supplied live old new all_are))

  pub block_fault_serves : (t : State) (old new : Option Told)
      → t.live ≡ false → OfRunning s.running (λ r. AddsPart (block_events s r) old new) → Serves Advance s t old new None
  block_fault_serves t old new dead part = go s.running refl is.course unit steps part
    where
      go : (o : Option RunningState) → s.running ≡ o → IsCourse s.file s.fields s.head s.blocks o
          → Unit_of o → Steps_of o → OfRunning o (λ r. AddsPart (block_events s r) old new) → Serves Advance s t old new None
      go None running course unit_is steps_are part_is = absurd unit_is
      go (Some r) running course unit_is steps_are part_is = λ given supplied. let first = first_in s.blocks.left some in
          block_fault s r first.0 first.1 given course (is.booted live).boot running first.2 unit_is steps_are supplied old new t dead part_is
