-- What a call adds to the log are its own device calls: all of them, the first of them, or none.
use Rattle.std.proofs.Common.{◌≡◌, ℕ, List, [], ◌∷◌, Option, Some, None, Result, Ok, Err, refl, sym, ◌∙◌, ap, subst}
use Rattle.{df_base.specs.Log.{Event}, df_disk.{specs.{Adds.{AddsPart, after_all}, Told.{Told}}, proofs.Laws.{all_is_part}}}
use Rattle.df_model.specs.{Changing.{unless_refused}, Commands.{Advance, Answer, Command, ToAdvance}, declared.answers.Progress.{Progress}, declared.answers.Progress.TheVariants.{Done, Working}, declared.errors.StepError.{StepError}}
use Rattle.df_model.specs.declared.errors.StepError.TheVariants as step
use Rattle.df_opening.specs.Below.{RunningState, State}
use Rattle.df_replica.specs.{Answering.{answer_of, is_step_unanswered}, Own.{AddsOwn, own_events, running_events}, Stepping.{IsStepCall, OfRunning, block_events, events_for, last_events, step_events}}

-- a command that has no device calls of its own, as a read, adds nothing
pub adds_none : (command : Command) (s : State) (old new : Option Told) (answer : Option Answer)
    → own_events command s ≡ [] → new ≡ old → AddsOwn command s old new answer
adds_none command s old new None none same = subst (λ (es : List Event). AddsPart es old new) (sym none) same
adds_none command s old new (Some x) none same = subst (λ (es : List Event). new ≡ after_all es old) (sym none) same

-- ---- a command that may be refused

module _ {E : Type 0} (es : List Event) (old new : Option Told) (o : Option E) where
  -- it wasn't, and all was asked for
  pub all_own : o ≡ None → new ≡ after_all es old → new ≡ after_all (unless_refused o [] es) old
  all_own may is = subst (λ (x : Option E). new ≡ after_all (unless_refused x [] es) old) (sym may) is

  -- or the first of it
  pub part_own : o ≡ None → AddsPart es old new → AddsPart (unless_refused o [] es) old new
  part_own may is = subst (λ (x : Option E). AddsPart (unless_refused x [] es) old new) (sym may) is

-- it was, and nothing was
pub refused_own : {E : Type 0} (command : Command) (s : State) (told : Option Told) (answer : Option Answer) (es : List Event)
    (o : Option E) (e : E) → own_events command s ≡ unless_refused o [] es → o ≡ Some e → AddsOwn command s told told answer
refused_own {E} command s told answer es o e is refused =
    adds_none command s told told answer (is ∙ ap (λ (x : Option E). unless_refused x [] es) refused) refl

-- ---- a step: a trailer's block is next, or the superblock

pub on_running : {P Q : RunningState → Type 0} (running : Option RunningState)
    → ((r : RunningState) → P r → Q r) → OfRunning running P → OfRunning running Q
on_running None f is = absurd is
on_running (Some r) f is = f r is

module _ (s : State) (old new : Option Told) where
  block_step : (r : RunningState) (left : List ℕ)
      → (left ≡ [] → ⊥) → new ≡ after_all (block_events s r) old → new ≡ after_all (events_for s r left) old
  block_step r [] some is = absurd (some refl)
  block_step r (a ∷ more) some is = is

  last_step : (r : RunningState) (left : List ℕ) → left ≡ [] → new ≡ after_all (last_events s r) old → new ≡ after_all (events_for s r left) old
  last_step r left none is = subst (λ (l : List ℕ). new ≡ after_all (events_for s r l) old) (sym none) is

  all_steps : (running : Option RunningState)
      → OfRunning running (λ r. new ≡ after_all (step_events s r) old) → new ≡ after_all (running_events s running) old
  all_steps None is = absurd is
  all_steps (Some r) is = is

  part_steps : (running : Option RunningState)
      → OfRunning running (λ r. AddsPart (step_events s r) old new) → AddsPart (running_events s running) old new
  part_steps None is = absurd is
  part_steps (Some r) is = is

  pub step_own : (t : State) (r : Result Progress StepError)
      → IsStepCall s t old new r → AddsOwn Advance s old new (answer_of is_step_unanswered ToAdvance r)
  step_own t (Ok (Working left)) is = all_steps s.running (on_running s.running (λ r i. block_step r s.blocks.left i.0 i.3) is)
  step_own t (Ok (Done sequence)) is = all_steps s.running (on_running s.running (λ r i. last_step r s.blocks.left i.0 i.3) is)
  step_own t (Err step.NotRunning) is = adds_none Advance s old new (Some (ToAdvance (Err step.NotRunning))) (ap (running_events s) is.0) is.2
  step_own t (Err (step.Damaged place class)) is =
      part_steps s.running (on_running s.running (λ r i. all_is_part (step_events s r) old new (last_step r s.blocks.left i.0 i.2)) is)
  step_own t (Err step.DiskFault) is = part_steps s.running (on_running s.running (λ r i. i.1) is)
