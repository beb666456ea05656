-- Each step of the scrubber is the machine's: it does nothing to the disk, and what it found is what it was supplied with.
use Rattle.std.{proofs.{Common.{◌≡◌, ◌∙◌, ℕ, true, false, List, [], ◌∷◌, Option, Some, None, refl, sym, ap}}, specs.Prelude.{Ok, Err}}
use Rattle.{df_base.specs.declared.Failed.{Failed}, df_disk.specs.Told.{Told}}
use Rattle.df_model.{specs.{After.{after_check, to_check}, Changing.{checked_in}, Commands.{ForRecent, ForScrub, Given, IsInput, Recent, Scrub, ToRecent, ToScrub, supplied_verdict}, Memory.{Memory, memory_of}, Sense.{IsWork}, Work.{Work}, declared.answers.Scrubbed.{Scrubbed}, declared.answers.Verdict.{Verdict}, declared.answers.Verdict.TheVariants.{Sound, Failing}}, proofs.Laws.{change_law}}
use Rattle.df_opening.specs.Below.{IsMachineStep, IsMachines, ScrubState, verdict_in, Represents, State, grid_with, memory, shape, spelling}
use Rattle.df_replica.{specs.{Answering.{GivesVerdict, Serves, ServesScrub}, Scrubbing.{scrub_of, with_scrub}, Serving.{next}, Supply.{IsSupplied}}, proofs.{Calls.{AreCalls, Answered, answered_call, answered_quiet, stopped_call}, Leaves.{makes_nothing}, ReadCalls.{no_sums}}}

-- a check leaves the blocks as they are
blocks_kept : (m : Memory) (v : Verdict) (xs : List (ℕ × ℕ)) → record (checked_in m v xs) { blocks = m.blocks } ≡ checked_in m v xs
blocks_kept m v [] = refl
blocks_kept m Sound (x ∷ more) = refl
blocks_kept m (Failing kind) (x ∷ more) = refl

-- the verdict that a check was supplied with is the one that it found
verdict_is : (s : State) (told : Option Told) (answer : Scrubbed) (after : ScrubState) → IsMachineStep (grid_with s.file s.boot s.blocks)
    after told answer (memory s) → (given : Given) → IsSupplied s told Scrub given → GivesVerdict told (Ok answer) given
    → supplied_verdict given ≡ verdict_in answer
verdict_is s None answer after of given supplied gives = gives
verdict_is s (Some t) answer after of given supplied gives = supplied.1 ∙ sym of.verdict

module _ (s : State) (live : s.live ≡ true) where
  calls : (given : Given) → AreCalls given Scrub s []
  calls given g w t k = record { steps = []; are = tt; does = refl }

  input : (told : Option Told) (given : Given) → IsSupplied s told Scrub given → IsInput given Scrub
  input told given supplied = record { checksums = no_sums given (ForScrub (supplied_verdict given)) supplied.0 refl; fields = tt }

  module _ (told : Option Told) (answer : Scrubbed) (scrub : ScrubState) (of : IsMachineStep (grid_with
      s.file s.boot s.blocks) scrub told answer (memory s)) (given : Given) (same : supplied_verdict given ≡ verdict_in answer) where
    module _ (w : Work) (work : IsWork (shape s.file) (spelling s.file) w) (rep : Represents s w) where
      answers : ToScrub answer ≡ (next s.file w given Scrub).1
      answers = ap ToScrub (sym (of.answers w (ap (λ (m : Memory). m.tour) (sym rep))))
          ∙ ap (λ (v : Verdict). ToScrub (after_check w v (to_check (memory s))).1) (sym same)
          ∙ ap (λ (m : Memory). ToScrub (after_check w (supplied_verdict given) (to_check m)).1) rep

      stands : Represents (with_scrub s scrub) (next s.file w given Scrub).0
      stands = let m : Memory = memory_of (shape s.file) (spelling s.file) w in sym of.memory
          ∙ ap (λ (v : Verdict). checked_in (memory s) v (to_check (memory s))) (sym same)
          ∙ ap (λ (x : Memory). checked_in x (supplied_verdict given) (to_check x)) rep
          ∙ sym (blocks_kept m (supplied_verdict given) (to_check m)) ∙ sym (change_law (shape s.file) (spelling s.file) w given Scrub work)

    answered : Answered given Scrub s (with_scrub s scrub) [] (ToScrub answer)
    answered = answered_quiet s (with_scrub s scrub) given Scrub (ToScrub answer) refl refl live
        (λ w work rep. (answers w work rep, stands w work rep)) (λ w work rep. tt)

  -- a step
  pub scrub_serves : (told : Option Told) (answer : Scrubbed) (scrub : ScrubState)
      → IsMachines (grid_with s.file s.boot s.blocks) (scrub_of s) scrub told answer → ServesScrub s (with_scrub s scrub) told (Ok answer)
  scrub_serves told answer scrub machines given supplied gives =
      let of = machines (memory s) (record { layout = refl; blocks = refl; tour = refl; findings = refl }) in
      answered_call given Scrub s [] (input told given supplied)
      (calls given) (makes_nothing given Scrub s (λ place. refl) (λ no. no)) (with_scrub s scrub) (ToScrub answer)
      (answered told answer scrub of given (verdict_is s told answer scrub of given supplied gives)) told told supplied refl

  -- a fault
  pub scrub_stopped : (told : Option Told) (t : State) (e : Failed) → t.live ≡ false → ServesScrub s t told (Err e)
  scrub_stopped told t e dead given supplied gives = stopped_call given Scrub
      s [] (input told given supplied) (calls given) (makes_nothing given Scrub s (λ place. refl) (λ no. no)) t told told supplied dead refl

-- ---- what was found last

module _ (s : State) (live : s.live ≡ true) where
  recent_calls : (given : Given) → AreCalls given Recent s []
  recent_calls given g w t k = record { steps = []; are = tt; does = refl }

  recent_answered : (given : Given) → Answered given Recent s s [] (ToRecent s.findings)
  recent_answered given = answered_quiet s s given Recent (ToRecent s.findings) refl refl live
      (λ w work rep. (ap (λ (m : Memory). ToRecent m.findings) rep, rep)) (λ w work rep. tt)

  pub recent_serves : (told : Option Told) → Serves Recent s s told told (Some (ToRecent s.findings))
  recent_serves told given supplied =
      answered_call given Recent s [] (record { checksums = no_sums given ForRecent supplied refl; fields = tt }) (recent_calls given)
      (makes_nothing given Recent s (λ place. refl) (λ no. no)) s (ToRecent s.findings) (recent_answered given) told told supplied refl
