-- Each stage is the machine's: its answer, and the state after it. It asks nothing of the disk.
use Rattle.std.{proofs.{Common.{◌≡◌, ℕ, ◌+◌, ◌^◌, ◌<◌, true, List, [], length, Option, Some, None, refl, sym, ◌∙◌, ap, subst}}, specs.Prelude.{Ok, Err}}
use Rattle.{df_disk.specs.Told.{Told}, df_theory.specs.Shape.{Shape}, df_opening.specs.Below.{Represents, State, memory, shape, spelling}}
use Rattle.df_model.{specs.{After.{outcome, with_staged}, Changing.{staged_in, unless_refused}, Codec.{AreChecksums}, Commands.{Answer, Command, ForStage, Given, IsInput, Stage, ToStage, as_answer, supplied_sums}, Memory.{Memory, memory_of}, Refusals.{first_refusal, stage_refusals}, Sense.{IsWork}, Work.{Request, Work}, declared.errors.AppendError.{AppendError}}, proofs.Laws.{change_law}}
use Rattle.df_replica.{specs.{Answering.{Serves, stage_answer}, Flushing.{request_made, staged_with}, Serving.{IsCall, next}, Supply.{IsSupplied}}, proofs.{Calls.{AreCalls, Answered, answered_call, answered_quiet, answered_still}, Leaves.{Makes, makes_nothing}}}

module _ (s : State) (client request : ℕ)
    (body : List ℕ) (given : Given) (live : s.live ≡ true) (fits : client < 2 ^ 128) (none_given : given ≡ ForStage) where
  abbrev command : Command
  command = Stage client request body

  abbrev r : Request
  r = request_made client request body

  input : IsInput given command
  input = record { checksums = subst (λ (g : Given). AreChecksums (supplied_sums g)) (sym none_given) tt; fields = fits }

  does : AreCalls given command s []
  does g w t k = record { steps = []; are = tt; does = refl }

  puts : Makes given command s []
  puts = makes_nothing given command s (λ place. refl) (λ no. no)

  test_is : (w : Work) → Represents s w → (o : Option AppendError) → first_refusal (stage_refusals (memory s) client request body) ≡ o
      → first_refusal (stage_refusals (memory_of (shape s.file) (spelling s.file) w) client request body) ≡ o
  test_is w rep o there = ap (λ (x : Memory). first_refusal (stage_refusals x client request body)) (sym rep) ∙ there

  -- ---- a refusal

  module _ (e : AppendError) (some : first_refusal (stage_refusals (memory s) client request body) ≡ Some e) where
    refused_next : (w : Work) → Represents s w → next s.file w given command ≡ (w, ToStage (Err e))
    refused_next w rep = let m = memory_of (shape s.file) (spelling s.file) w in ap (λ (o : Option AppendError).
        as_answer ToStage (outcome o w (with_staged w r) (m.head + length m.staged + 1))) (test_is w rep (Some e) some)

    refused_call : (told : Option Told) → IsSupplied s told command given → IsCall given command s s told told (Some (ToStage (Err e)))
    refused_call told supplied = answered_call given command s [] input does
        puts s (ToStage (Err e)) (answered_still s given command (ToStage (Err e)) live refused_next (λ w rep. tt)) told told supplied refl

  -- ---- the op to come

  module _ (none : first_refusal (stage_refusals (memory s) client request body) ≡ None) where
    abbrev answer : Answer
    answer = ToStage (Ok (s.head + length s.staged + 1))

    module _ (w : Work) (work : IsWork (shape s.file) (spelling s.file) w) (rep : Represents s w) where
      abbrev sh : Shape
      sh = shape s.file

      abbrev m : Memory
      m = memory_of sh (spelling s.file) w

      none_there : first_refusal (stage_refusals m client request body) ≡ None
      none_there = test_is w rep None none

      next_is : next s.file w given command ≡ (with_staged w r, ToStage (Ok (m.head + length m.staged + 1)))
      next_is = ap (λ (o : Option AppendError). as_answer ToStage (outcome o w (with_staged w r) (m.head + length m.staged + 1))) none_there

      memory_is : memory_of sh (spelling s.file) (with_staged w r) ≡ staged_in m r
      memory_is =
          subst (λ (o : Option AppendError). memory_of sh (spelling s.file) (outcome o w (with_staged w r) (m.head + length m.staged + 1)).0
          ≡ record (unless_refused o m (staged_in m r)) { blocks = m.blocks })
          none_there (change_law sh (spelling s.file) w given command work)

      stands : Represents (staged_with s r) (with_staged w r)
      stands = (λ i. staged_in (rep i) r) ∙ sym memory_is

      allowed_at : (answer ≡ (next s.file w given command).1) × Represents (staged_with s r) (next s.file w given command).0
      allowed_at = subst (λ (x : Work × Answer). (answer ≡ x.1) × Represents (staged_with s r) x.0) (sym next_is)
          ((λ i. ToStage (Ok ((rep i).head + length (rep i).staged + 1))), stands)

    allowed_as : Answered given command s (staged_with s r) [] answer
    allowed_as = answered_quiet s (staged_with s r) given command answer refl refl live
        (λ w work rep. allowed_at w work rep) (λ w work rep. tt)

    allowed_call : (told : Option Told) → IsSupplied s told command given → IsCall given command s (staged_with s r) told told (Some answer)
    allowed_call told supplied = answered_call given command s [] input does puts (staged_with s r) answer allowed_as told told supplied refl

module _ (s : State) (client request : ℕ) (body : List ℕ) (live : s.live ≡ true) (fits : client < 2 ^ 128) where
  pub refusal_serves : (e : AppendError) → first_refusal (stage_refusals (memory s) client request body) ≡ Some e
      → (told : Option Told) → Serves (Stage client request body) s s told told (stage_answer (Err e))
  refusal_serves e some told = λ given supplied. refused_call s client request body given live fits supplied e some told supplied

  pub stage_serves : first_refusal (stage_refusals (memory s) client request body) ≡ None → (t : State) (op : ℕ)
      → op ≡ s.head + length s.staged + 1 → t ≡ staged_with s (request_made client request body) → (told : Option Told)
      → Serves (Stage client request body) s t told told (stage_answer (Ok op))
  stage_serves none t op here next_is told =
      subst (λ (x : State). Serves (Stage client request body) s x told told (stage_answer (Ok op))) (sym next_is) (subst (λ (o : ℕ).
      Serves (Stage client request body) s (staged_with s (request_made client request body)) told told (stage_answer (Ok o))) (sym here)
      (λ given supplied. allowed_call s client request body given live fits supplied none told supplied))
