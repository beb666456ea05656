-- Each release is the machine's: its answer, and the state after it. It does nothing to the disk.
use Rattle.std.{proofs.{Common.{◌≡◌, ◌∙◌, ℕ, true, false, Bool, not, cond, [], Option, Some, None, refl, sym, ap, subst}}, specs.Prelude.{Ok, Err}}
use Rattle.{df_disk.specs.Told.{Told}, df_opening.specs.Below.{Represents, State, memory, shape, spelling}}
use Rattle.df_model.{specs.{After.{outcome, with_live}, Blocks.{block_released, sum_at, without_entry}, Changing.{unless_refused}, Commands.{Answer, ForRelease, Given, IsInput, Release, ToRelease, as_answer}, Memory.{Memory, memory_of}, Refusals.{first_refusal, release_refusals}, Sense.{IsWork}, Work.{Work, is_known}, declared.errors.NotLive.{NotLive}}, proofs.Laws.{change_law}}
use Rattle.df_replica.{specs.{Answering.{Serves}, Blocks.{released}, Serving.{IsCall, next}, Supply.{IsSupplied}}, proofs.{BlockStates.{blocks_memory}, Calls.{AreCalls, Answered, answered_call, answered_quiet, answered_still}, Leaves.{makes_nothing}, ReadCalls.{no_sums}}}

module _ (s : State) (address : ℕ) (live : s.live ≡ true) where
  calls : (given : Given) → AreCalls given (Release address) s []
  calls given g w t k = record { steps = []; are = tt; does = refl }

  input : (told : Option Told) (given : Given) → IsSupplied s told (Release address) given → IsInput given (Release address)
  input told given supplied = record { checksums = no_sums given ForRelease supplied refl; fields = tt }

  module _ (w : Work) (rep : Represents s w) where
    next_is : (given : Given) (o : Option NotLive) → first_refusal (release_refusals (memory s) address) ≡ o
        → next s.file w given (Release address) ≡ as_answer ToRelease (outcome o w (with_live w address None) tt)
    next_is given o there = ap (λ (x : Option NotLive). as_answer ToRelease (outcome x w (with_live w address None) tt))
        (ap (λ (x : Memory). first_refusal (release_refusals x address)) (sym rep) ∙ there)

  served : (given : Given) (t : State) (answer : Answer) → Answered given (Release address) s t [] answer
      → (told : Option Told) → IsSupplied s told (Release address) given → IsCall given (Release address) s t told told (Some answer)
  served given t answer answered told supplied = answered_call given (Release address) s [] (input told given supplied)
      (calls given) (makes_nothing given (Release address) s (λ place. refl) (λ no. no)) t answer answered told told supplied refl

  -- a refusal
  pub refused_release : (e : NotLive) → first_refusal (release_refusals (memory s) address) ≡ Some e
      → (told : Option Told) → Serves (Release address) s s told told (Some (ToRelease (Err e)))
  refused_release e some told given supplied =
      served given s (ToRelease (Err e)) (answered_still s given (Release address) (ToRelease (Err e)) live (λ w rep.
      next_is w rep given (Some e) some) (λ w rep. tt)) told supplied

  -- a block that is let go
  module _ (none : first_refusal (release_refusals (memory s) address) ≡ None) where
    module _ (given : Given) (w : Work) (work : IsWork (shape s.file) (spelling s.file) w) (rep : Represents s w) where
      abbrev m : Memory
      m = memory_of (shape s.file) (spelling s.file) w

      abbrev later : Work
      later = with_live w address None

      memory_is : memory_of (shape s.file) (spelling s.file) later ≡ record m { blocks = block_released m.blocks address }
      memory_is = subst (λ (o : Option NotLive). memory_of (shape s.file) (spelling s.file) (outcome o w later tt).0
          ≡ record m { blocks = unless_refused o m.blocks (block_released m.blocks address) })
          (ap (λ (x : Memory). first_refusal (release_refusals x address)) (sym rep)
          ∙ none) (change_law (shape s.file) (spelling s.file) w given (Release address) work)

      stands : Represents (released s address) later
      stands = blocks_memory s (without_entry address s.blocks.live)
          ∙ (λ i. record (rep i) { blocks = block_released (rep i).blocks address }) ∙ sym memory_is

    released_as : (given : Given) → Answered given (Release address) s (released s address) [] (ToRelease (Ok tt))
    released_as given = answered_quiet s (released s address) given (Release address) (ToRelease (Ok tt)) refl refl live
        (λ w work rep. subst (λ (x : Work × Answer). (ToRelease (Ok tt) ≡ x.1)
        × Represents (released s address) x.0) (sym (next_is w rep given None none)) (refl, stands given w work rep)) (λ w work rep. tt)

    pub released_serves : (t : State)
        → t ≡ released s address → (told : Option Told) → Serves (Release address) s t told told (Some (ToRelease (Ok tt)))
    released_serves t is told given supplied =
        subst (λ (x : State). IsCall given (Release address) s x told told (Some (ToRelease (Ok tt))))
        (sym is) (served given (released s address) (ToRelease (Ok tt)) (released_as given) told supplied)

-- ---- whether it is refused

pub refused_is : (s : State) (address : ℕ)
    → is_known (sum_at address s.blocks.live) ≡ false → first_refusal (release_refusals (memory s) address) ≡ Some (record {})
refused_is s address not_live = ap (λ (b : Bool). cond (not b) (Some (record {})) None) not_live

pub none_is : (s : State) (address : ℕ)
    → is_known (sum_at address s.blocks.live) ≡ true → first_refusal (release_refusals (memory s) address) ≡ None
none_is s address is_live = ap (λ (b : Bool). cond (not b) (Some (record {})) None) is_live
