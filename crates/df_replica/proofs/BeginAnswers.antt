-- Each begin is the machine's: its answer, and the state after it. It does nothing to the disk.
use Rattle.std.{proofs.{Common.{◌≡◌, ◌∙◌, ℕ, true, List, [], take, Option, Some, None, refl, sym, ap, subst}}, specs.Prelude.{Ok, Err}}
use Rattle.{df_base.specs.Fields.{AreBytes}, df_disk.specs.Told.{Told}, df_theory.specs.Units.{Parts}}
use Rattle.df_model.{specs.{After.{begun as begun_by, outcome, with_running}, Blocks.{blocks_captured}, Changing.{begun_in, unless_refused}, Commands.{Answer, Begin, Command, ForBegin, Given, IsInput, ToBegin, as_answer}, Making.{needed_of}, Memory.{Memory, free_of, memory_of}, Refusals.{begin_refusals, first_refusal}, Sense.{IsWork}, Work.{Work}, declared.errors.BeginError.{BeginError}}, proofs.Laws.{change_law}}
use Rattle.df_opening.specs.Below.{Represents, State, shape, spelling}
use Rattle.df_replica.{specs.{Answering.{Serves, begin_answer}, Beginning.{begin_refusal, needed, with_checkpoint_begun}, Serving.{IsCall, next}, Supply.{IsSupplied}}, proofs.{Calls.{AreCalls, Answered, answered_call, answered_quiet, answered_still}, Leaves.{Makes, makes_nothing}, ReadCalls.{no_sums}}}

-- what a begin makes of the memory
abbrev begun_memory : (Parts → List ℕ) → Memory → List ℕ → Memory
begun_memory spell m root =
    record m { running = Some (begun_in spell m root); blocks = blocks_captured m.blocks (take (needed_of spell m root) (free_of m)) }

module _ (s : State) (root : List ℕ) (given : Given) (bytes : AreBytes root) (live : s.live ≡ true) (own : given ≡ ForBegin) where
  abbrev command : Command
  command = Begin root

  input : IsInput given command
  input = record { checksums = no_sums given ForBegin own refl; fields = bytes }

  -- it does nothing
  does : AreCalls given command s []
  does g w t k = record { steps = []; are = tt; does = refl }

  does_nothing : Makes given command s []
  does_nothing = makes_nothing given command s (λ place. refl) (λ no. no)

  module _ (w : Work) (rep : Represents s w) where
    test_is : (o : Option BeginError) → begin_refusal s root ≡ o → first_refusal (begin_refusals (memory_of
        (shape s.file) (spelling s.file) w) (needed_of (spelling s.file) (memory_of (shape s.file) (spelling s.file) w) root) root) ≡ o
    test_is o there = ap (λ (x : Memory). first_refusal (begin_refusals x (needed_of (spelling s.file) x root) root)) (sym rep) ∙ there

  -- ---- a refusal

  module _ (e : BeginError) (some : begin_refusal s root ≡ Some e) where
    refused_next : (w : Work) → Represents s w → next s.file w given command ≡ (w, ToBegin (Err e))
    refused_next w rep = let m = memory_of (shape s.file) (spelling s.file) w in
        ap (λ (o : Option BeginError). as_answer ToBegin (outcome o w (with_running
        w (Some (begun_by (shape s.file) (spelling s.file) w root))) (needed_of (spelling s.file) m root))) (test_is w rep (Some e) some)

    refused_as : Answered given command s s [] (ToBegin (Err e))
    refused_as = answered_still s given command (ToBegin (Err e)) live refused_next (λ w rep. tt)

    pub refused_call : (told : Option Told) → IsSupplied s told command given → IsCall given command s s told told (Some (ToBegin (Err e)))
    refused_call told supplied = answered_call given command s [] input does does_nothing s (ToBegin (Err e)) refused_as told told supplied refl

  -- ---- a checkpoint that is begun

  module _ (none : begin_refusal s root ≡ None) where
    module _ (w : Work) (work : IsWork (shape s.file) (spelling s.file) w) (rep : Represents s w) where
      abbrev m : Memory
      m = memory_of (shape s.file) (spelling s.file) w

      abbrev later : Work
      later = with_running w (Some (begun_by (shape s.file) (spelling s.file) w root))

      none_there : first_refusal (begin_refusals m (needed_of (spelling s.file) m root) root) ≡ None
      none_there = test_is w rep None none

      next_is : next s.file w given command ≡ (later, ToBegin (Ok (needed_of (spelling s.file) m root)))
      next_is = ap (λ (o : Option BeginError). as_answer ToBegin (outcome o w later (needed_of (spelling s.file) m root))) none_there

      memory_is : memory_of (shape s.file) (spelling s.file) later ≡ begun_memory (spelling s.file) m root
      memory_is =
          subst (λ (o : Option BeginError). memory_of (shape s.file) (spelling s.file) (outcome o w later (needed_of (spelling s.file) m root)).0
          ≡ record (unless_refused o m (record m { running = Some (begun_in (spelling s.file) m root) })) { blocks = unless_refused o m.blocks (blocks_captured m.blocks (take (needed_of (spelling s.file) m root) (free_of m))) })
          none_there (change_law (shape s.file) (spelling s.file) w given command work)

      stands : Represents (with_checkpoint_begun s root) later
      stands = ap (λ (x : Memory). begun_memory (spelling s.file) x root) rep ∙ sym memory_is

      allowed_at : (ToBegin (Ok (needed s root)) ≡ (next s.file w given command).1)
          × Represents (with_checkpoint_begun s root) (next s.file w given command).0
      allowed_at =
          subst (λ (x : Work × Answer). (ToBegin (Ok (needed s root)) ≡ x.1) × Represents (with_checkpoint_begun s root) x.0) (sym next_is)
          (ap (λ (x : Memory). ToBegin (Ok (needed_of (spelling s.file) x root))) rep, stands)

    begun_as : Answered given command s (with_checkpoint_begun s root) [] (ToBegin (Ok (needed s root)))
    begun_as = answered_quiet s (with_checkpoint_begun s root) given command (ToBegin (Ok (needed s root))) refl refl live
        (λ w work rep. allowed_at w work rep) (λ w work rep. tt)

    pub begun_call : (told : Option Told) → IsSupplied s told command given
        → IsCall given command s (with_checkpoint_begun s root) told told (Some (ToBegin (Ok (needed s root))))
    begun_call told supplied = answered_call given
        command s [] input does does_nothing (with_checkpoint_begun s root) (ToBegin (Ok (needed s root))) begun_as told told supplied refl

module _ (s : State) (root : List ℕ) (bytes : AreBytes root) (live : s.live ≡ true) where
  pub refusal_serves : (e : BeginError)
      → begin_refusal s root ≡ Some e → (told : Option Told) → Serves (Begin root) s s told told (begin_answer (Err e))
  refusal_serves e some told = λ given supplied. refused_call s root given bytes live supplied e some told supplied

  pub begun_serves : begin_refusal s root ≡ None → (t : State) (blocks : ℕ) → blocks ≡ needed s root
      → t ≡ with_checkpoint_begun s root → (told : Option Told) → Serves (Begin root) s t told told (begin_answer (Ok blocks))
  begun_serves none t blocks same next_is told =
      subst (λ (x : State). Serves (Begin root) s x told told (begin_answer (Ok blocks))) (sym next_is)
      (subst (λ (n : ℕ). Serves (Begin root) s (with_checkpoint_begun s root) told told (begin_answer (Ok n))) (sym same) (λ given supplied.
      begun_call s root given bytes live supplied none told supplied))
