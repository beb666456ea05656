-- Each write of a block is the machine's: its answer, the state after it, and what it does to the disk.
use Rattle.std.{proofs.{Common.{◌≡◌, ◌∙◌, ℕ, true, false, List, [], ◌∷◌, Option, Some, None, refl, sym, ap, subst}}, specs.Prelude.{Ok, Err}}
use Rattle.{df_base.proofs.Laws.{AreBytes-check_of, field_at-lt}, df_disk.specs.{Told.{Told}, Adds.{AddsPart, after_all}}}
use Rattle.{df_layout.specs.declared.places.Zone.TheVariants.{Grid}, df_grid.specs.Writes.{block_steps}}
use Rattle.df_format.{proofs.Laws.{made_brings}, specs.{Making.{for_body}, Message.{Message, sectors_of}, Own.{place_in}, Spelling.{spelling_rest}, Valid.{IsUnit}, declared.reference.Reference.{Reference}}}
use Rattle.df_theory.{specs.{Device.{AreSteps}, Units.{AnyUnit, BlockPlace, BlockUnit, CopyPlace, HeaderPlace, Place, PreparePlace, ReplyPlace, or_else}, UnitLog.{put_one}}, proofs.Laws.{put_one_law}}
use Rattle.df_theory.specs.Units as theory
use Rattle.df_units.{specs.{Format.{format_of}, Meaning.{number_of}}, proofs.Laws.{block_put, no_number}}
use Rattle.df_units.specs.Meaning as meaning
use Rattle.df_model.{specs.{After.{outcome, with_live}, Blocks.{block_written, with_entry}, Changing.{unless_refused}, Codec.{AreChecksums}, Commands.{Answer, Command, ForWriteBlock, Given, IsInput, ToWriteBlock, WriteBlock, as_answer, supplied_sum, supplied_sums}, Faults.{is_block_fault}, Laws.{DoesBlock, UnlessRefused}, Making.{block_of, next_address}, Memory.{Memory, memory_of}, OnDisk.{DoesOnDisk}, Refusals.{block_refusals, first_refusal}, Sense.{IsWork}, Supply.{puts_of, unless}, Work.{Work}, declared.errors.BlockError.{BlockError}}, proofs.Laws.{change_law}}
use Rattle.df_opening.specs.Below.{IsState, Represents, State, memory, shape, spelling}
use Rattle.df_replica.{specs.{Answering.{Serves, answer_of, as_write_block}, Blocks.{block_events, block_header_given, next_block, reference_of, written}, Serving.{Grade, IsCall, IsKept, format, next}, Supply.{IsSupplied}}, proofs.{Calls.{AreCalls, Answered, answered_call, answered_still, stopped_call}, Leaves.{Makes, makes_nothing, makes_put}, BlockStates.{blocks_memory}, RingSpared.{ring_spared}, Unblamed.{block_unblamed, refused_answer}}}

module _ (s : State) (kind : ℕ) (body : List ℕ) (given : Given)
    (is : IsState s) (live : s.live ≡ true) (sum : given ≡ ForWriteBlock (number_of (next_block s kind body).header.checksum ∷ [])) where
  abbrev u : Message
  u = next_block s kind body

  abbrev command : Command
  command = WriteBlock kind body

  input : IsInput given command
  input = record { checksums = subst (λ (g : Given). AreChecksums (supplied_sums g)) (sym sum) (field_at-lt 16 0 u.header.checksum (AreBytes-check_of (spelling_rest (for_body (block_header_given s (next_address (memory s)) kind) body))), tt); fields = tt }

  module _ (w : Work) (rep : Represents s w) where
    test_is : (o : Option BlockError) → first_refusal (block_refusals (memory s) kind body) ≡ o
        → first_refusal (block_refusals (memory_of (shape s.file) (spelling s.file) w) kind body) ≡ o
    test_is o there = ap (λ (x : Memory). first_refusal (block_refusals x kind body)) (sym rep) ∙ there

  -- ---- a refusal

  module _ (e : BlockError) (some : first_refusal (block_refusals (memory s) kind body) ≡ Some e) where
    refused_next : (w : Work) → Represents s w → next s.file w given command ≡ (w, ToWriteBlock (Err e))
    refused_next w rep = let a = next_address (memory_of (shape s.file) (spelling s.file) w) in
        let pair : ℕ × ℕ = (a, supplied_sum given) in ap (λ (o : Option BlockError).
        as_answer ToWriteBlock (outcome o w (with_live w a (Some (supplied_sum given))) pair)) (test_is w rep (Some e) some)

    refused_does : AreCalls given command s []
    refused_does g w t k = let m = memory_of (shape s.file) (spelling s.file) w in let does = subst (λ (o : Option BlockError).
        UnlessRefused o [] (DoesBlock w.view (next_address m) (block_of m.content.boot (supplied_sum given) kind body) []))
        (sym (test_is w k.stands (Some e) some)) refl in record { steps = []; are = tt; does = does }

    refused_puts : Makes given command s []
    refused_puts = let m = memory s in makes_nothing given command s (λ place. ap (λ (o : Option BlockError). unless o
        (put_one (BlockPlace (next_address m)) (BlockUnit (block_of m.content.boot (supplied_sum given) kind body))) place) some) (λ no. no)

    refused_as : Answered given command s s [] (ToWriteBlock (Err e))
    refused_as = answered_still s given command (ToWriteBlock (Err e)) live refused_next (λ w rep. tt)

    refused_call : (old : Option Told) → IsSupplied s old command given → IsCall given command s s old old (Some (ToWriteBlock (Err e)))
    refused_call old supplied =
        answered_call given command s [] input refused_does refused_puts s (ToWriteBlock (Err e)) refused_as old old supplied refl

  -- ---- a block that is written, and a fault

  module _ (none : first_refusal (block_refusals (memory s) kind body) ≡ None)
      (own : IsUnit s.file.layout s.file.cluster (place_in Grid u.header.op) u) where
    wrote : AreSteps (format_of s.file.layout s.file.cluster) (block_events s u) (block_steps u)
    wrote = (block_put s.file.layout s.file.cluster u.header.op u (sectors_of u) (made_brings s.file.layout s.file.cluster (place_in Grid u.header.op) u (λ same. cc) own), tt)

    -- the block that the machine makes
    block_is : block_of (memory s).content.boot (supplied_sum given) kind body ≡ meaning.block_of u
    block_is = ap (λ (g : Given). block_of s.fields.boot (supplied_sum g) kind body) sum
        ∙ ap (λ (n : ℕ). record (block_of s.fields.boot (number_of u.header.checksum) kind body) { before_checksum = n }) (sym no_number)

    module _ (w : Work) (rep : Represents s w) where
      block_there : block_of (memory_of (shape s.file) (spelling s.file) w).content.boot (supplied_sum given) kind body ≡ meaning.block_of u
      block_there = ap (λ (x : Memory). block_of x.content.boot (supplied_sum given) kind body) (sym rep) ∙ block_is

      address_is : next_address (memory_of (shape s.file) (spelling s.file) w) ≡ u.header.op
      address_is = ap next_address (sym rep)

      none_there : first_refusal (block_refusals (memory_of (shape s.file) (spelling s.file) w) kind body) ≡ None
      none_there = test_is w rep None none

    does_block : (g : Grade) (w : Work) (t : Told)
        → IsKept g s w t.log → DoesOnDisk (format s.file) (shape s.file) (spelling s.file) t.log w given command (block_events s u)
    does_block g w t k = let m = memory_of (shape s.file) (spelling s.file) w in let steps = block_steps u in
        let does : DoesBlock w.view u.header.op (meaning.block_of u) steps = record { put = put_one (BlockPlace u.header.op) (BlockUnit (meaning.block_of u)); one = put_one_law (BlockPlace u.header.op) (BlockUnit (meaning.block_of u)); are = refl } in
        record {
          steps = steps;
          are = wrote;
          does = subst (λ (o : Option BlockError). UnlessRefused o steps (DoesBlock
              w.view (next_address m) (block_of m.content.boot (supplied_sum given) kind body) steps)) (sym (none_there w k.stands))
              (subst (λ (b : theory.Block). DoesBlock w.view (next_address m) b steps) (sym (block_there w k.stands))
              (subst (λ (a : ℕ). DoesBlock w.view a (meaning.block_of u) steps) (sym (address_is w k.stands)) does));
        }

    -- its steps put that block
    put_is : (place : Place)
        → put_one (BlockPlace u.header.op) (BlockUnit (meaning.block_of u)) place ≡ puts_of (memory s) (supplied_sums given) command place
    put_is place = let m = memory s in let b : theory.Block = block_of m.content.boot (supplied_sum given) kind body in
        ap (λ (x : theory.Block). put_one (BlockPlace u.header.op) (BlockUnit x) place) (sym block_is)
        ∙ ap (λ (o : Option BlockError). unless o (put_one (BlockPlace (next_address m)) (BlockUnit b)) place) (sym none)

    block_puts : Makes given command s (block_events s u)
    block_puts = makes_put given command s (block_events s u)
        (block_steps u) (put_one (BlockPlace u.header.op) (BlockUnit (meaning.block_of u))) wrote (λ place o. refl) put_is (λ no. no)

    abbrev answer : Answer
    answer = ToWriteBlock (Ok (u.header.op, number_of u.header.checksum))

    module _ (w : Work) (work : IsWork (shape s.file) (spelling s.file) w) (rep : Represents s w) where
      abbrev m : Memory
      m = memory_of (shape s.file) (spelling s.file) w

      abbrev later : Work
      later = with_live w (next_address m) (Some (supplied_sum given))

      abbrev pair : ℕ × ℕ
      pair = (next_address m, supplied_sum given)

      next_is : next s.file w given command ≡ (later, ToWriteBlock (Ok pair))
      next_is = ap (λ (o : Option BlockError). as_answer ToWriteBlock (outcome o w later pair)) (none_there w rep)

      memory_is : memory_of (shape s.file) (spelling s.file) later
          ≡ record m { blocks = block_written m.blocks (next_address m) (supplied_sum given) }
      memory_is = subst (λ (o : Option BlockError). memory_of (shape s.file) (spelling s.file) (outcome o w later pair).0
          ≡ record m { blocks = unless_refused o m.blocks (block_written m.blocks (next_address m) (supplied_sum given)) })
          (none_there w rep) (change_law (shape s.file) (spelling s.file) w given command work)

      stands : Represents (written s u.header) later
      stands = blocks_memory s (with_entry u.header.op (number_of u.header.checksum) s.blocks.live)
          ∙ (λ i. record (rep i) { blocks = block_written (rep i).blocks (next_address (rep i)) (supplied_sum (sym sum i)) })
          ∙ sym memory_is

      allowed_at : (answer ≡ (next s.file w given command).1) × Represents (written s u.header) (next s.file w given command).0
      allowed_at = subst (λ (x : Work × Answer). (answer ≡ x.1) × Represents (written s u.header) x.0) (sym next_is)
          ((λ i. ToWriteBlock (Ok (sym (address_is w rep) i, supplied_sum (sym sum i)))), stands)

    allowed_as : Answered given command s (written s u.header) (block_events s u) answer
    allowed_as = record {
      file = refl;
      live = live;
      stands = λ w work rep. allowed_at w work rep;
      made = λ w work rep. tt;
      ring = λ g w a b k all. ring_spared
          s.file.layout s.file.cluster s.headers (block_events s u) (block_steps u) a b k.log_is wrote (λ slot. refl, tt) k.ring all;
    }

    written_call : (old new : Option Told) → IsSupplied s old command given
        → new ≡ after_all (block_events s u) old → IsCall given command s (written s u.header) old new (Some answer)
    written_call old new supplied all = answered_call
        given command s (block_events s u) input does_block block_puts (written s u.header) answer allowed_as old new supplied all

    fault_call : (old new : Option Told) (t : State)
        → IsSupplied s old command given → t.live ≡ false → AddsPart (block_events s u) old new → IsCall given command s t old new None
    fault_call old new t supplied dead part =
        stopped_call given command s (block_events s u) input does_block block_puts t old new supplied dead part

module _ (s : State) (kind : ℕ) (body : List ℕ) (is : IsState s) (live : s.live ≡ true) where
  pub refusal_serves : (e : BlockError) → first_refusal (block_refusals (memory s) kind body) ≡ Some e
      → (old : Option Told) → Serves (WriteBlock kind body) s s old old (answer_of is_block_fault as_write_block (Err e))
  refusal_serves e some old = subst (λ (o : Option Answer). Serves (WriteBlock kind body) s s old old o)
      (sym (refused_answer is_block_fault e (block_unblamed (memory s) kind body e some) as_write_block))
      (λ given supplied. refused_call s kind body given is live supplied e some old supplied)

  module _ (none : first_refusal (block_refusals (memory s) kind body) ≡ None)
      (own : IsUnit s.file.layout s.file.cluster (place_in Grid (next_block s kind body).header.op) (next_block s kind body)) where
    pub written_serves : (t : State) (r : Reference) (old new : Option Told)
        → r ≡ reference_of (next_block s kind body).header → t ≡ written s (next_block s kind body).header
        → new ≡ after_all (block_events s (next_block s kind body)) old
        → Serves (WriteBlock kind body) s t old new (answer_of is_block_fault as_write_block (Ok r))
    written_serves t r old new same next_is all =
        subst (λ (x : State). Serves (WriteBlock kind body) s x old new (answer_of is_block_fault as_write_block (Ok r))) (sym next_is)
        (subst (λ (x : Reference). Serves (WriteBlock kind body)
        s (written s (next_block s kind body).header) old new (answer_of is_block_fault as_write_block (Ok x))) (sym same)
        (λ given supplied. written_call s kind body given is live supplied none own old new supplied all))

    pub fault_serves : (t : State) (old new : Option Told)
        → t.live ≡ false → AddsPart (block_events s (next_block s kind body)) old new → Serves (WriteBlock kind body) s t old new None
    fault_serves t old new dead part = λ given supplied. fault_call s kind body given is live supplied none own old new t supplied dead part
