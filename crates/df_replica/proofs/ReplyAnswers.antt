-- Each reply is the machine's: its answer, the state after it, and what it does to the disk.
use Rattle.std.{proofs.{Common.{◌≡◌, ◌∙◌, inl, ℕ, ◌<◌, true, false, List, [], ◌∷◌, length, map, Option, Some, None, refl, sym, ap, subst, arith}}, specs.Prelude.{Ok, Err}}
use Rattle.{df_base.proofs.Laws.{AreBytes-check_of, field_at-lt}, df_disk.specs.{Told.{Told}, Adds.{AddsPart, after_all}}}
use Rattle.{df_layout.specs.declared.places.Zone.TheVariants.{ClientReplies}, df_replies.specs.Slots.{IsInReplySlot, reply_write_steps}}
use Rattle.df_format.{proofs.Laws.{made_brings}, specs.{Making.{for_body}, Message.{Message, sectors_of}, Own.{place_in}, Spelling.{spelling_rest}}}
use Rattle.df_theory.{specs.{Device.{IsPut}, Units.{AnyUnit, BlockPlace, CopyPlace, HeaderPlace, Place, PreparePlace, ReplyPlace, ReplyUnit, or_else}, UnitLog.{put_one}}, proofs.Laws.{put_one_law}}
use Rattle.df_theory.specs.Units as theory
use Rattle.df_units.{specs.{Bytes.{first_at}, Format.{format_of}, Meaning.{message_of, number_of}}, proofs.Laws.{reply_put}}
use Rattle.df_model.{specs.{After.{outcome, with_reply}, Changing.{blocks_after, replied_in, unless_refused}, Codec.{AreChecksums}, Commands.{Answer, Command, ForReply, Given, IsInput, Reply, ToReply, as_answer, supplied_sum, supplied_sums}, Faults.{is_reply_fault}, Laws.{DoesReply, UnlessRefused}, Making.{first_of, place_of_reply, reply_of}, Memory.{Memory, memory_of}, OnDisk.{DoesOnDisk}, Refusals.{first_refusal, reply_refusals}, Sense.{IsWork}, Supply.{puts_of, unless}, Work.{Work}, declared.errors.ReplyError.{ReplyError}}, proofs.Laws.{change_law}}
use Rattle.df_opening.specs.Below.{IsState, Represents, State, memory, shape, spelling}
use Rattle.df_replica.{specs.{Answering.{Serves, answer_of, as_reply}, Replying.{first_check, next_reply, reply_events, reply_given, with_stored_reply}, Serving.{Grade, IsCall, IsKept, format, next}, Supply.{IsSupplied}}, proofs.{Calls.{AreCalls, Answered, answered_call, answered_still, stopped_call}, Leaves.{Makes, makes_nothing, makes_put}, Makes.{OfMade, Unless}, WritesOn.{StandsIn, steps_stand}, ReplyMemory.{replied_memory}, ReplyTests.{reply_waits}, RingSpared.{ring_spared}, Unblamed.{refused_answer, reply_unblamed}}}

-- the checksum that waits the longest, as a number
first_number : (ws : List (List ℕ)) → 0 < length ws → first_of (map number_of ws) ≡ number_of (first_check ws)
first_number [] some = absurd (omega arith)
first_number (w ∷ ws) some = refl

module _ (s : State) (op : ℕ) (body : List ℕ) (given : Given)
    (is : IsState s) (live : s.live ≡ true) (sum : given ≡ ForReply (number_of (next_reply s body).header.checksum ∷ [])) where
  abbrev u : Message
  u = next_reply s body

  abbrev command : Command
  command = Reply op body

  input : IsInput given command
  input = record { checksums = subst (λ (g : Given). AreChecksums (supplied_sums g)) (sym sum) (field_at-lt 16 0 u.header.checksum (AreBytes-check_of (spelling_rest (for_body (reply_given s) body))), tt); fields = tt }

  module _ (w : Work) (rep : Represents s w) where
    test_is : (o : Option ReplyError) → first_refusal (reply_refusals (memory s) op body) ≡ o
        → first_refusal (reply_refusals (memory_of (shape s.file) (spelling s.file) w) op body) ≡ o
    test_is o there = ap (λ (x : Memory). first_refusal (reply_refusals x op body)) (sym rep) ∙ there

  -- ---- a refusal

  module _ (e : ReplyError) (some : first_refusal (reply_refusals (memory s) op body) ≡ Some e) where
    refused_next : (w : Work) → Represents s w → next s.file w given command ≡ (w, ToReply (Err e))
    refused_next w rep = let m = memory_of (shape s.file) (spelling s.file) w in ap (λ (o : Option ReplyError). as_answer ToReply (outcome
        o w (with_reply w (place_of_reply m) (reply_of m (supplied_sum given) body)) (supplied_sum given))) (test_is w rep (Some e) some)

    refused_does : AreCalls given command s []
    refused_does g w t k = let m = memory_of (shape s.file) (spelling s.file) w in let does = subst (λ (o : Option ReplyError).
        UnlessRefused o [] (DoesReply w.view (place_of_reply m) (reply_of m (supplied_sum given) body) []))
        (sym (test_is w k.stands (Some e) some)) refl in record { steps = []; are = tt; does = does }

    refused_puts : Makes given command s []
    refused_puts = let m = memory s in makes_nothing given command s (λ place. ap (λ (o : Option ReplyError).
        unless o (put_one (ReplyPlace (place_of_reply m)) (ReplyUnit (reply_of m (supplied_sum given) body))) place) some) (λ no. no)

    refused_makes : (w : Work) → Represents s w → OfMade (shape s.file) (spelling s.file) (StandsIn (format s.file) []) w given command
    refused_makes w rep = let m = memory_of (shape s.file) (spelling s.file) w in
        subst (λ (o : Option ReplyError). Unless o (StandsIn (format s.file) []
        (ReplyPlace (place_of_reply m)) (ReplyUnit (reply_of m (supplied_sum given) body)))) (sym (test_is w rep (Some e) some)) tt

    refused_as : Answered given command s s [] (ToReply (Err e))
    refused_as = answered_still s given command (ToReply (Err e)) live refused_next refused_makes

    refused_call : (old : Option Told) → IsSupplied s old command given → IsCall given command s s old old (Some (ToReply (Err e)))
    refused_call old supplied =
        answered_call given command s [] input refused_does refused_puts s (ToReply (Err e)) refused_as old old supplied refl

  -- ---- a stored reply, and a fault

  module _ (none : first_refusal (reply_refusals (memory s) op body) ≡ None) (own : IsInReplySlot s.file.layout u) where
    put : IsPut (format_of s.file.layout s.file.cluster)
        (first_at s.file.layout (ReplyPlace u.header.slot)) (sectors_of u) (put_one (ReplyPlace u.header.slot) (ReplyUnit (message_of u)))
    put = reply_put s.file.layout s.file.cluster
        u.header.slot u (sectors_of u) (made_brings s.file.layout s.file.cluster (place_in ClientReplies u.header.slot) u (λ same. cc) own)

    waits : 0 < length s.waiting
    waits = omega (arith, reply_waits s op body is none, is.waiting)

    -- the reply that the machine makes names the prepare that waits the longest
    made_is : reply_of (memory s) (number_of u.header.checksum) body ≡ message_of u
    made_is =
        ap (λ (parent : ℕ). record { header = record (message_of u).header { parent = parent }; body = body }) (first_number s.waiting waits)

    module _ (w : Work) (rep : Represents s w) where
      reply_is : reply_of (memory_of (shape s.file) (spelling s.file) w) (supplied_sum given) body ≡ message_of u
      reply_is = (λ i. reply_of (sym rep i) (supplied_sum (sum i)) body) ∙ made_is

      place_is : place_of_reply (memory_of (shape s.file) (spelling s.file) w) ≡ u.header.slot
      place_is = ap place_of_reply (sym rep)

      none_there : first_refusal (reply_refusals (memory_of (shape s.file) (spelling s.file) w) op body) ≡ None
      none_there = test_is w rep None none

    does_reply : (g : Grade) (w : Work) (t : Told)
        → IsKept g s w t.log → DoesOnDisk (format s.file) (shape s.file) (spelling s.file) t.log w given command (reply_events s u)
    does_reply g w t k = let m = memory_of (shape s.file) (spelling s.file) w in let steps = reply_write_steps u in
        let does : DoesReply w.view u.header.slot (message_of u) steps = record { put = put_one (ReplyPlace u.header.slot) (ReplyUnit (message_of u)); one = put_one_law (ReplyPlace u.header.slot) (ReplyUnit (message_of u)); are = refl } in
        record {
          steps = steps;
          are = (put, tt);
          does = subst (λ (o : Option ReplyError). UnlessRefused
              o steps (DoesReply w.view (place_of_reply m) (reply_of m (supplied_sum given) body) steps)) (sym (none_there w k.stands))
              (subst (λ (p : theory.Message). DoesReply w.view (place_of_reply m) p steps) (sym (reply_is w k.stands))
              (subst (λ (place : ℕ). DoesReply w.view place (message_of u) steps) (sym (place_is w k.stands)) does));
        }

    -- its steps put that reply
    put_is : (place : Place)
        → put_one (ReplyPlace u.header.slot) (ReplyUnit (message_of u)) place ≡ puts_of (memory s) (supplied_sums given) command place
    put_is place = let m = memory s in let r : theory.Message = reply_of m (supplied_sum given) body in
        let same : r ≡ message_of u = (λ i. reply_of m (supplied_sum (sum i)) body) ∙ made_is in
        ap (λ (x : theory.Message). put_one (ReplyPlace u.header.slot) (ReplyUnit x) place) (sym same)
        ∙ ap (λ (o : Option ReplyError). unless o (put_one (ReplyPlace (place_of_reply m)) (ReplyUnit r)) place) (sym none)

    reply_puts : Makes given command s (reply_events s u)
    reply_puts = makes_put given command s (reply_events s u)
        (reply_write_steps u) (put_one (ReplyPlace u.header.slot) (ReplyUnit (message_of u))) (put, tt) (λ place o. refl) put_is (λ no. no)

    -- the reply that it makes is the one that it writes
    makes : (w : Work) → Represents s w → OfMade (shape s.file) (spelling s.file) (StandsIn (format s.file) (reply_events s u)) w given command
    makes w rep = let m = memory_of (shape s.file) (spelling s.file) w in let events = reply_events s u in
        let wrote : StandsIn (format s.file) events (ReplyPlace u.header.slot) (ReplyUnit (message_of u)) =
        steps_stand (format s.file) events (reply_write_steps u) (ReplyPlace u.header.slot)
        (ReplyUnit (message_of u)) (put, tt) (inl (put_one_law (ReplyPlace u.header.slot) (ReplyUnit (message_of u))).at) in
        subst (λ (o : Option ReplyError). Unless o (StandsIn
        (format s.file) events (ReplyPlace (place_of_reply m)) (ReplyUnit (reply_of m (supplied_sum given) body)))) (sym (none_there w rep))
        (subst (λ (r : theory.Message). StandsIn (format s.file) events (ReplyPlace (place_of_reply m)) (ReplyUnit r)) (sym (reply_is w rep))
        (subst (λ (place : ℕ). StandsIn (format s.file) events (ReplyPlace place) (ReplyUnit (message_of u))) (sym (place_is w rep)) wrote))

    abbrev answer : Answer
    answer = ToReply (Ok (number_of u.header.checksum))

    module _ (w : Work) (work : IsWork (shape s.file) (spelling s.file) w) (rep : Represents s w) where
      abbrev m : Memory
      m = memory_of (shape s.file) (spelling s.file) w

      abbrev later : Work
      later = with_reply w (place_of_reply m) (reply_of m (supplied_sum given) body)

      next_is : next s.file w given command ≡ (later, ToReply (Ok (supplied_sum given)))
      next_is = ap (λ (o : Option ReplyError). as_answer ToReply (outcome o w later (supplied_sum given))) (none_there w rep)

      memory_is : memory_of (shape s.file) (spelling s.file) later ≡ replied_in m (supplied_sum given)
      memory_is = subst (λ (o : Option ReplyError). memory_of (shape s.file) (spelling s.file) (outcome o w later (supplied_sum given)).0
          ≡ record (unless_refused o m (replied_in m (supplied_sum given))) { blocks = blocks_after (spelling s.file) m given command })
          (none_there w rep) (change_law (shape s.file) (spelling s.file) w given command work)

      stands : Represents (with_stored_reply s u.header) later
      stands = replied_memory s u.header refl ∙ (λ i. replied_in (rep i) (supplied_sum (sym sum i))) ∙ sym memory_is

      allowed_at : (answer ≡ (next s.file w given command).1) × Represents (with_stored_reply s u.header) (next s.file w given command).0
      allowed_at = subst (λ (x : Work × Answer). (answer ≡ x.1) × Represents (with_stored_reply s u.header) x.0)
          (sym next_is) (ap (λ (g : Given). ToReply (Ok (supplied_sum g))) (sym sum), stands)

    allowed_as : Answered given command s (with_stored_reply s u.header) (reply_events s u) answer
    allowed_as = record {
      file = refl;
      live = live;
      stands = λ w work rep. allowed_at w work rep;
      made = λ w work rep. makes w rep;
      ring = λ g w a b k all. ring_spared s.file.layout
          s.file.cluster s.headers (reply_events s u) (reply_write_steps u) a b k.log_is (put, tt) (λ slot. refl, tt) k.ring all;
    }

    stored_call : (old new : Option Told) → IsSupplied s old command given
        → new ≡ after_all (reply_events s u) old → IsCall given command s (with_stored_reply s u.header) old new (Some answer)
    stored_call old new supplied all = answered_call
        given command s (reply_events s u) input does_reply reply_puts (with_stored_reply s u.header) answer allowed_as old new supplied all

    fault_call : (old new : Option Told) (t : State)
        → IsSupplied s old command given → t.live ≡ false → AddsPart (reply_events s u) old new → IsCall given command s t old new None
    fault_call old new t supplied dead part =
        stopped_call given command s (reply_events s u) input does_reply reply_puts t old new supplied dead part

module _ (s : State) (op : ℕ) (body : List ℕ) (is : IsState s) (live : s.live ≡ true) where
  pub refusal_serves : (e : ReplyError) → first_refusal (reply_refusals (memory s) op body) ≡ Some e
      → (old : Option Told) → Serves (Reply op body) s s old old (answer_of is_reply_fault as_reply (Err e))
  refusal_serves e some old = subst (λ (o : Option Answer).
      Serves (Reply op body) s s old old o) (sym (refused_answer is_reply_fault e (reply_unblamed (memory s) op body e some) as_reply))
      (λ given supplied. refused_call s op body given is live supplied e some old supplied)

  pub stored_serves : first_refusal (reply_refusals (memory s) op body) ≡ None → IsInReplySlot s.file.layout (next_reply s body)
      → (t : State) (check : List ℕ) (old new : Option Told) → check ≡ (next_reply s body).header.checksum
      → t ≡ with_stored_reply s (next_reply s body).header → new ≡ after_all (reply_events s (next_reply s body)) old
      → Serves (Reply op body) s t old new (answer_of is_reply_fault as_reply (Ok check))
  stored_serves none own t check old new same next_is all =
      subst (λ (x : State). Serves (Reply op body) s x old new (answer_of is_reply_fault as_reply (Ok check))) (sym next_is)
      (subst (λ (r : List ℕ). Serves
      (Reply op body) s (with_stored_reply s (next_reply s body).header) old new (answer_of is_reply_fault as_reply (Ok r))) (sym same)
      (λ given supplied. stored_call s op body given is live supplied none own old new supplied all))

  pub fault_serves : first_refusal (reply_refusals (memory s) op body) ≡ None
      → IsInReplySlot s.file.layout (next_reply s body) → (t : State) (old new : Option Told) → t.live ≡ false
      → AddsPart (reply_events s (next_reply s body)) old new → Serves (Reply op body) s t old new None
  fault_serves none own t old new dead part = λ given supplied. fault_call s op body given is live supplied none own old new t supplied dead part
