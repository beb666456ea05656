-- Each append is the machine's: its answer, the state after it, and what it does to the disk.
use Rattle.std.{proofs.{Common.{◌≡◌, ℕ, ◌+◌, ◌%◌, ◌^◌, ◌<◌, ◌≤◌, true, false, List, [], ◌∷◌, length, Option, Some, None, refl, sym, ◌∙◌, ap, subst, arith}, Math.Nat.{mod-lt}}, specs.Prelude.{Ok, Err}}
use Rattle.{df_base.proofs.Laws.{AreBytes-check_of, field_at-lt}, df_disk.specs.{Told.{Told}, Adds.{AddsPart, after_all}}}
use Rattle.{df_format.specs.{Making.{for_body}, Message.{Message}, Spelling.{spelling_rest}}, df_journal.specs.Below.{IsInOwnSlot}}
use Rattle.{df_sessions.specs.Table.{IsSessionTable}, df_theory.specs.Shape.{Shape}, df_units.specs.Meaning.{number_of}}
use Rattle.df_model.{specs.{After.{outcome, with_prepare}, Changing.{appended_in, blocks_after, unless_refused}, Codec.{AreChecksums}, Commands.{Answer, Append, Command, ForAppend, Given, IsInput, ToAppend, as_answer, supplied_sum, supplied_sums}, Faults.{is_append_fault}, Making.{prepare_of}, Memory.{Memory, memory_of}, Refusals.{append_refusals, first_refusal}, Sense.{IsWork}, Work.{Work}, declared.answers.Receipt.{Receipt}, declared.errors.AppendError.{AppendError}}, proofs.Laws.{change_law}}
use Rattle.df_theory.specs.Units as theory
use Rattle.df_model.specs.declared.errors.AppendError.TheVariants as append
use Rattle.df_replica.{specs.{Answering.{Serves, answer_of, as_append}, Appending.{IsAppendCall, append_events, header_given, next_unit, receipt_of, with_prepare_appended}, Serving.{IsCall, format, next}, Supply.{IsSupplied}}, proofs.{AppendCalls.{allowed_does, allowed_makes, allowed_puts, refused_does, refused_makes, refused_puts, ring_then, test_is}, AppendMemory.{appended_memory}, AppendTests.{may_next}, Calls.{AreCalls, Answered, answered_call, answered_still, stopped_call}, WritesOn.{StandsIn}, Unblamed.{append_unblamed, refused_answer}}}
use Rattle.df_opening.specs.Below.{IsState, Represents, State, memory, shape, spelling}

module _ (s : State) (client request : ℕ) (body : List ℕ) (given : Given) (is : IsState s) (live : s.live ≡ true)
    (fits : client < 2 ^ 128) (sum : given ≡ ForAppend (number_of (next_unit s client request body).header.checksum ∷ [])) where
  abbrev u : Message
  u = next_unit s client request body

  abbrev command : Command
  command = Append client request body

  input : IsInput given command
  input = record { checksums = subst (λ (g : Given). AreChecksums (supplied_sums g)) (sym sum) (field_at-lt 16 0 u.header.checksum (AreBytes-check_of (spelling_rest (for_body (header_given s client request) body))), tt); fields = fits }

  -- ---- a refusal

  module _ (e : AppendError) (some : first_refusal (append_refusals (memory s) client request body) ≡ Some e) where
    refused_next : (w : Work) → Represents s w → next s.file w given command ≡ (w, ToAppend (Err e))
    refused_next w rep = let p = prepare_of (memory_of (shape s.file) (spelling s.file) w) (supplied_sum given) client request body in
        ap (λ (o : Option AppendError). as_answer ToAppend (outcome o w (with_prepare w p) (p.header.op, supplied_sum given)))
        (test_is s client request body given is sum w rep (Some e) some)

    refused_as : Answered given command s s [] (ToAppend (Err e))
    refused_as = answered_still s given command (ToAppend (Err e)) live refused_next (λ w rep.
        refused_makes s client request body given is sum e some (StandsIn (format s.file) []) w rep)

    refused_call : (old : Option Told) → IsSupplied s old command given → IsCall given command s s old old (Some (ToAppend (Err e)))
    refused_call old supplied = answered_call given command s [] input (refused_does s client request body given is sum e some)
        (refused_puts s client request body given is sum e some) s (ToAppend (Err e)) refused_as old old supplied refl

  -- ---- a receipt, and a fault

  module _ (table : IsSessionTable s.table)
      (none : first_refusal (append_refusals (memory s) client request body) ≡ None) (own : IsInOwnSlot s.file.layout u) where
    room : s.head + 1 ≤ s.fields.op + s.file.layout.slots
    room = (may_next s client request body is table live none).note.room

    slot_inside : (s.head + 1) % s.file.layout.slots < length s.headers
    slot_inside = omega (arith, mod-lt (s.head + 1) (let some : 0 < s.file.layout.slots = omega (arith, s.file.layout.slots_within.0) in some), is.ring.count)

    abbrev answer : Answer
    answer = ToAppend (Ok (u.header.op, number_of u.header.checksum))

    module _ (w : Work) (work : IsWork (shape s.file) (spelling s.file) w) (rep : Represents s w) where
      abbrev sh : Shape
      sh = shape s.file

      abbrev m : Memory
      m = memory_of sh (spelling s.file) w

      abbrev p : theory.Message
      p = prepare_of m (supplied_sum given) client request body

      abbrev pair : ℕ × ℕ
      pair = (p.header.op, supplied_sum given)

      none_there : first_refusal (append_refusals m client request body) ≡ None
      none_there = test_is s client request body given is sum w rep None none

      next_is : next s.file w given command ≡ (with_prepare w p, ToAppend (Ok pair))
      next_is = ap (λ (o : Option AppendError). as_answer ToAppend (outcome o w (with_prepare w p) pair)) none_there

      memory_is : memory_of sh (spelling s.file) (with_prepare w p) ≡ appended_in m p
      memory_is = subst (λ (o : Option AppendError). memory_of sh (spelling s.file) (outcome o w (with_prepare w p) pair).0
          ≡ record (unless_refused o m (appended_in m p)) { blocks = blocks_after (spelling s.file) m given command })
          none_there (change_law sh (spelling s.file) w given command work)

      stands : Represents (with_prepare_appended s u) (with_prepare w p)
      stands = appended_memory s client request body is room slot_inside
          ∙ (λ i. appended_in (rep i) (prepare_of (rep i) (supplied_sum (sym sum i)) client request body)) ∙ sym memory_is

      allowed_at : (answer ≡ (next s.file w given command).1) × Represents (with_prepare_appended s u) (next s.file w given command).0
      allowed_at = subst (λ (x : Work × Answer). (answer ≡ x.1) × Represents (with_prepare_appended s u) x.0) (sym next_is)
          ((λ i. ToAppend (Ok ((rep i).head + 1, supplied_sum (sym sum i)))), stands)

    allowed_as : Answered given command s (with_prepare_appended s u) (append_events s u) answer
    allowed_as = record {
      file = refl;
      live = live;
      stands = λ w work rep. allowed_at w work rep;
      made = λ w work rep. allowed_makes s client request body given is sum none own w rep;
      ring = λ g w a b k all. ring_then s client request body given is sum none own g w a k b all;
    }

    allowed_calls : AreCalls given command s (append_events s u)
    allowed_calls g w t k = allowed_does s client request body given is sum none own g w t k

    receipt_call : (old new : Option Told) → IsSupplied s old command given
        → new ≡ after_all (append_events s u) old → IsCall given command s (with_prepare_appended s u) old new (Some answer)
    receipt_call old new supplied all = answered_call given command s (append_events s u) input allowed_calls
        (allowed_puts s client request body given is sum none own) (with_prepare_appended s u) answer allowed_as old new supplied all

    fault_call : (old new : Option Told) (t : State)
        → IsSupplied s old command given → t.live ≡ false → AddsPart (append_events s u) old new → IsCall given command s t old new None
    fault_call old new t supplied dead part = stopped_call given command
        s (append_events s u) input allowed_calls (allowed_puts s client request body given is sum none own) t old new supplied dead part

-- a refusal leaves all as it was
pub refused_exact : (client request : ℕ) (body : List ℕ) (s : State) (told : Option Told) (e : AppendError) → first_refusal (append_refusals
    (memory s) client request body) ≡ Some e → is_append_fault e ≡ false → IsAppendCall client request body s s told told (Err e)
refused_exact client request body s told append.DiskFault some safe = absurd (let bad : true ≡ false = safe in cc)
refused_exact client request body s told e some safe = (some, refl, refl)

module _ (s : State) (client request : ℕ) (body : List ℕ) (is : IsState s) (live : s.live ≡ true) (fits : client < 2 ^ 128) where
  pub refusal_serves : (e : AppendError) → first_refusal (append_refusals (memory s) client request body) ≡ Some e
      → (old : Option Told) → Serves (Append client request body) s s old old (answer_of is_append_fault as_append (Err e))
  refusal_serves e some old = subst (λ (o : Option Answer). Serves (Append client request body) s s old old o)
      (sym (refused_answer is_append_fault e (append_unblamed (memory s) client request body e some) as_append))
      (λ given supplied. refused_call s client request body given is live fits supplied e some old supplied)

  pub receipt_serves : IsSessionTable s.table
      → first_refusal (append_refusals (memory s) client request body) ≡ None → IsInOwnSlot s.file.layout (next_unit s client request body)
      → (t : State) (receipt : Receipt) (old new : Option Told)
      → receipt ≡ receipt_of (next_unit s client request body).header → t ≡ with_prepare_appended s (next_unit s client request body)
      → new ≡ after_all (append_events s (next_unit s client request body)) old
      → Serves (Append client request body) s t old new (answer_of is_append_fault as_append (Ok receipt))
  receipt_serves table none own t receipt old new same next_is all =
      subst (λ (x : State). Serves (Append client request body) s x old new (answer_of is_append_fault as_append (Ok receipt))) (sym next_is)
      (subst (λ (r : Receipt). Serves (Append client request body)
      s (with_prepare_appended s (next_unit s client request body)) old new (answer_of is_append_fault as_append (Ok r))) (sym same)
      (λ given supplied. receipt_call s client request body given is live fits supplied table none own old new supplied all))

  pub fault_serves : IsSessionTable s.table
      → first_refusal (append_refusals (memory s) client request body) ≡ None → IsInOwnSlot s.file.layout (next_unit s client request body)
      → (t : State) (old new : Option Told) → t.live ≡ false
      → AddsPart (append_events s (next_unit s client request body)) old new → Serves (Append client request body) s t old new None
  fault_serves table none own t old new dead part =
      λ given supplied. fault_call s client request body given is live fits supplied table none own old new t supplied dead part
