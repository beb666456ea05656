-- Each flush is the machine's: its answer, the state after it, and what it does to the disk.
use Rattle.std.{proofs.Common.{◌≡◌, ℕ, ◌+◌, true, false, List, [], ◌∷◌, length, Option, Some, None, refl, sym, ◌∙◌, ap, subst}, specs.Prelude.{Ok, Err}}
use Rattle.{df_base.proofs.Laws.{AreBytes-check_of, field_at-lt}, df_disk.specs.{Told.{Told}, Adds.{AddsPart, after_all}}}
use Rattle.{df_format.specs.{Making.{for_body}, Message.{Message}, Spelling.{spelling_rest}}, df_theory.specs.Shape.{Shape}}
use Rattle.df_theory.specs.Units as theory
use Rattle.df_model.{specs.{After.{outcome, with_group}, Changing.{flushed_in, unless_refused}, Codec.{AreChecksums}, Commands.{Answer, Flush, ForFlush, Given, IsInput, ToFlush, as_answer, supplied_sums}, Faults.{is_flush_fault}, Making.{group_of}, Memory.{Memory, memory_of}, Refusals.{first_refusal, flush_refusals}, Sense.{IsWork}, Work.{Request, Work}, declared.errors.FlushError.{FlushError}}, proofs.Laws.{change_law}}
use Rattle.df_opening.specs.Below.{IsState, Represents, State, memory, shape, spelling}
use Rattle.df_replica.{specs.{declared.flush.Group.{Group}, Answering.{Serves, answer_of, as_flush}, Appending.{unit_made}, Flushing.{AreHeld, flush_events, flush_units, flushed, group_in, group_prepares, header_in, sums_of}, Serving.{IsCall, format, next}, Supply.{IsSupplied}}, proofs.{Calls.{AreCalls, Answered, answered_call, answered_still, stopped_call}, FlushCalls.{allowed_does, allowed_makes, allowed_puts, group_is, refused_does, refused_makes, refused_puts, ring_then, test_is}, FlushMemory.{flushed_memory}, Unblamed.{flush_unblamed, refused_answer}, WritesOn.{StandsIn}}}

-- each checksum is one
sums_are : (g : Group) (op : ℕ) (parent : List ℕ) (rs : List Request) → AreChecksums (sums_of (group_prepares g op parent rs))
sums_are g op parent [] = tt
sums_are g op parent (r ∷ rs) = let u = unit_made (header_in g op parent r) r.body in
    (field_at-lt 16 0 u.header.checksum (AreBytes-check_of (spelling_rest (for_body (header_in g op parent r) r.body))), sums_are g (op + 1) u.header.checksum rs)

module _ (s : State) (given : Given) (is : IsState s) (live : s.live ≡ true) (sum : given ≡ ForFlush (sums_of (flush_units s))) where
  abbrev us : List Message
  us = flush_units s

  input : IsInput given Flush
  input = record { checksums = subst (λ (g : Given). AreChecksums (supplied_sums g)) (sym sum) (sums_are (group_in s) (s.head + 1) s.head_checksum s.staged); fields = tt }

  -- ---- a refusal

  module _ (e : FlushError) (some : first_refusal (flush_refusals (memory s)) ≡ Some e) where
    refused_next : (w : Work) → Represents s w → next s.file w given Flush ≡ (w, ToFlush (Err e))
    refused_next w rep = let m = memory_of (shape s.file) (spelling s.file) w in
        ap (λ (o : Option FlushError). as_answer ToFlush (outcome o w (with_group w (group_of m (supplied_sums given))) (length m.staged)))
        (test_is s given is sum w rep (Some e) some)

    refused_as : Answered given Flush s s [] (ToFlush (Err e))
    refused_as = answered_still s given Flush (ToFlush (Err e)) live refused_next (λ w rep.
        refused_makes s given is sum e some (StandsIn (format s.file) []) w rep)

    refused_call : (old : Option Told) → IsSupplied s old Flush given → IsCall given Flush s s old old (Some (ToFlush (Err e)))
    refused_call old supplied = answered_call given Flush s []
        input (refused_does s given is sum e some) (refused_puts s given is sum e some) s (ToFlush (Err e)) refused_as old old supplied refl

  -- ---- a count, and a fault

  module _ (none : first_refusal (flush_refusals (memory s)) ≡ None) (held : AreHeld s.file us) where
    abbrev answer : Answer
    answer = ToFlush (Ok (length s.staged))

    module _ (w : Work) (work : IsWork (shape s.file) (spelling s.file) w) (rep : Represents s w) where
      abbrev sh : Shape
      sh = shape s.file

      abbrev m : Memory
      m = memory_of sh (spelling s.file) w

      abbrev ps : List theory.Message
      ps = group_of m (supplied_sums given)

      none_there : first_refusal (flush_refusals m) ≡ None
      none_there = test_is s given is sum w rep None none

      next_is : next s.file w given Flush ≡ (with_group w ps, ToFlush (Ok (length m.staged)))
      next_is = ap (λ (o : Option FlushError). as_answer ToFlush (outcome o w (with_group w ps) (length m.staged))) none_there

      memory_is : memory_of sh (spelling s.file) (with_group w ps) ≡ flushed_in m ps
      memory_is = subst (λ (o : Option FlushError). memory_of sh (spelling s.file) (outcome o w (with_group w ps) (length m.staged)).0
          ≡ record (unless_refused o m (flushed_in m ps)) { blocks = m.blocks })
          none_there (change_law sh (spelling s.file) w given Flush work)

      stands : Represents (flushed s us) (with_group w ps)
      stands = flushed_memory s is ∙ (λ i. flushed_in (rep i) (sym (group_is s given is sum live none held w rep) i)) ∙ sym memory_is

      allowed_at : (answer ≡ (next s.file w given Flush).1) × Represents (flushed s us) (next s.file w given Flush).0
      allowed_at = subst (λ (x : Work × Answer).
          (answer ≡ x.1) × Represents (flushed s us) x.0) (sym next_is) ((λ i. ToFlush (Ok (length (rep i).staged))), stands)

    allowed_as : Answered given Flush s (flushed s us) (flush_events s) answer
    allowed_as = record {
      file = refl;
      live = live;
      stands = λ w work rep. allowed_at w work rep;
      made = λ w work rep. allowed_makes s given is sum live none held w rep;
      ring = λ g w a b k all. ring_then s given is sum live none held g w a k b all;
    }

    allowed_calls : AreCalls given Flush s (flush_events s)
    allowed_calls g w t k = allowed_does s given is sum live none held g w t k

    count_call : (old new : Option Told)
        → IsSupplied s old Flush given → new ≡ after_all (flush_events s) old → IsCall given Flush s (flushed s us) old new (Some answer)
    count_call old new supplied all = answered_call given Flush s (flush_events s)
        input allowed_calls (allowed_puts s given is sum live none held) (flushed s us) answer allowed_as old new supplied all

    fault_call : (old new : Option Told) (t : State)
        → IsSupplied s old Flush given → t.live ≡ false → AddsPart (flush_events s) old new → IsCall given Flush s t old new None
    fault_call old new t supplied dead part = stopped_call
        given Flush s (flush_events s) input allowed_calls (allowed_puts s given is sum live none held) t old new supplied dead part

module _ (s : State) (is : IsState s) (live : s.live ≡ true) where
  pub refusal_serves : (e : FlushError) → first_refusal (flush_refusals (memory s)) ≡ Some e
      → (old : Option Told) → Serves Flush s s old old (answer_of is_flush_fault as_flush (Err e))
  refusal_serves e some old = subst (λ (o : Option Answer).
      Serves Flush s s old old o) (sym (refused_answer is_flush_fault e (flush_unblamed (memory s) e some) as_flush))
      (λ given supplied. refused_call s given is live supplied e some old supplied)

  pub count_serves : first_refusal (flush_refusals (memory s)) ≡ None → AreHeld s.file (flush_units s) → (t : State)
      (count : ℕ) (old new : Option Told) → count ≡ length s.staged → t ≡ flushed s (flush_units s) → new ≡ after_all (flush_events s) old
      → Serves Flush s t old new (answer_of is_flush_fault as_flush (Ok count))
  count_serves none held t count old new same next_is all =
      subst (λ (x : State). Serves Flush s x old new (answer_of is_flush_fault as_flush (Ok count))) (sym next_is)
      (subst (λ (n : ℕ). Serves Flush s (flushed s (flush_units s)) old new (answer_of is_flush_fault as_flush (Ok n))) (sym same)
      (λ given supplied. count_call s given is live supplied none held old new supplied all))

  pub fault_serves : first_refusal (flush_refusals (memory s)) ≡ None → AreHeld s.file (flush_units s)
      → (t : State) (old new : Option Told) → t.live ≡ false → AddsPart (flush_events s) old new → Serves Flush s t old new None
  fault_serves none held t old new dead part = λ given supplied. fault_call s given is live supplied none held old new t supplied dead part
