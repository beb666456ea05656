-- A command that is rightly supplied, as far as it asks for it, answers and makes what it does over what is shown.
use Rattle.std.proofs.Common.{◌≡◌, ℕ, ◌+◌, ◌%◌, List, length, Option, Some, None, Result, refl, ap}
use Rattle.{df_layout.specs.declared.damage.Class.{Class}, df_session.specs.Agreeing.{AreSums, IsFoundIn}}
use Rattle.df_theory.specs.{Units.{Block, BlockPlace, BlockUnit, Message, PreparePlace, PrepareUnit, ReplyPlace, ReplyUnit}, Shape.{Shape}, UnitLog.{put_one}}
use Rattle.df_model.specs.{After.{after_check, after_step_of, outcome, prepare_answer, lookup_answer, read_answer, to_check, with_group, with_live, with_prepare, with_reply}, Commands.{Advance, Answer, Append, Command, Flush, Given, ReadBlock, ReadPrepare, ReadReply, Reply, Scrub, ToAdvance, ToAppend, ToFlush, ToReadBlock, ToReadPrepare, ToReadReply, ToReply, ToScrub, ToWriteBlock, WriteBlock, after, as_answer, supplied_sums}, Making.{block_of, first_of, group_of, next_address, place_of_reply, prepare_of, reply_of}, Memory.{Memory, memory_of}, Refusals.{append_refusals, block_refusals, first_refusal, flush_refusals, reply_refusals}, Supply.{Codec, Shown, checksums_given, group_puts, next, puts_of, step_puts, unless}, Work.{Work}, declared.answers.Verdict.{Verdict}, declared.errors.AppendError.{AppendError}, declared.errors.BlockError.{BlockError}, declared.errors.FlushError.{FlushError}, declared.errors.ReplyError.{ReplyError}}

-- what is made of checksums, where a refusal makes the same of all
by_refusal : {E X : Type 0} (f : Option E → List ℕ → X) (o : Option E) (a b : List ℕ)
    → ((e : E) → f (Some e) a ≡ f (Some e) b) → (o ≡ None → a ≡ b) → f o a ≡ f o b
by_refusal f None a b refused same = ap (f None) (same refl)
by_refusal f (Some e) a b refused same = refused e

module _ (codec : Codec) (m : Memory) (sums : List ℕ) where
  -- it puts what it would with the codec's checksums
  pub puts_are : (c : Command) → AreSums codec m sums c → puts_of m sums c ≡ puts_of m (checksums_given codec m c) c
  puts_are (Append client request body) is =
      by_refusal (λ (o : Option AppendError) (ns : List ℕ). unless o (put_one (PreparePlace ((m.head + 1) % m.layout.slots))
      (PrepareUnit (prepare_of m (first_of ns) client request body)))) (first_refusal (append_refusals m client request body)) sums
      (checksums_given codec m (Append client request body)) (λ e. refl) is
  puts_are Flush is = by_refusal (λ (o : Option FlushError) (ns : List ℕ). unless o (group_puts m.layout.slots (group_of m ns)))
      (first_refusal (flush_refusals m)) sums (checksums_given codec m Flush) (λ e. refl) is
  puts_are (Reply op body) is =
      by_refusal (λ (o : Option ReplyError) (ns : List ℕ). unless o (put_one (ReplyPlace (place_of_reply m)) (ReplyUnit (reply_of
      m (first_of ns) body)))) (first_refusal (reply_refusals m op body)) sums (checksums_given codec m (Reply op body)) (λ e. refl) is
  puts_are (WriteBlock kind body) is =
      by_refusal (λ (o : Option BlockError) (ns : List ℕ). unless o (put_one (BlockPlace (next_address m)) (BlockUnit (block_of m.content.boot (first_of ns) kind body)))) (first_refusal (block_refusals m kind body)) sums (checksums_given codec m (WriteBlock kind body)) (λ e. refl) is
  puts_are Advance is = ap (λ (ns : List ℕ). step_puts m m.running (first_of ns)) is
  puts_are command is = refl

module _ (sh : Shape) (codec : Codec) (shown : Shown) (w : Work) (given : Given) where
  abbrev m : Memory
  m = memory_of sh codec.spell w

  pub next_is : (c : Command)
      → AreSums codec m (supplied_sums given) c → IsFoundIn shown m given c → after sh codec.spell w given c ≡ next sh codec shown w c
  next_is (Append client request body) is found =
      by_refusal (λ (o : Option AppendError) (ns : List ℕ). as_answer ToAppend (outcome o w (with_prepare w (prepare_of m (first_of ns)
      client request body)) (m.head + 1, first_of ns))) (first_refusal (append_refusals m client request body)) (supplied_sums given)
      (checksums_given codec m (Append client request body)) (λ e. refl) is
  next_is Flush is found =
      by_refusal (λ (o : Option FlushError) (ns : List ℕ). as_answer ToFlush (outcome o w (with_group w (group_of m ns)) (length w.staged)))
      (first_refusal (flush_refusals m)) (supplied_sums given) (checksums_given codec m Flush) (λ e. refl) is
  next_is (Reply op body) is found =
      by_refusal (λ (o : Option ReplyError) (ns : List ℕ). as_answer ToReply (outcome o w (with_reply w (place_of_reply m) (reply_of m (first_of ns) body)) (first_of ns))) (first_refusal (reply_refusals m op body)) (supplied_sums given) (checksums_given codec m (Reply op body))
      (λ e. refl) is
  next_is (WriteBlock kind body) is found =
      by_refusal (λ (o : Option BlockError) (ns : List ℕ). as_answer ToWriteBlock (outcome o w (with_live w (next_address m)
      (Some (first_of ns))) (next_address m, first_of ns))) (first_refusal (block_refusals m kind body)) (supplied_sums given)
      (checksums_given codec m (WriteBlock kind body)) (λ e. refl) is
  next_is Advance is found = ap (λ (ns : List ℕ). as_answer ToAdvance (after_step_of sh codec.spell w (first_of ns) w.running)) is
  next_is (ReadPrepare op) is found =
      ap (λ (x : Result Message Class). let y : Work × Answer = (w, ToReadPrepare (prepare_answer m x op)) in y) found
  next_is (ReadReply client) is found =
      ap (λ (x : Result Message Class). let y : Work × Answer = (w, ToReadReply (lookup_answer m x client)) in y) found
  next_is (ReadBlock address) is found =
      ap (λ (x : Result Block Class). let y : Work × Answer = (w, ToReadBlock (read_answer m x address)) in y) found
  next_is Scrub is found = ap (λ (v : Verdict). as_answer ToScrub (after_check w v (to_check m))) found
  next_is command is found = refl
