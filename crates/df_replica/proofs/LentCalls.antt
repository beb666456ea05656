-- What a call of a replica answers to a read is the one unit with the checksum that is known, and the state's own where that was written.
use Rattle.{std.proofs.Common.{◌≡◌, ℕ, [], ◌∷◌, Option, Some, None, Result, Ok, Err, refl, sym, ◌∙◌, ap, subst}, df_base.specs.Log.{Log}}
use Rattle.{df_disk.specs.Told.{Told}, df_layout.specs.declared.damage.Class.{Class}}
use Rattle.df_model.specs.{After.{shown_or}, Commands.{Answer, Given, ReadBlock, ReadPrepare, ReadReply, ToReadBlock, ToReadPrepare, ToReadReply, supplied_block, supplied_message}, Memory.{Memory, memory_of}, Refusals.{first_refusal, lookup_refusals, prepare_refusals, read_refusals}, Work.{Work}}
use Rattle.df_theory.specs.{Device.{NoChanceOf}, Units.{Block, Message}}
use Rattle.df_replica.{specs.{BlockReads.{IsBlockFound, IsReadBlock}, Reading.{IsFoundBy, IsReadPrepare}, Serving.{Firm, IsCall, Keeps, format, next}, Lending.{AnswersOwn, CallIsOwn, CallIsTheOne}, Lookups.{IsReadReply}, Striking.{StruckReadsAreOwn}, WrittenFor.{IsWrittenFor}}, proofs.Lent.{block_is_lent, block_is_the_one, prepare_is_lent, prepare_is_the_one, reply_is_lent, reply_is_the_one}}
use Rattle.df_opening.specs.Below.{DataFile, State, memory, shape, spelling}

-- an answer that is Ok is what was found, and nothing refused
ok_in : {X E : Type 0} (o : Option E) (damaged : Class → E) (found : Result X Class) (x : X)
    → Ok x ≡ shown_or o damaged found → (o ≡ None) × (found ≡ Ok x)
ok_in (Some e) damaged found x is = absurd (cc)
ok_in None damaged (Ok y) x is = (refl, let same : y ≡ x = cc in ap Ok same)
ok_in None damaged (Err class) x is = absurd (cc)

module _ (given : Given) (s u : State) (w : Work) (t : Told) (new : Option Told) (answer : Answer) (keeps : Keeps Firm s w None) where
  -- memory is the machine's
  abbrev known : Memory
  known = memory_of (shape s.file) (spelling s.file) w

  -- a read whose answer is Ok showed what was found, and nothing refused it
  shown : {X E : Type 0} (to : Result X E → Answer) (one : (a b : Result X E) → to a ≡ to b → a ≡ b)
      (refusal : Memory → Option E) (damaged : Class → E) (found : Result X Class)
      (IsFound : Result X Class → Type 0) → IsFound found
      → answer ≡ to (shown_or (refusal known) damaged found) → (x : X) → answer ≡ to (Ok x) → (refusal (memory s) ≡ None) × IsFound (Ok x)
  shown to one refusal damaged found IsFound is said x given_as =
      let parts = ok_in (refusal known) damaged found x (one (Ok x) (shown_or (refusal known) damaged found) (sym given_as ∙ said)) in
      (ap refusal keeps.1 ∙ parts.0, subst IsFound parts.1 is)

  prepare_read : (op : ℕ) → IsCall given (ReadPrepare op) s u (Some t) new (Some answer)
      → (p : Message) → answer ≡ ToReadPrepare (Ok p) → IsReadPrepare op s (Some t) (Ok p)
  prepare_read op call = shown ToReadPrepare (λ a b same.
      cc) (λ m. first_refusal (prepare_refusals m op)) _ (supplied_message given) (IsFoundBy s (ReadPrepare op) (Some t))
      call.supplied.1 (call.answers Firm w keeps).0

  reply_read : (client : ℕ) → IsCall given (ReadReply client) s u (Some t) new (Some answer)
      → (r : Message) → answer ≡ ToReadReply (Ok r) → IsReadReply client s (Some t) (Ok r)
  reply_read client call = shown ToReadReply (λ a b same.
      cc) (λ m. first_refusal (lookup_refusals m client)) _ (supplied_message given) (IsFoundBy s (ReadReply client) (Some t))
      call.supplied.1 (call.answers Firm w keeps).0

  block_read : (address : ℕ) → IsCall given (ReadBlock address) s u (Some t) new (Some answer)
      → (b : Block) → answer ≡ ToReadBlock (Ok b) → IsReadBlock address s (Some t) (Ok b)
  block_read address call = shown ToReadBlock (λ a b same.
      cc) (λ m. first_refusal (read_refusals m address)) _ (supplied_block given) (IsBlockFound s address (Some t))
      call.supplied.1 (call.answers Firm w keeps).0

  -- what is found is shown by an image without chance, so it is the state's own

  module _ (written : IsWrittenFor s.file t.log w) (chance : NoChanceOf (format s.file) t.log t.shown) where
    prepare_own : (op : ℕ) → IsCall given (ReadPrepare op) s u (Some t) new (Some answer) → AnswersOwn w (ReadPrepare op) answer
    prepare_own op call p is = prepare_is_lent s w t op p keeps.1 written.view chance (prepare_read op call p is)

    reply_own : (client : ℕ) → IsCall given (ReadReply client) s u (Some t) new (Some answer) → AnswersOwn w (ReadReply client) answer
    reply_own client call r is = reply_is_lent s w t client r keeps.1 written.view chance (reply_read client call r is)

    block_own : (address : ℕ) → IsCall given (ReadBlock address) s u (Some t) new (Some answer) → AnswersOwn w (ReadBlock address) answer
    block_own address call b is = block_is_lent s w t address b keeps.1 (block_read address call b is)

pub call_is_the_one : CallIsTheOne
call_is_the_one given (ReadPrepare op) s u w t new answer call keeps chance =
    λ p is. prepare_is_the_one s t op p chance (prepare_read given s u w t new answer keeps op call p is)
call_is_the_one given (ReadReply client) s u w t new answer call keeps chance =
    λ r is. reply_is_the_one s t client r chance (reply_read given s u w t new answer keeps client call r is)
call_is_the_one given (ReadBlock address) s u w t new answer call keeps chance =
    λ b is. block_is_the_one s t address b chance (block_read given s u w t new answer keeps address call b is)
call_is_the_one given command s u w t new answer call keeps chance = tt

pub call_is_own : CallIsOwn
call_is_own given (ReadPrepare op) s u w t new answer call keeps written chance =
    prepare_own given s u w t new answer keeps written chance op call
call_is_own given (ReadReply client) s u w t new answer call keeps written chance =
    reply_own given s u w t new answer keeps written chance client call
call_is_own given (ReadBlock address) s u w t new answer call keeps written chance =
    block_own given s u w t new answer keeps written chance address call
call_is_own given command s u w t new answer call keeps written chance = tt

-- ---- calls one after the other, between which sectors may be struck

pub struck_reads_are_own : StruckReadsAreOwn
struck_reads_are_own s t w log later [] keeps written are = tt
struck_reads_are_own s t w log later (c ∷ cs) keeps written are = let u = are.1 in let n = are.2 in let call = are.3 in
    let then : Work = (next s.file w c.given c.command).0 in
    let here : IsWrittenFor s.file c.before.log w = subst (λ (l : Log). IsWrittenFor s.file l w) (sym are.0) written in
    let on : IsWrittenFor u.file n.log then =
    subst (λ (file : DataFile). IsWrittenFor file n.log then) (sym call.file) (call.written w keeps here) in (
      λ chance. (call_is_the_one c.given c.command s u w c.before (Some n) c.answer call keeps chance, call_is_own c.given c.command s u w c.before (Some n) c.answer call keeps here chance),
      struck_reads_are_own u t then n.log later cs (call.answers Firm w keeps).1 on are.4,
    )
