-- What a command leaves shown tells the checksums that it was supplied with: they are the codec's.
use Rattle.std.proofs.Common.{◌≡◌, ℕ, ◌+◌, ◌%◌, ◌<◌, ◌≤◌, List, [], ◌∷◌, length, Option, Some, None, refl, ◌∙◌, ap}
use Rattle.{df_base.specs.Image.{Image}, df_units.specs.Bytes.{unit_at}}
use Rattle.df_theory.{specs.{Units.{AnyUnit, Block, BlockPlace, BlockUnit, Content, CopyPlace, CopyUnit, Message, Place, PreparePlace, PrepareUnit, ReplyPlace, ReplyUnit, Units, or_else, overlay}, UnitLog.{put_one}}, proofs.Laws.{put_one_law}}
use Rattle.df_model.specs.{Commands.{Advance, Append, Command, Flush, Reply, WriteBlock}, Making.{block_of, finishing_content, first_of, group_of, next_address, place_of_reply, prepare_of, reply_of, trailer_block}, Memory.{Course, Memory}, Refusals.{append_refusals, block_refusals, first_refusal, reply_refusals}, Supply.{group_puts, puts_of, step_puts, step_sum, trailer_puts, trailer_sum, unless}, declared.errors.FlushError.{FlushError}}
use Rattle.df_replica.specs.{Below.{DataFile}, Leaving.{LeavesCopies, LeavesShown}}
use Rattle.df_session.{specs.{Agreeing.{AreSums}, Codec.{IsContentOfFile, codec}}, proofs.{Groups.{at_more, puts_each, sums_in}, Sums.{units_have_sums}}}

-- as many checksums are supplied as units are made, if none is refused, and a step of no checkpoint with 0
abbrev pub AreAsMany : Memory → (sums : List ℕ) → Command → Type 0
AreAsMany m sums (Append client request body) = sums ≡ first_of sums ∷ []
AreAsMany m sums Flush = length sums ≡ length m.staged
AreAsMany m sums (Reply op body) = sums ≡ first_of sums ∷ []
AreAsMany m sums (WriteBlock kind body) = sums ≡ first_of sums ∷ []
AreAsMany m sums Advance = (sums ≡ first_of sums ∷ []) × (m.running ≡ None → first_of sums ≡ 0)
AreAsMany m sums command = sums ≡ []

module _ (file : DataFile) (m : Memory) (sums : List ℕ) (before after : Image) where
  abbrev sum : ℕ
  sum = first_of sums

  abbrev under : Units
  under = unit_at file.layout file.cluster before

  abbrev shows : Place → Option AnyUnit
  shows = unit_at file.layout file.cluster after

  -- what is put at a place is shown there
  put_there : (put : Units) (place : Place) (x : AnyUnit) → shows place ≡ overlay put under place → put place ≡ Some x → shows place ≡ Some x
  put_there put place x shown is = shown ∙ ap (λ (o : Option AnyUnit). or_else o (under place)) is

  unless_put : {E : Type 0} (o : Option E) (place : Place) (x : AnyUnit) → o ≡ None → unless o (put_one place x) place ≡ Some x
  unless_put o place x none = ap (λ (p : Option _). unless p (put_one place x) place) none ∙ (put_one_law place x).at

  -- of one unit
  one_sum : (x : ℕ) → sums ≡ sum ∷ [] → sum ≡ x → sums ≡ x ∷ []
  one_sum x one is = one ∙ ap (λ (n : ℕ). n ∷ []) is

  append_sums : (client request : ℕ) (body : List ℕ) → sums ≡ sum ∷ []
      → LeavesShown file m sums (Append client request body) before after → AreSums (codec file) m sums (Append client request body)
  append_sums client request body one leaves none = let slot = (m.head + 1) % m.layout.slots in
      let p : Message = prepare_of m sum client request body in one_sum ((codec file).prepare p) one
      (units_have_sums file after (PreparePlace slot) (PrepareUnit p) leaves.whole
      (put_there (puts_of m sums (Append client request body)) (PreparePlace slot) (PrepareUnit p) (leaves.units.prepare slot)
      (unless_put (first_refusal (append_refusals m client request body)) (PreparePlace slot) (PrepareUnit p) none)))

  -- of a group
  flush_sums : 0 < m.layout.slots → length m.staged ≤ m.layout.slots
      → length sums ≡ length m.staged → LeavesShown file m sums Flush before after → AreSums (codec file) m sums Flush
  flush_sums some few many leaves none = let n = m.layout.slots in let op = m.head + 1 in let last = m.head + length m.staged in
      let put = group_puts n (group_of m sums) in
      let there : (s : ℕ) (x : AnyUnit) → put (PreparePlace s) ≡ Some x → shows (PreparePlace s) ≡ Some x =
      λ s x is. put_there (puts_of m sums Flush)
      (PreparePlace s) x (leaves.units.prepare s) (ap (λ (o : Option FlushError). unless o put (PreparePlace s)) none ∙ is) in
      sums_in m op last n some file shows (λ s p is.
      units_have_sums file after (PreparePlace s) (PrepareUnit p) leaves.whole is) op m.head_checksum m.staged sums many
      (at_more n put shows there (group_of m sums) (puts_each m op last n some op m.head_checksum m.staged sums few))

  reply_sums : (op : ℕ) (body : List ℕ)
      → sums ≡ sum ∷ [] → LeavesShown file m sums (Reply op body) before after → AreSums (codec file) m sums (Reply op body)
  reply_sums op body one leaves none = let place = place_of_reply m in let r : Message = reply_of m sum body in
      one_sum ((codec file).reply place r) one (units_have_sums file after (ReplyPlace place) (ReplyUnit r) leaves.whole
      (put_there (puts_of m sums (Reply op body)) (ReplyPlace place) (ReplyUnit r)
      (leaves.units.reply place) (unless_put (first_refusal (reply_refusals m op body)) (ReplyPlace place) (ReplyUnit r) none)))

  block_sums : (kind : ℕ) (body : List ℕ)
      → sums ≡ sum ∷ [] → LeavesShown file m sums (WriteBlock kind body) before after → AreSums (codec file) m sums (WriteBlock kind body)
  block_sums kind body one leaves none = let a = next_address m in let b : Block = block_of m.content.boot sum kind body in
      one_sum ((codec file).block a b) one (units_have_sums file after (BlockPlace a) (BlockUnit b) leaves.whole
      (put_there (puts_of m sums (WriteBlock kind body)) (BlockPlace a)
      (BlockUnit b) (leaves.units.block a) (unless_put (first_refusal (block_refusals m kind body)) (BlockPlace a) (BlockUnit b) none)))

  module _ (of : IsContentOfFile file m.content)
      (leaves : LeavesShown file m sums Advance before after) (copies : LeavesCopies file m sums Advance before after) where
    left_sum : (r : Course) (left : List ℕ) → m.running ≡ Some r → r.left ≡ left → sum ≡ trailer_sum (codec file) m r left
    left_sum r [] running is = let c : Content = finishing_content m r sum in
        let puts : step_puts m m.running sum (CopyPlace 0) ≡ Some (CopyUnit c) =
        ap (λ (o : Option Course). step_puts m o sum (CopyPlace 0)) running ∙ ap (λ (l : List ℕ). trailer_puts m r sum l (CopyPlace 0)) is in
        units_have_sums
        file after (CopyPlace 0) (CopyUnit c) leaves.whole (put_there (puts_of m sums Advance) (CopyPlace 0) (CopyUnit c) (copies 0) puts)
        (record { version = of.version; layout = of.layout; cluster = of.cluster; rest = of.rest })
    left_sum r (a ∷ more) running is = let b : Block = trailer_block m r sum in
        let puts : step_puts m m.running sum (BlockPlace a) ≡ Some (BlockUnit b) =
        ap (λ (o : Option Course). step_puts m o sum (BlockPlace a)) running
        ∙ ap (λ (l : List ℕ). trailer_puts m r sum l (BlockPlace a)) is ∙ (put_one_law (BlockPlace a) (BlockUnit b)).at in
        units_have_sums file after (BlockPlace a)
        (BlockUnit b) leaves.whole (put_there (puts_of m sums Advance) (BlockPlace a) (BlockUnit b) (leaves.units.block a) puts)

    advance_sum : (o : Option Course) → m.running ≡ o → (m.running ≡ None → sum ≡ 0) → sum ≡ step_sum (codec file) m o
    advance_sum None running idle = idle running
    advance_sum (Some r) running idle = left_sum r r.left running refl

  pub sums_made : (command : Command) → IsContentOfFile file m.content → 0 < m.layout.slots → length m.staged ≤ m.layout.slots
      → AreAsMany m sums command → LeavesShown file m sums command before after → LeavesCopies file m sums command before after
      → AreSums (codec file) m sums command
  sums_made (Append client request body) of some few many leaves copies = append_sums client request body many leaves
  sums_made Flush of some few many leaves copies = flush_sums some few many leaves
  sums_made (Reply op body) of some few many leaves copies = reply_sums op body many leaves
  sums_made (WriteBlock kind body) of some few many leaves copies = block_sums kind body many leaves
  sums_made Advance of some few many leaves copies =
      one_sum (step_sum (codec file) m m.running) many.0 (advance_sum of leaves copies m.running refl many.1)
  sums_made command of some few many leaves copies = many
