-- A read that is Ok gives what was written there.
use Rattle.std.{proofs.{Common.{◌≡◌, ℕ, ◌+◌, ◌-◌, ◌%◌, ◌<◌, true, ◌&&◌, nat_lt, Option, Some, None, Ok, refl, sym, ◌∙◌, ap, subst, arith, length}, lemmas.Bool.Decides.{nat_tests}, lemmas.Bool.{not-false}}, specs.{Prelude.{nat_le}, List.{slice_get}}}
use Rattle.{df_disk.specs.Told.{Told}, df_opening.specs.Below.{IsTheOne, WasWritten, Represents, State, memory, shape, spelling}}
use Rattle.df_model.{specs.{After.{place_of_client}, Blocks.{addresses, entries, sum_at}, Memory.{Memory, memory_of, prepare_sum, reply_sum, stored_sum, sum_of_message}, Refusals.{first_refusal, prepare_refusals}, Work.{Work, kept}, declared.reading.LookupError.{LookupError}, declared.reading.PrepareError.{PrepareError}, declared.reading.ReadError.{ReadError}}, proofs.Laws.{all_pass, entry_in}}
use Rattle.df_theory.{specs.{Device.{NoChanceOf, units_log}, Sessions.{Answers}, Tails.{In}, Units.{AnyUnit, Block, BlockPlace, BlockUnit, Message, Place, PreparePlace, PrepareUnit, ReplyPlace, ReplyUnit}, View.{sessions}}, proofs.Laws.{read_law}}
use Rattle.df_units.specs.Bytes.{unit_at}
use Rattle.df_replica.{specs.{BlockReads.{IsReadBlock}, Lookups.{IsReadReply, place_for}, Reading.{IsReadPrepare}, Serving.{format}, Lending.{BlockIsLent, BlockIsTheOne, IsReplyTo, LendsWrittenBlock, LendsWrittenPrepare, LendsWrittenReply, PrepareIsLent, PrepareIsTheOne, ReplyIsLent, ReplyIsTheOne}}, proofs.LentFinds.{block_in, chain_get, client_at, joined_at, mapped, prepare_in, reply_in, stored_in}}

-- ---- the one unit with the checksum that is known

the_one : (s : State) (t : Told) (place : Place) (x : AnyUnit) → NoChanceOf (format s.file) t.log t.shown
    → unit_at s.file.layout s.file.cluster t.shown place ≡ Some x → IsTheOne (units_log (format s.file) t.log) place x
the_one s t place x chance shown = record {
  there = chance.pooled place x shown;
  only = λ other y written.
      read_law (units_log (format s.file) t.log) (unit_at s.file.layout s.file.cluster t.shown) other place y x chance written shown;
}

-- what a read found is shown, with the checksum that memory has

prepare_found : (s : State) (t : Told) (op : ℕ) (p : Message) → IsReadPrepare op s (Some t) (Ok p) → (unit_at s.file.layout s.file.cluster
    t.shown (PreparePlace (op % s.file.layout.slots)) ≡ Some (PrepareUnit p)) × (prepare_sum (memory s) op ≡ Some p.header.checksum)
prepare_found s t op p (none, found) = prepare_in
    (prepare_sum (memory s) op) (unit_at s.file.layout s.file.cluster t.shown (PreparePlace (op % s.file.layout.slots))) _ p found

reply_found : (s : State) (t : Told) (client : ℕ) (r : Message) → IsReadReply client s (Some t) (Ok r) → (unit_at s.file.layout s.file.cluster t.shown (ReplyPlace (place_for s client)) ≡ Some (ReplyUnit r)) × (reply_sum (memory s) (place_for s client) ≡ Some r.header.checksum)
reply_found s t client r (none, found) = reply_in
    (reply_sum (memory s) (place_for s client)) (unit_at s.file.layout s.file.cluster t.shown (ReplyPlace (place_for s client))) _ r found

block_found : (s : State) (t : Told) (address : ℕ) (b : Block) → IsReadBlock address s (Some t) (Ok b) → (unit_at s.file.layout
    s.file.cluster t.shown (BlockPlace address) ≡ Some (BlockUnit b)) × (sum_at address (memory s).blocks.live ≡ Some b.checksum)
block_found s t address b (none, found) =
    block_in (sum_at address (memory s).blocks.live) (unit_at s.file.layout s.file.cluster t.shown (BlockPlace address)) _ b found

pub prepare_is_the_one : PrepareIsTheOne
prepare_is_the_one s t op p chance read = let found = prepare_found s t op p read in
    (found.1, the_one s t (PreparePlace (op % s.file.layout.slots)) (PrepareUnit p) chance found.0)

pub reply_is_the_one : ReplyIsTheOne
reply_is_the_one s t client r chance read = let found = reply_found s t client r read in
    (found.1, the_one s t (ReplyPlace (place_for s client)) (ReplyUnit r) chance found.0)

pub block_is_the_one : BlockIsTheOne
block_is_the_one s t address b chance read = let found = block_found s t address b read in
    (found.1, the_one s t (BlockPlace address) (BlockUnit b) chance found.0)

-- ---- a prepare of the view

above_in : (low op top : ℕ) → (nat_lt low op && nat_le op top) ≡ true → low < op
above_in low op top is = grind (arith, nat_tests, is)

-- what isn't refused is above the checkpoint
above_of : (m : Memory) (op : ℕ) → first_refusal (prepare_refusals m op) ≡ None → m.content.op < op
above_of m op none =
    above_in m.content.op op m.head (not-false (nat_lt m.content.op op && nat_le op m.head) (all_pass (prepare_refusals m op) none).0)

module _ (s : State) (w : Work) (t : Told) (stands : Represents s w) where
  -- memory is the machine's
  abbrev known : Memory
  known = memory_of (shape s.file) (spelling s.file) w

  module _ (written : WasWritten s.file t.log (kept w)) (chance : NoChanceOf (format s.file) t.log t.shown) where
    prepare_lent : (op : ℕ) (p : Message) → IsReadPrepare op s (Some t) (Ok p) → In p (kept w).tail × (p.header.op ≡ op)
    prepare_lent op p read = let one = prepare_is_the_one s t op p chance read in
        let sum : prepare_sum known op ≡ Some p.header.checksum = ap (λ (m : Memory). prepare_sum m op) (sym stands) ∙ one.0 in
        let above : (kept w).checkpoint.content.op < op =
        above_of known op (ap (λ (m : Memory). first_refusal (prepare_refusals m op)) (sym stands) ∙ read.0) in
        let there = mapped sum_of_message (kept w).tail (op - (kept w).checkpoint.content.op - 1) p.header.checksum sum in
        let q : Message = there.0 in
        let at = chain_get s.file.layout.clients ((kept w).checkpoint.content.op + 1) (kept w).checkpoint.content.op_checksum
        0 (kept w).checkpoint.parts.sessions (kept w).tail (op - (kept w).checkpoint.content.op - 1) q written.sound.chain there.1 in
        let op_is : q.header.op ≡ op = omega (arith, at.1, above) in let place : Place = PreparePlace (q.header.op % s.file.layout.slots) in
        let same : q ≡ p = one.1.only place (PrepareUnit q) (written.needs place (PrepareUnit q) (q, at.0, refl, refl)) there.2 in
        (subst (λ (x : Message). In x (kept w).tail) same at.0, ap (λ (x : Message). x.header.op) (sym same) ∙ op_is)

    -- ---- a reply

    reply_lent : (client : ℕ) (r : Message) → IsReadReply client s (Some t) (Ok r) → IsReplyTo client (kept w) r
    reply_lent client r read = let place = place_for s client in let one = reply_is_the_one s t client r chance read in
        let sum : reply_sum known place ≡ Some r.header.checksum = ap (λ (m : Memory). reply_sum m place) (sym stands) ∙ one.0 in
        let stored = stored_in ((kept w).stored place)
        r.header.checksum (joined_at (λ k. stored_sum ((kept w).stored k)) (length (sessions (kept w))) place r.header.checksum sum) in
        let same : stored.0 ≡ r = one.1.only (ReplyPlace place)
        (ReplyUnit stored.0) (written.needs (ReplyPlace place) (ReplyUnit stored.0) (stored.0, stored.1, refl)) stored.2 in
        let session = written.sound.answered place stored.0 stored.1 in
        let own : place ≡ place_of_client client (sessions (kept w)) = ap (λ (m : Memory). place_of_client client m.sessions) stands in
        record {
          place = place;
          session = session.0;
          at = session.1;
          of = client_at client (sessions (kept w)) session.0 (ap (λ (k : ℕ). slice_get (sessions (kept w)) k) (sym own) ∙ session.1);
          stored = stored.1 ∙ ap Some same;
          answers = subst (λ (x : Message). Answers session.0 x) same session.3;
        }

  -- ---- a block

  block_lent : (address : ℕ) (b : Block) → IsReadBlock address s (Some t) (Ok b) → w.live address ≡ Some b.checksum
  block_lent address b read = let sum : sum_at address (entries w.live (addresses (shape s.file).layout)) ≡ Some b.checksum =
      ap (λ (m : Memory). sum_at address m.blocks.live) (sym stands) ∙ (block_found s t address b read).1 in
      entry_in w.live (addresses (shape s.file).layout) address b.checksum sum

pub prepare_is_lent : PrepareIsLent
prepare_is_lent s w t op p stands written chance read = prepare_lent s w t stands written chance op p read

pub reply_is_lent : ReplyIsLent
reply_is_lent s w t client r stands written chance read = reply_lent s w t stands written chance client r read

pub block_is_lent : BlockIsLent
block_is_lent s w t address b stands read = block_lent s w t stands address b read

-- ---- what is lent, as the reads' clauses have it

pub lends_written_prepare : (op : ℕ) (s : State) (p : Message) (told : Option Told)
    → IsReadPrepare op s told (Ok p) → LendsWrittenPrepare {E = PrepareError} op s (Ok p) told
lends_written_prepare op s p None read = tt
lends_written_prepare op s p (Some t) read =
    λ chance. (prepare_is_the_one s t op p chance read, λ w stands written. prepare_is_lent s w t op p stands written chance read)

pub lends_written_reply : (client : ℕ) (s : State) (r : Message) (told : Option Told)
    → IsReadReply client s told (Ok r) → LendsWrittenReply {E = LookupError} client s (Ok r) told
lends_written_reply client s r None read = tt
lends_written_reply client s r (Some t) read =
    λ chance. (reply_is_the_one s t client r chance read, λ w stands written. reply_is_lent s w t client r stands written chance read)

pub lends_written_block : (address : ℕ) (s : State) (b : Block) (told : Option Told)
    → IsReadBlock address s told (Ok b) → LendsWrittenBlock {E = ReadError} address s (Ok b) told
lends_written_block address s b None read = tt
lends_written_block address s b (Some t) read =
    λ chance. (block_is_the_one s t address b chance read, λ w stands. block_is_lent s w t address b stands read)
