-- The address's bit is set, and the bit of its word where this fills it.
use Rattle.std.{proofs.Common.{◌≡◌, ◌-◌, ◌/◌, refl, sym, ◌∙◌, arith}, specs.Prelude.{slice_index}}
use Rattle.df_freeset.{specs.Bits.{setting}, proofs.{Counts.{one_fewer}, Views.{bit_below, now_taken, word_there, written_back, read_back}, Summary.{fills, leaves_open, summary_inside}}}
use Rattle.df_freeset.proofs.set.FreeSet.take.Goals as goal

pub set_bit-requires : goal.set_bit-requires
set_bit-requires c = let s = c.self.inside in rw c.deref_mut.ensures.value
    (word_there s.words.items s.blocks c.args.self.now c.args.address c.self.invariant.room c.self.view_is c.requires)

pub index-requires : goal.index-requires
index-requires c = let s = c.self.inside in
    omega (arith, s.words.ok, word_there s.words.items s.blocks c.args.self.now c.args.address c.self.invariant.room c.self.view_is c.requires)

pub set_bit-requires-then-index : goal.set_bit-requires-then-index
set_bit-requires-then-index c = let s = c.self.inside in rw c.deref_mut-then-index.ensures.value
    (summary_inside s.words.items s.summary.items s.blocks
    (c.args.address - 1) c.self.invariant (bit_below s.words.items s.blocks c.args.self.now c.args.address c.self.view_is c.requires))

pub invariant_of-self : goal.invariant_of-self
invariant_of-self c = let s = c.self.inside in let bit = c.args.address - 1 in
    let words : c.set_bit.new.words ≡ setting s.words.items bit = rw c.deref_mut.ensures.value at c.set_bit.ensures in
    let summary : c.set_bit-then-index.new.words ≡ setting s.summary.items (bit / 64) =
    rw c.deref_mut-then-index.ensures.value at c.set_bit-then-index.ensures in
    let inside = bit_below s.words.items s.blocks c.args.self.now c.args.address c.self.view_is c.requires in
    let row = word_there s.words.items s.blocks c.args.self.now c.args.address c.self.invariant.room c.self.view_is c.requires in
    let read : c.index.result.now ≡ slice_index (setting s.words.items bit) (bit / 64) =
    read_back s.words c.set_bit.new.words _ _ _ c.index.result.now words row c.index.ensures in
    rw (written_back s.words _ _ _ words, written_back s.summary _ _ _ summary, words, summary)
    (fills s.words.items s.summary.items s.blocks bit c.self.invariant inside (sym read ∙ c.if-index.true))

pub invariant_of-self-else-index : goal.invariant_of-self-else-index
invariant_of-self-else-index c = let s = c.self.inside in let bit = c.args.address - 1 in
    let words : c.set_bit.new.words ≡ setting s.words.items bit = rw c.deref_mut.ensures.value at c.set_bit.ensures in
    let inside = bit_below s.words.items s.blocks c.args.self.now c.args.address c.self.view_is c.requires in
    let row = word_there s.words.items s.blocks c.args.self.now c.args.address c.self.invariant.room c.self.view_is c.requires in
    let read : c.index.result.now ≡ slice_index (setting s.words.items bit) (bit / 64) =
    read_back s.words c.set_bit.new.words _ _ _ c.index.result.now words row c.index.ensures in rw (written_back s.words _ _ _ words, words)
    (leaves_open s.words.items s.summary.items s.blocks bit c.self.invariant inside (λ full. c.if-index.false (read ∙ full)))

pub returns-then-index : goal.returns-then-index
returns-then-index c = let s = c.self.inside in rw (now_taken s.words c.set_bit.new.words s.blocks
    c.args.self.now c.args.address (rw c.deref_mut.ensures.value at c.set_bit.ensures) c.self.invariant.room c.self.view_is c.requires)
    record { taken = refl; fewer = one_fewer c.args.self.now (c.args.address - 1) }

pub returns-else-index : goal.returns-else-index
returns-else-index c = let s = c.self.inside in rw (now_taken s.words c.set_bit.new.words s.blocks
    c.args.self.now c.args.address (rw c.deref_mut.ensures.value at c.set_bit.ensures) c.self.invariant.room c.self.view_is c.requires)
    record { taken = refl; fewer = one_fewer c.args.self.now (c.args.address - 1) }
