-- The address's bit is cleared, and the bit of its word.
use Rattle.std.proofs.Common.{◌-◌, ◌∙◌, refl}
use Rattle.df_freeset.{proofs.{Counts.{one_more}, Views.{bit_below, now_given, word_there, written_back}, Summary.{empties, summary_inside}}}
use Rattle.df_freeset.proofs.set.FreeSet.give.Goals as goal

pub clear_bit-requires : goal.clear_bit-requires
clear_bit-requires c = let s = c.self.inside in rw c.deref_mut.ensures.value
    (word_there s.words.items s.blocks c.args.self.now c.args.address c.self.invariant.room c.self.view_is c.requires)

pub clear_bit-requires-2 : goal.clear_bit-requires-2
clear_bit-requires-2 c = let s = c.self.inside in rw c.deref_mut-2.ensures.value (summary_inside s.words.items s.summary.items s.blocks
    (c.args.address - 1) c.self.invariant (bit_below s.words.items s.blocks c.args.self.now c.args.address c.self.view_is c.requires))

pub invariant_of-self : goal.invariant_of-self
invariant_of-self c = let s = c.self.inside in let words = written_back s.words _ _ _ (rw c.deref_mut.ensures.value at c.clear_bit.ensures)
    ∙ (rw c.deref_mut.ensures.value at c.clear_bit.ensures) in
    let summary = written_back s.summary _ _ _ (rw c.deref_mut-2.ensures.value at c.clear_bit-2.ensures)
    ∙ (rw c.deref_mut-2.ensures.value at c.clear_bit-2.ensures) in rw (words, summary) (empties s.words.items
    s.summary.items s.blocks _ c.self.invariant (bit_below s.words.items s.blocks c.args.self.now c.args.address c.self.view_is c.requires))

pub returns : goal.returns
returns c = let s = c.self.inside in rw (now_given s.words c.clear_bit.new.words s.blocks
    c.args.self.now c.args.address (rw c.deref_mut.ensures.value at c.clear_bit.ensures) c.self.invariant.room c.self.view_is c.requires)
    record { free = refl; more = one_more c.args.self.now (c.args.address - 1) }
