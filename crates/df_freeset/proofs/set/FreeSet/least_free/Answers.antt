-- The summary is full, or its lowest zero is beyond the words, or is the first word with a zero.
use Rattle.std.{proofs.{Common.{◌≡◌, ◌≤◌, ◌<◌, IsNone, ℕ, ◌*◌, ◌+◌, true, List, length, get_or, arith, rules, refl, sym, subst, ◌∙◌}, lemmas.Bool.{ltb-true, ltb-false}, lemmas.List.{get_or_read}}, specs.{Prelude.{ltb}, Int.{trailing_ones, w64}}}
use Rattle.df_freeset.{specs.{Addresses.{AreAllTaken, IsLeastFree}, Bits.{IsFreeSet, IsLowestZero, AreFull}}, proofs.{Least.{zero_is_least, zero_is_beyond, not_both}, Summary.{summary_full, summary_beyond, summary_lowest}}}
use Rattle.df_freeset.proofs.set.FreeSet.least_free.Goals as goal

-- the lowest zero of the word that the summary names
first_zero : (words summary : List ℕ) (n w word t : ℕ) → IsFreeSet words summary n
    → IsLowestZero summary w → true ≡ ltb w (length words) → word ≡ get_or words w word → t ≡ trailing_ones w64 word
    → IsLowestZero words (w * 64 + t)
first_zero words summary n w word t old lowest found read counted = let inside : w < length words = ltb-true w (length words) (sym found) in
    summary_lowest words summary n w word t old lowest inside (get_or_read words w word inside read 0) counted

pub returns-in_err-word-clause-none : goal.returns-in_err-word-clause-none
returns-in_err-word-clause-none c = let s = c.self.inside in
    let full : AreFull s.summary.items = subst AreFull c.deref.ensures.value (c.in_err-word.ensures.none.0 refl) in
    let all : AreAllTaken c.args.self.now =
    subst AreAllTaken c.self.view_is (summary_full s.words.items s.summary.items s.blocks c.self.invariant full) in
    let none : IsNone c.from_residual.result = search (rules, c.from_residual.ensures) in (λ _. all, λ _. none)

pub returns-in_err-get-clause-none : goal.returns-in_err-get-clause-none
returns-in_err-get-clause-none c = let s = c.self.inside in let w = c.in_ok-word.word in
    let lowest : IsLowestZero s.summary.items w = rw c.deref.ensures.value at c.in_ok-word.ensures.lowest in
    let beyond : length s.words.items ≤ w =
    (rw c.deref-2.ensures.value at (ltb-false w (length c.deref-2.result.now) (sym c.in_err-get.ensures.lookup.0))) in
    let all : AreAllTaken c.args.self.now =
    subst AreAllTaken c.self.view_is (summary_beyond s.words.items s.summary.items s.blocks w c.self.invariant lowest beyond) in
    let none : IsNone c.from_residual-in_err-get.result = search (rules, c.from_residual-in_err-get.ensures) in (λ _. all, λ _. none)

pub returns-then-address-from : goal.returns-then-address-from
returns-then-address-from c = let s = c.self.inside in let bit = c.in_ok-word.word * 64 + c.from.result in
    let first : IsLowestZero s.words.items bit =
    first_zero s.words.items s.summary.items s.blocks _ _ _ c.self.invariant (rw c.deref.ensures.value at c.in_ok-word.ensures.lowest)
    (rw c.deref-2.ensures.value at c.in_ok-get.ensures.lookup.0)
    (rw c.deref-2.ensures.value at c.in_ok-get.ensures.lookup.1) (c.from.ensures ∙ c.trailing_ones-ones.ensures) in
    let within : bit + 1 ≤ s.blocks = omega (arith, c.from-2.ensures, c.if-address-from.true) in
    let least : IsLeastFree c.args.self.now (bit + 1) =
    rw c.self.view_is at (zero_is_least s.words.items s.blocks bit (bit + 1) first refl within) in
    record { none = (λ e. cc, λ all. absurd (not_both c.args.self.now _ least all)); least = least }

pub returns-else-address-from-clause-none : goal.returns-else-address-from-clause-none
returns-else-address-from-clause-none c = let s = c.self.inside in let bit = c.in_ok-word.word * 64 + c.from.result in
    let first : IsLowestZero s.words.items bit =
    first_zero s.words.items s.summary.items s.blocks _ _ _ c.self.invariant (rw c.deref.ensures.value at c.in_ok-word.ensures.lowest)
    (rw c.deref-2.ensures.value at c.in_ok-get.ensures.lookup.0)
    (rw c.deref-2.ensures.value at c.in_ok-get.ensures.lookup.1) (c.from.ensures ∙ c.trailing_ones-ones.ensures) in
    let all : AreAllTaken c.args.self.now = subst AreAllTaken
    c.self.view_is (zero_is_beyond s.words.items s.blocks bit first (omega (arith, c.from-2.ensures, c.if-address-from.false))) in
    (λ _. all, λ _. refl)
