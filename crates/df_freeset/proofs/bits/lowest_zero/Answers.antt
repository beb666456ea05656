-- The first word that has a zero is found, and its trailing ones are counted.
use Rattle.{std.proofs.Common.{IsNone, rules, sym, ◌∙◌}, df_freeset.proofs.Least.{lowest_found, none_open, some_open}}
use Rattle.df_freeset.proofs.bits.lowest_zero.Goals as goal

pub returns-in_err-word-clause-none : goal.returns-in_err-word-clause-none
returns-in_err-word-clause-none c = let none : IsNone c.from_residual.result = search (rules, c.from_residual.ensures) in
    (λ _. none_open c.args.words.now (sym c.in_err-word.ensures), λ _. none)

pub returns-clause-none : goal.returns-clause-none
returns-clause-none c = (λ e. cc, λ full. absurd (some_open c.args.words.now c.in_ok-word.word c.in_ok-word.ensures full))

pub returns-clause-lowest : goal.returns-clause-lowest
returns-clause-lowest c = lowest_found
    c.args.words.now c.in_ok-word.word c.from.result c.requires.fit c.in_ok-word.ensures (c.from.ensures ∙ c.trailing_ones.ensures)
