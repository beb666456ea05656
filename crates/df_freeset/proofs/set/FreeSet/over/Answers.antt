-- Zeros have no bit set.
use Rattle.{std.proofs.{Common.{inl, inr, length}, lemmas.{Bool.{cases_lt}, List.{get_or_past}}}, df_freeset.proofs.Words.{taken_zeros}}
use Rattle.df_freeset.proofs.set.FreeSet.over.Goals as goal

pub returns : goal.returns
returns c = taken_zeros c.args.words.items c.args.blocks (λ i. elim (cases_lt
    i (length c.args.words.items)) [ inl within ↦ c.requires.zero i 0 within | inr past ↦ get_or_past c.args.words.items i 0 past ])
