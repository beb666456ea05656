-- The line of each ending is the text of that ending.
use Rattle.std.{proofs.Common.{◌≡◌, ℕ, List, Option, Result, sym, ap, ◌∙◌, subst}, specs.Prelude.{codes}}
use Rattle.{df_inspect.specs.Prints.{Prints}, df_script_model.specs.Texts.{line_of, numbered}, df_copy.specs.Texts.{ending_text}}
use Rattle.df_copy.proofs.telling.print_ending.Goals as goal

prints_as : {T E : Type 0} (text other : List ℕ) (old new : Option (List ℕ)) (r : Result T E)
    → text ≡ other → Prints text old new r → Prints other old new r
prints_as text other old new r same prints = subst (λ (t : List ℕ). Prints t old new r) same prints

pub returns-in-TooFewBlocks-clause-prints : goal.returns-in-TooFewBlocks-clause-prints
returns-in-TooFewBlocks-clause-prints g c = prints_as _ _ _
    _ _ (c.two_numbers_line-in-TooFewBlocks.ensures ∙ sym (ap ending_text c.in-TooFewBlocks.is)) c.write_line-in-TooFewBlocks.ensures.prints

pub returns-in-NotBlank-clause-prints : goal.returns-in-NotBlank-clause-prints
returns-in-NotBlank-clause-prints g c = prints_as _ _ _ _ _ (c.number_line.ensures ∙ ap (λ (n : ℕ). line_of (numbered
    (codes "refused NotBlank copy") n)) c.from.ensures ∙ sym (ap ending_text c.in-NotBlank.is)) c.write_line-in-NotBlank.ensures.prints

pub returns-in-ReplyTooLong-clause-prints : goal.returns-in-ReplyTooLong-clause-prints
returns-in-ReplyTooLong-clause-prints g c = prints_as _ _ _
    _ _ (c.two_numbers_line-in-ReplyTooLong.ensures ∙ sym (ap ending_text c.in-ReplyTooLong.is)) c.write_line-in-ReplyTooLong.ensures.prints

pub returns-in-BlockTooLong-clause-prints : goal.returns-in-BlockTooLong-clause-prints
returns-in-BlockTooLong-clause-prints g c = prints_as _ _ _
    _ _ (c.two_numbers_line-in-BlockTooLong.ensures ∙ sym (ap ending_text c.in-BlockTooLong.is)) c.write_line-in-BlockTooLong.ensures.prints
