use Rattle.{std.proofs.Common.{◌≡◌, ℕ, ◌+◌, Option, option_copied, sym, subst, arith}, df_format.specs.Copies.{Content, content_in_copy}}
use Rattle.df_quorum.{specs.{Quorum.{copies_of}, Best.{Best}}, proofs.Candidates.{best_next, best_is_chosen}}
use Rattle.df_quorum.proofs.best.best_of.Goals as goal

pub loop-number-preserved : goal.loop-number-preserved
loop-number-preserved c =
    subst (λ (o : Option Content). Best (copies_of c.args.copies.now) (c.loop-number.number + 1) o) (sym c.better-best.ensures)
    (best_next (copies_of c.args.copies.now) c.loop-number.number (content_in_copy (option_copied c.loop-number.best))
    (content_in_copy (option_copied c.candidate.result)) c.loop-number.invariant c.candidate.ensures)

pub returns : goal.returns
returns c = let four : c.loop-number.number ≡ 4 = omega arith in
    best_is_chosen (copies_of c.args.copies.now) (content_in_copy (option_copied c.loop-number.best))
    (subst (λ (n : ℕ). Best (copies_of c.args.copies.now) n (content_in_copy (option_copied c.loop-number.best))) four c.loop-number.invariant)
