use Rattle.{std.proofs.Common.{◌∙◌}, df_superblock.proofs.Verdicts.{shows_copies, shows_four, shows_later}}
use Rattle.df_superblock.proofs.copies.read_all.Goals as goal

pub returns-clause-shown : goal.returns-clause-shown
returns-clause-shown g c =
    shows_four _ _ _ _ _ c.in_ok-first.ensures.shown (shows_later _ _ 1 _ c.in_ok-first.ensures.same c.in_ok-second.ensures.shown)
    (shows_later _ _ 2 _ (c.in_ok-second.ensures.same ∙ c.in_ok-first.ensures.same) c.in_ok-third.ensures.shown)
    (shows_later _ _ 3 _
    (c.in_ok-third.ensures.same ∙ c.in_ok-second.ensures.same ∙ c.in_ok-first.ensures.same) c.in_ok-fourth.ensures.shown)

pub returns-clause-copies : goal.returns-clause-copies
returns-clause-copies g c = shows_copies _ _ (returns-clause-shown g c)
