use Rattle.{std.specs.Prelude.{option_copied}, df_format.specs.Copies.{content_in_copy}, df_quorum.specs.{Quorum.{copies_of}, Best.{Best}}}
use Rattle.df_quorum.proofs.best.best_of.Given as goal

abbrev pub invariant-loop-number : goal.invariant-loop-number
invariant-loop-number l = Best (copies_of l.copies) l.number (content_in_copy (option_copied l.best))
