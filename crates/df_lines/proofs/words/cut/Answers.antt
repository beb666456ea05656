use Rattle.{std.proofs.Common.{sym}, df_lines.{specs.Words.{is_space}, proofs.Cutting.{position_none, cut_is}}}
use Rattle.df_lines.proofs.words.cut.Goals as goal

pub returns-in_err-at-clause-none : goal.returns-in_err-at-clause-none
returns-in_err-at-clause-none c = rw c.from_residual.ensures (position_none is_space _ (sym c.in_err-at.ensures))

pub returns-clause-found : goal.returns-clause-found
returns-clause-found c = cut_is _ _ (sym c.in_ok-at.ensures)
