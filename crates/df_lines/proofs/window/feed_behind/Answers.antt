use Rattle.{std.proofs.Common.{sym}, df_lines.proofs.Finding.{behind_none, behind_some}}
use Rattle.df_lines.proofs.window.feed_behind.Goals as goal

pub returns-in_err-at-clause-none : goal.returns-in_err-at-clause-none
returns-in_err-at-clause-none c = rw c.from_residual.ensures (behind_none _ _ c.requires.within c.requires.none (sym c.in_err-at.ensures))

pub returns-clause-found : goal.returns-clause-found
returns-clause-found c = behind_some _ _ _ c.requires.within c.requires.none (sym c.in_ok-at.ensures)
