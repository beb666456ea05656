-- The bits of what was captured and written are those of what is referenced and chained.
use Rattle.df_grid.proofs.Zips.{entry_finished, marked_finished}
use Rattle.df_grid.proofs.entry.finished.Goals as goal

pub returns-clause-entry : goal.returns-clause-entry
returns-clause-entry c = λ checksum. entry_finished checksum c.args.mark

pub returns-clause-held : goal.returns-clause-held
returns-clause-held c = λ checksum. marked_finished checksum c.args.mark
