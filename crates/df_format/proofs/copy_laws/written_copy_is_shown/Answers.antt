use Rattle.df_format.proofs.CopyShown.{written_copy, one_sector, other_sectors, other_copies}
use Rattle.df_format.proofs.copy_laws.written_copy_is_shown.Goals as goal

pub returns-clause-shown : goal.returns-clause-shown
returns-clause-shown c = written_copy

pub returns-clause-fits : goal.returns-clause-fits
returns-clause-fits c = one_sector

pub returns-clause-sectors : goal.returns-clause-sectors
returns-clause-sectors c = other_sectors

pub returns-clause-others : goal.returns-clause-others
returns-clause-others c = other_copies
