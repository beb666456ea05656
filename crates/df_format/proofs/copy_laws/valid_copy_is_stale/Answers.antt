use Rattle.df_format.proofs.CopyClasses.{stale_copy, valid_is_stale}
use Rattle.df_format.proofs.copy_laws.valid_copy_is_stale.Goals as goal

pub returns-clause-valid : goal.returns-clause-valid
returns-clause-valid c = valid_is_stale

pub returns-clause-stale : goal.returns-clause-stale
returns-clause-stale c = stale_copy
