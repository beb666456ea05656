use Rattle.df_format.proofs.Wholes.{valid_stale, stale_valid, elsewhere_other}
use Rattle.df_format.proofs.unit_laws.classes_tell.Goals as goal

pub returns-clause-valid : goal.returns-clause-valid
returns-clause-valid c = valid_stale

pub returns-clause-stale : goal.returns-clause-stale
returns-clause-stale c = stale_valid

pub returns-clause-elsewhere : goal.returns-clause-elsewhere
returns-clause-elsewhere c = elsewhere_other
