use Rattle.df_damage.proofs.Written.{had_is_written, opened_is_written}
use Rattle.df_damage.proofs.needed.needed_units_were_written.Goals as goal

pub returns-clause-had : goal.returns-clause-had
returns-clause-had c = had_is_written

pub returns-clause-opened : goal.returns-clause-opened
returns-clause-opened c = opened_is_written
