use Rattle.df_units.proofs.Writes.{headers_put, one_new}
use Rattle.df_units.proofs.puts.headers_are_put.Goals as goal

pub returns-clause-all : goal.returns-clause-all
returns-clause-all c = headers_put

pub returns-clause-one : goal.returns-clause-one
returns-clause-one c = one_new
