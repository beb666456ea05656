use Rattle.std.proofs.{Common.{rules}, lemmas.Slice.{overwrites}}
use Rattle.df_format.proofs.codec.put_bytes.Goals as goal

pub returns-clause-rest : goal.returns-clause-rest
returns-clause-rest c = search (rules, overwrites)
