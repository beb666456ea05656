use Rattle.df_units.proofs.Numbers.{checksums_numbers, first_lowest, no_number}
use Rattle.df_units.proofs.tells.checksums_are_numbers.Goals as goal

pub returns-clause-same : goal.returns-clause-same
returns-clause-same c = checksums_numbers

pub returns-clause-zeros : goal.returns-clause-zeros
returns-clause-zeros c = no_number

pub returns-clause-order : goal.returns-clause-order
returns-clause-order c = first_lowest
