use Rattle.df_replica.proofs.{LentCalls.{call_is_own, call_is_the_one, struck_reads_are_own}, LentKept.{kept_is_written, opened_is_written_for}}
use Rattle.df_replica.proofs.lending.what_is_lent_was_written.Goals as goal

pub returns-clause-call : goal.returns-clause-call
returns-clause-call c = call_is_the_one

pub returns-clause-own : goal.returns-clause-own
returns-clause-own c = call_is_own

pub returns-clause-kept : goal.returns-clause-kept
returns-clause-kept c = kept_is_written

pub returns-clause-opened : goal.returns-clause-opened
returns-clause-opened c = opened_is_written_for

pub returns-clause-struck : goal.returns-clause-struck
returns-clause-struck c = struck_reads_are_own
