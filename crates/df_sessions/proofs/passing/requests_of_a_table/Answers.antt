-- The law is one lemma, at any sessions and at none.
use Rattle.{std.proofs.Common.{[]}, df_sessions.proofs.Noted.{table_is_list}}
use Rattle.df_sessions.proofs.passing.requests_of_a_table.Goals as goal

pub returns-clause-whole : goal.returns-clause-whole
returns-clause-whole c changes = table_is_list changes []

pub returns-clause-later : goal.returns-clause-later
returns-clause-later c = table_is_list
