-- The laws are lemmas.
use Rattle.df_lifetime.proofs.TableLives.{copies_leave_it, every_table_goes_on, leaving_runs_keep_it, next_run_serves_it, quiet_runs_leave_it, table_runs_keep_it, words_leave_it}
use Rattle.df_lifetime.proofs.tables.a_table_lives_in_any_life.Goals as goal

pub returns : goal.returns
returns c = record {
  goes_on = every_table_goes_on;
  serves = next_run_serves_it;
  tables = table_runs_keep_it;
  leaving = leaving_runs_keep_it;
  quiet = quiet_runs_leave_it;
  words = words_leave_it;
  copies = copies_leave_it;
}
