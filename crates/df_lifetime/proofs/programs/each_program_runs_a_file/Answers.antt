-- The laws are proved.
use Rattle.df_lifetime.proofs.{Makings.{call_is_making, word_is_making}, MirrorRuns.{made_shows_records, mirror_is_run}, NoteRuns.{notes_begin, notes_is_run}, OpenedRecords.{opened_shows_records}, OtherRuns.{source_is_run, table_is_run}, WordRuns.{word_is_run}}
use Rattle.df_lifetime.proofs.programs.each_program_runs_a_file.Goals as goal

pub returns-clause-words : goal.returns-clause-words
returns-clause-words c = word_is_run

pub returns-clause-tables : goal.returns-clause-tables
returns-clause-tables c = table_is_run

pub returns-clause-sources : goal.returns-clause-sources
returns-clause-sources c = source_is_run

pub returns-clause-formats : goal.returns-clause-formats
returns-clause-formats c = word_is_making

pub returns-clause-makings : goal.returns-clause-makings
returns-clause-makings c = call_is_making

pub returns-clause-notes : goal.returns-clause-notes
returns-clause-notes c = notes_is_run

pub returns-clause-notes_begin : goal.returns-clause-notes_begin
returns-clause-notes_begin c = notes_begin

pub returns-clause-mirrors : goal.returns-clause-mirrors
returns-clause-mirrors c = mirror_is_run

pub returns-clause-made : goal.returns-clause-made
returns-clause-made c = made_shows_records

pub returns-clause-opened : goal.returns-clause-opened
returns-clause-opened c = opened_shows_records
