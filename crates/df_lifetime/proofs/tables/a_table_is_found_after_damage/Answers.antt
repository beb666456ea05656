-- The laws are two lemmas.
use Rattle.df_lifetime.proofs.TablesSince.{served_table_begins, served_table_was_had}
use Rattle.df_lifetime.proofs.tables.a_table_is_found_after_damage.Goals as goal

pub returns : goal.returns
returns c = record { had = served_table_was_had; begins = served_table_begins }
