-- What the proofs above cite of this crate's: a line says one thing, a text has one list of lines and one script, and an empty
-- line says nothing.
pub use Rattle.df_lines.proofs.{OneMeaning.{one_said, one_text, one_script, whole_script, no_line, begins_one}, Meanings.{nothing_said}}
pub use Rattle.df_lines.proofs.Decimals.{one_number}
-- And of lines of another grammar: the name that a line begins with, and what the words after it say.
pub use Rattle.df_lines.proofs.{Naming.{Begun, cut_name, one_name}, WordsBehind.{same_rest}, OneMeaning.{one_word, two_words}}
pub use Rattle.df_lines.proofs.Pieces.{unread_none}
