use Rattle.df_lines.proofs.OneMeaning.{one_said, one_text, one_script, whole_script}
use Rattle.df_lines.proofs.meaning.one_meaning.Goals as goal

pub returns : goal.returns
returns c = record { line = one_said; text = one_text; script = one_script; whole = whole_script }
