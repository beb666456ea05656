use Rattle.df_trailer.proofs.Read.{text_read}
use Rattle.df_trailer.proofs.meaning.text_has_one_parts.Goals as goal

pub returns : goal.returns
returns c = λ l op text parts most are is. let r = text_read l op text parts most are is in (r.lawful, r.spells)
