use Rattle.{std.proofs.Common.{◌++◌}, df_trailer.proofs.Stays.{refusal_is_fault, refusal_stays}}
use Rattle.df_trailer.proofs.meaning.refusals_stay.Goals as goal

pub returns : goal.returns
returns c = λ l op text more f is. let stays = refusal_stays l op text more f is in (stays, refusal_is_fault l op (text ++ more) f stays)
