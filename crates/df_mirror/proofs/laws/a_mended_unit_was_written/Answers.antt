-- A mended unit is the one that was written there.
use Rattle.df_mirror.proofs.WasThere.{mended_was_written}
use Rattle.df_mirror.proofs.laws.a_mended_unit_was_written.Goals as goal

pub returns : goal.returns
returns c = mended_was_written
