-- The law is proved.
use Rattle.df_top.proofs.BlankFormatted.{blank_is_formatted}
use Rattle.df_top.proofs.completeness.a_blank_disk_is_formatted.Goals as goal

pub returns : goal.returns
returns c = blank_is_formatted
