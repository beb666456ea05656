-- It has one superblock, one view, one table and one list.
use Rattle.df_opening.proofs.OneMending.{one_mending}
use Rattle.df_opening.proofs.planned.an_image_is_mended_in_one_way.Goals as goal

pub returns : goal.returns
returns c = one_mending
