-- A mended file is opened as it was left.
use Rattle.df_mirror.proofs.{OpenedFiles.{mirrored_is_opened}, OpenedRuns.{mended_is_opened}, OpenedViews.{found_has_none, left_is_none}}
use Rattle.df_mirror.proofs.laws.a_mended_file_is_opened.Goals as goal

pub returns-clause-mends : goal.returns-clause-mends
returns-clause-mends c = mirrored_is_opened

pub returns-clause-run : goal.returns-clause-run
returns-clause-run c = mended_is_opened

pub returns-clause-necessary : goal.returns-clause-necessary
returns-clause-necessary c = found_has_none

pub returns-clause-left : goal.returns-clause-left
returns-clause-left c = left_is_none
