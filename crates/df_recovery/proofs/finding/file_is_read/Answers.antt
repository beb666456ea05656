-- The law is proved.
use Rattle.df_recovery.proofs.FilesRead
use Rattle.df_recovery.proofs.finding.file_is_read.Goals as goal

pub returns : goal.returns
returns c = FilesRead.file_is_read
