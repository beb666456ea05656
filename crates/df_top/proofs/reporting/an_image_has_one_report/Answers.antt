-- The law is one lemma.
use Rattle.df_top.proofs.OneReport.{one_report}
use Rattle.df_top.proofs.reporting.an_image_has_one_report.Goals as goal

pub returns : goal.returns
returns c = one_report
