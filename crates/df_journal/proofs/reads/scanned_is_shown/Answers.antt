-- As the lemmas say.
use Rattle.df_journal.proofs.Scans.{class_shown, rings_shown}
use Rattle.df_journal.proofs.reads.scanned_is_shown.Goals as goal

pub returns-clause-rings : goal.returns-clause-rings
returns-clause-rings c = rings_shown

pub returns-clause-class : goal.returns-clause-class
returns-clause-class c = class_shown
