use Rattle.df_theory.proofs.Bridge.{shown_law, settled_law}
use Rattle.df_theory.proofs.device.disk_shows_its_units.Goals as goal

pub returns-clause-shown : goal.returns-clause-shown
returns-clause-shown c = shown_law

pub returns-clause-settled : goal.returns-clause-settled
returns-clause-settled c = settled_law
