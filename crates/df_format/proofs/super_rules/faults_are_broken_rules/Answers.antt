use Rattle.df_format.proofs.SuperFaults.{faults}
use Rattle.df_format.proofs.super_rules.faults_are_broken_rules.Goals as goal

pub returns : goal.returns
returns c = faults
