use Rattle.df_pace.proofs.Computed.{groups_count, own_checkpoint, refused_begin}
use Rattle.df_pace.proofs.worked.a_begin_stays_due.Goals as goal

pub returns-clause-refused : goal.returns-clause-refused
returns-clause-refused c = refused_begin

pub returns-clause-own : goal.returns-clause-own
returns-clause-own c = own_checkpoint

pub returns-clause-groups : goal.returns-clause-groups
returns-clause-groups c = groups_count
