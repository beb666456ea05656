use Rattle.df_theory.proofs.TidyGroups.{flush_ring_law, tidy_flush_law}
use Rattle.df_theory.proofs.groups.flush_leads_tidily.Goals as goal

pub returns-clause-tidy : goal.returns-clause-tidy
returns-clause-tidy c = tidy_flush_law

pub returns-clause-ring : goal.returns-clause-ring
returns-clause-ring c = flush_ring_law
