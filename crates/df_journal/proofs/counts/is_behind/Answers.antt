-- The counters tell.
use Rattle.df_journal.proofs.Counted.{behind_tells}
use Rattle.df_journal.proofs.counts.is_behind.Goals as goal

pub returns-clause-behind : goal.returns-clause-behind
returns-clause-behind c = λ sh image content counts boot sequence op slots. (behind_tells sh image content c.args.seen.now c.behind.result
    c.args.boot c.args.sequence c.args.op c.args.slots c.behind.ensures.found c.behind.ensures.none counts boot sequence op slots).yes

pub returns-clause-none : goal.returns-clause-none
returns-clause-none c = λ sh image content counts boot sequence op slots. (behind_tells sh image content c.args.seen.now c.behind.result
    c.args.boot c.args.sequence c.args.op c.args.slots c.behind.ensures.found c.behind.ensures.none counts boot sequence op slots).no
