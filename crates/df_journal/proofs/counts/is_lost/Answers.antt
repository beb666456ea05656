-- The counters tell.
use Rattle.df_journal.proofs.Counted.{lost_tells}
use Rattle.df_journal.proofs.counts.is_lost.Goals as goal

pub returns-clause-lost : goal.returns-clause-lost
returns-clause-lost c = λ image content counts is. (lost_tells
    image content c.args.own.now c.lost.result c.args.superblock_head c.args.head c.lost.ensures.found c.lost.ensures.none counts is).yes

pub returns-clause-none : goal.returns-clause-none
returns-clause-none c = λ image content counts is. (lost_tells
    image content c.args.own.now c.lost.result c.args.superblock_head c.args.head c.lost.ensures.found c.lost.ensures.none counts is).no

pub returns-clause-counters : goal.returns-clause-counters
returns-clause-counters c = c.lost.ensures.none
