-- One sector, or two, of those that may be written.
use Rattle.{std.proofs.Common.{arith}, df_journal.proofs.GroupTables.{both_of_ring, one_of_ring}}
use Rattle.df_journal.proofs.flushing.settle_between.Goals as goal

pub settle-requires-clause-sectors : goal.settle-requires-clause-sectors
settle-requires-clause-sectors g c = one_of_ring c.args.room.now.layout c.args.first c.args.last c.requires.sectors

pub settle-requires-else-first-last-clause-sectors : goal.settle-requires-else-first-last-clause-sectors
settle-requires-else-first-last-clause-sectors g c =
    both_of_ring c.args.room.now.layout c.args.first c.args.last (λ same. omega (arith, c.if-first-last.false, same)) c.requires.sectors
