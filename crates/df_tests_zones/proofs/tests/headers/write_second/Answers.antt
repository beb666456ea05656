-- Its second sector may be written.
use Rattle.{std.proofs.Common.{arith}, df_headers.proofs.Laws.{table_written}}
use Rattle.df_tests_zones.proofs.tests.headers.write_second.Goals as goal

pub write_sector-requires-clause-sealed : goal.write_sector-requires-clause-sealed
write_sector-requires-clause-sealed c =
    (table_written c.args.layout.now 7 1 c.args.table.now c.requires.table (omega (arith, c.requires.slots))).sixteen

pub write_sector-requires-clause-sector : goal.write_sector-requires-clause-sector
write_sector-requires-clause-sector c = omega (arith, c.requires.slots, c.requires.table.count)
