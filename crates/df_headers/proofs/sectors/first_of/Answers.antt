-- The ring begins after the superblock's copies.
use Rattle.{std.proofs.Common.{arith}, df_headers.proofs.Offsets.{ring_first}}
use Rattle.df_headers.proofs.sectors.first_of.Goals as goal

pub returns-clause-first : goal.returns-clause-first
returns-clause-first c = λ layout. omega (arith, ring_first layout c.args.sector, c.from.ensures)
