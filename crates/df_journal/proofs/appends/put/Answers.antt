-- The header of what was put is valid in its slot of the table.
use Rattle.{std.proofs.Common.{ap, arith}, df_format.specs.declared.header.Header.{Header}}
use Rattle.df_journal.proofs.Moments.{header_set, slot_below}
use Rattle.df_journal.proofs.appends.put.Goals as goal

pub set-requires : goal.set-requires
set-requires g c = omega (arith, ap (λ (h : Header). h.slot) c.header-header.ensures.header, slot_below c.args.layout.now c.args.unit.now.unit c.put_prepare.ensures.own, c.requires.table.count)

pub returns-clause-valid : goal.returns-clause-valid
returns-clause-valid g c = header_set c.args.layout.now c.args.unit.now.unit c.args.table.now
    c.header-header.result.now c.set.new.self c.header-header.ensures.header c.set.ensures c.put_prepare.ensures.own c.requires.table
