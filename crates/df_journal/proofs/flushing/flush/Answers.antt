-- The events are steps, and their moments and their end are those of the theory's flush.
use Rattle.{std.proofs.Common.{sym}, df_disk.proofs.Laws.{adds_part, adds_failed}, df_layout.specs.declared.layout.Layout.{Layout}}
use Rattle.df_headers.specs.Ring.{IsHeaderTable}
use Rattle.df_journal.{specs.Flush.{flush_events, sectors_between}, proofs.{GroupMoments.{between_of_ring, flush_are_steps, group_ends, group_moments}, GroupWrites.{flush_adds, puts_fail}}}
use Rattle.df_journal.proofs.flushing.flush.Goals as goal

pub returns-in_err-put_all-clause-events : goal.returns-in_err-put_all-clause-events
returns-in_err-put_all-clause-events g c = adds_failed _ _ _ _ c.from_residual.ensures.0 (puts_fail c.args.layout.now
    c.args.group.now c.args.table.now (g.D.Disk.told c.args.disk.now) (g.D.Disk.told c.put_all.new.disk) c.in_err-put_all.ensures.events)

pub returns-in_err-put_all-clause-steps : goal.returns-in_err-put_all-clause-steps
returns-in_err-put_all-clause-steps g c =
    λ cluster may. flush_are_steps c.args.layout.now cluster c.args.group.now c.args.table.now c.requires.some may c.are_own.ensures

pub returns-in_err-put_all-clause-moments : goal.returns-in_err-put_all-clause-moments
returns-in_err-put_all-clause-moments g c = λ cluster before after put first last may.
    group_moments c.args.layout.now cluster c.args.group.now
    c.args.table.now put c.are_own.ensures c.requires.some (g.D.Disk.told c.args.disk.now) (g.D.Disk.told c.put_all.new.disk)
    (puts_fail c.args.layout.now c.args.group.now c.args.table.now
    (g.D.Disk.told c.args.disk.now) (g.D.Disk.told c.put_all.new.disk) c.in_err-put_all.ensures.events) before after first last may

pub settle_between-requires-clause-table : goal.settle_between-requires-clause-table
settle_between-requires-clause-table g c = let cluster = c.requires.may.0 in
    (cluster, rw (sym c.requires.room) at (c.put_all.ensures.valid cluster c.requires.may.1))

pub settle_between-requires-clause-sectors : goal.settle_between-requires-clause-sectors
settle_between-requires-clause-sectors g c =
    between_of_ring c.args.layout.now c.args.room.now.layout c.requires.may.0 c.args.group.now c.args.table.now c.ends-first.result.0 c.ends-first.result.1 c.requires.may.1 c.are_own.ensures c.requires.some c.requires.room c.ends-first.ensures.first c.ends-first.ensures.last

pub returns-clause-events : goal.returns-clause-events
returns-clause-events g c =
    flush_adds c.args.layout.now c.args.room.now.layout c.args.group.now c.args.table.now c.put_all.new.table (sectors_between c.ends-first.result.0 c.ends-first.result.1) (g.D.Disk.told c.args.disk.now) (g.D.Disk.told c.put_all.new.disk) (g.D.Disk.told c.settle_between.new.disk) c.settle_between.result
    c.requires.room c.in_ok-put_all.ensures.table (λ i. sectors_between (c.ends-first.ensures.first i) (c.ends-first.ensures.last i))
    c.in_ok-put_all.ensures.events c.settle_between.ensures.events

pub returns-clause-steps : goal.returns-clause-steps
returns-clause-steps g c =
    λ cluster may. flush_are_steps c.args.layout.now cluster c.args.group.now c.args.table.now c.requires.some may c.are_own.ensures

pub returns-clause-moments : goal.returns-clause-moments
returns-clause-moments g c = λ cluster before after put first last may. group_moments c.args.layout.now cluster c.args.group.now
    c.args.table.now put c.are_own.ensures c.requires.some (g.D.Disk.told c.args.disk.now) (g.D.Disk.told c.settle_between.new.disk)
    (adds_part (flush_events c.args.layout.now c.args.group.now c.args.table.now) (g.D.Disk.told c.args.disk.now)
    (g.D.Disk.told c.settle_between.new.disk) c.settle_between.result (returns-clause-events g c)) before after first last may

pub returns-clause-flushed : goal.returns-clause-flushed
returns-clause-flushed g c = λ cluster before after put first last may. group_ends c.args.layout.now cluster c.args.group.now
    c.args.table.now put c.are_own.ensures c.requires.some (g.D.Disk.told c.args.disk.now) (g.D.Disk.told c.settle_between.new.disk)
    c.put_all.new.table c.settle_between.result (returns-clause-events g c) c.in_ok-put_all.ensures.table before after first last may
