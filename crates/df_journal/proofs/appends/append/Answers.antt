-- The events are steps, and their moments and their end are those of the theory's append.
use Rattle.{std.proofs.Common.{◌/◌, ◌∷◌, [], ap, sym}, df_layout.specs.declared.layout.Layout.{Layout}}
use Rattle.{df_disk.proofs.Laws.{adds_part, adds_failed}, df_format.specs.declared.header.Header.{Header}}
use Rattle.df_headers.specs.Ring.{IsHeaderTable}
use Rattle.df_journal.{specs.Append.{journal_events}, proofs.{Moments.{append_steps, ends_of, moments_of, sector_of_ring}, RingWrites.{both_add, put_fails}}}
use Rattle.df_journal.proofs.appends.append.Goals as goal

pub settle-requires-clause-table : goal.settle-requires-clause-table
settle-requires-clause-table g c = let cluster = c.args.unit.now.unit.header.cluster in
    (cluster, rw (sym c.requires.room) at c.put.ensures.valid)

pub settle-requires-clause-sectors : goal.settle-requires-clause-sectors
settle-requires-clause-sectors g c = sector_of_ring c.args.layout.now
    c.args.room.now.layout c.args.unit.now.unit c.header.result.now c.requires.room c.header.ensures.header c.put.ensures.own

pub returns-in_err-put-clause-events : goal.returns-in_err-put-clause-events
returns-in_err-put-clause-events g c =
    adds_failed (journal_events c.args.layout.now c.args.unit.now c.args.table.now) (g.D.Disk.told c.args.disk.now) (g.D.Disk.told c.put.new.disk) c.from_residual.result c.from_residual.ensures.0 (put_fails c.args.layout.now c.args.unit.now c.args.table.now (g.D.Disk.told c.args.disk.now) (g.D.Disk.told c.put.new.disk) c.in_err-put.ensures.events)

pub returns-in_err-put-clause-steps : goal.returns-in_err-put-clause-steps
returns-in_err-put-clause-steps g c =
    append_steps c.args.layout.now c.args.unit.now.unit c.args.table.now c.put.ensures.own c.requires.table _ c.put.ensures.brings

pub returns-in_err-put-clause-moments : goal.returns-in_err-put-clause-moments
returns-in_err-put-clause-moments g c =
    moments_of c.args.layout.now c.args.unit.now c.args.table.now c.put.ensures.own c.requires.table c.put.ensures.brings _ _ (put_fails c.args.layout.now c.args.unit.now c.args.table.now (g.D.Disk.told c.args.disk.now) (g.D.Disk.told c.put.new.disk) c.in_err-put.ensures.events)

pub returns-clause-events : goal.returns-clause-events
returns-clause-events g c =
    both_add c.args.layout.now c.args.room.now.layout c.args.unit.now c.args.table.now c.put.new.table _ _ (g.D.Disk.told c.put.new.disk) _ c.settle.result c.requires.room c.in_ok-put.ensures.table (ap (λ (h : Header). h.slot / 16 ∷ []) c.header.ensures.header) c.in_ok-put.ensures.events c.settle.ensures.events

pub returns-clause-steps : goal.returns-clause-steps
returns-clause-steps g c =
    append_steps c.args.layout.now c.args.unit.now.unit c.args.table.now c.put.ensures.own c.requires.table _ c.put.ensures.brings

pub returns-clause-moments : goal.returns-clause-moments
returns-clause-moments g c =
    let both = both_add c.args.layout.now c.args.room.now.layout c.args.unit.now c.args.table.now c.put.new.table _ (g.D.Disk.told c.args.disk.now) (g.D.Disk.told c.put.new.disk) (g.D.Disk.told c.settle.new.disk) c.settle.result c.requires.room c.in_ok-put.ensures.table (ap (λ (h : Header). h.slot / 16 ∷ []) c.header.ensures.header) c.in_ok-put.ensures.events c.settle.ensures.events in
    moments_of c.args.layout.now c.args.unit.now c.args.table.now c.put.ensures.own c.requires.table c.put.ensures.brings (g.D.Disk.told c.args.disk.now) (g.D.Disk.told c.settle.new.disk) (adds_part (journal_events c.args.layout.now c.args.unit.now c.args.table.now) (g.D.Disk.told c.args.disk.now) (g.D.Disk.told c.settle.new.disk) c.settle.result both)

pub returns-clause-appended : goal.returns-clause-appended
returns-clause-appended g c = let layout = c.args.layout.now in let held = c.args.unit.now in let table = c.args.table.now in
    let old = g.D.Disk.told c.args.disk.now in let new = g.D.Disk.told c.settle.new.disk in
    let both = both_add layout c.args.room.now.layout held table c.put.new.table _ old (g.D.Disk.told c.put.new.disk) new c.settle.result c.requires.room c.in_ok-put.ensures.table (ap (λ (h : Header). h.slot / 16 ∷ []) c.header.ensures.header) c.in_ok-put.ensures.events c.settle.ensures.events in
    ends_of layout held
    table c.put.ensures.own c.requires.table c.put.ensures.brings old new c.put.new.table c.settle.result both c.in_ok-put.ensures.table
