-- The step is told, or the disk failed in it.
use Rattle.{std.proofs.Common.{inl, inr, refl}, df_top.proofs.{Taken.{adds_nothing, disk_ends, is_scrub}, Tours.{disk_still}}}
use Rattle.df_top.proofs.scrubbing.check_next.Goals as goal

pub returns-in-Ok-Scrub-clause-steps : goal.returns-in-Ok-Scrub-clause-steps
returns-in-Ok-Scrub-clause-steps g c = inl (c.in-Ok-Scrub.scrubbed, is_scrub c.args.replica.now c.make.new.replica (g.D.Disk.told c.args.disk.now) (g.D.Disk.told c.make.new.disk) c.in-Ok-Scrub.field-0 c.in-Ok-Scrub.scrubbed c.in-Ok-Scrub.field-0-is c.in-Ok-Scrub.ensures.makes, c.tell.ensures.tells)

pub returns-in-Ok-Scrub-clause-same : goal.returns-in-Ok-Scrub-clause-same
returns-in-Ok-Scrub-clause-same g c = c.in-Ok-Scrub.ensures.makes.exact.3

pub returns-in-Ok-Scrub-clause-disk : goal.returns-in-Ok-Scrub-clause-disk
returns-in-Ok-Scrub-clause-disk g c =
    disk_still c.in-Ok-Scrub.scrubbed (g.W.Sink.written c.args.sink.now) (g.W.Sink.written c.tell.new.sink)
    (g.D.Disk.faults c.args.disk.now) (g.D.Disk.faults c.make.new.disk) c.tell.result c.tell.ensures.tells c.in-Ok-Scrub.ensures.disk

pub returns-in-Err-clause-steps : goal.returns-in-Err-clause-steps
returns-in-Err-clause-steps g c = inr (refl, refl, c.in-Err.ensures.tour)

pub returns-in-Err-clause-same : goal.returns-in-Err-clause-same
returns-in-Err-clause-same g c = adds_nothing
    c.args.replica.now c.make.new.replica (g.D.Disk.told c.args.disk.now) (g.D.Disk.told c.make.new.disk) c.in-Err.ensures.makes.0

pub returns-in-Err-clause-disk : goal.returns-in-Err-clause-disk
returns-in-Err-clause-disk g c = disk_ends (g.D.Disk.told c.make.new.disk)
    (g.D.Disk.faults c.args.disk.now) (g.D.Disk.faults c.make.new.disk) c.in-Err.field-0 c.in-Err.ensures.makes.1 c.in-Err.ensures.disk
