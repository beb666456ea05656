-- The upgrade answers of the file that the disk shows.
use Rattle.{std.proofs.Common.{inr, refl}, df_inspect.specs.Opening.{upgraded_text}}
use Rattle.df_top.{specs.{Outside.{Outside}, declared.status.Status.TheVariants.{Done}}, proofs.{Causes.{calm_done, line_causes, never_printed, refused_causes, refused_never}, Upgrades.{not_upgraded}}}
use Rattle.df_top.proofs.upgrading.upgrade_there.Goals as goal

pub returns-in-Ok-clause-upgrades : goal.returns-in-Ok-clause-upgrades
returns-in-Ok-clause-upgrades g c = λ left t told whole. inr (inr (record { sequence = c.in-Ok.upgraded.sequence; upgraded = c.in-Ok.ensures.leaves.upgraded t told; prints = c.tell_upgraded.ensures.line; unread = refl }))

pub returns-clause-upgrades : goal.returns-clause-upgrades
returns-clause-upgrades g c = λ left t told whole.
    let old : Outside = record { told = g.D.Disk.told c.args.disk.now; left = left; written = g.W.Sink.written c.args.sink.now } in
    let new : Outside =
    record { told = g.D.Disk.told c.upgrade_file.new.disk; left = left; written = g.W.Sink.written c.refuse_file.new.sink } in
    not_upgraded c.args.rooms.layout t old new c.refuse_file.result c.in-Err.error whole told c.in-Err.ensures.answers.answer
    refl c.in-Err.ensures.leaves.refused (c.in-Err.ensures.leaves.stopped t told) c.refuse_file.ensures.prints

pub returns-in-Ok-clause-causes : goal.returns-in-Ok-clause-causes
returns-in-Ok-clause-causes g c = λ source.
    line_causes (g.D.Disk.faults c.args.disk.now) (g.D.Disk.faults c.upgrade_file.new.disk) source (g.W.Sink.faults c.args.sink.now)
    (g.W.Sink.faults c.tell_upgraded.new.sink) (g.W.Sink.written c.args.sink.now) (g.W.Sink.written c.tell_upgraded.new.sink)
    c.tell_upgraded.result
    (upgraded_text c.in-Ok.upgraded.sequence) Done calm_done c.in-Ok.ensures.cause c.tell_upgraded.ensures.line c.tell_upgraded.ensures.sink

pub returns-clause-causes : goal.returns-clause-causes
returns-clause-causes g c = λ source. refused_causes c.refuse_file.ensures.prints source c.in-Err.ensures.cause c.refuse_file.ensures.sink

pub returns-in-Ok-clause-ends : goal.returns-in-Ok-clause-ends
returns-in-Ok-clause-ends g c = never_printed (upgraded_text c.in-Ok.upgraded.sequence) Done (g.W.Sink.written c.args.sink.now)
    (g.W.Sink.written c.tell_upgraded.new.sink) c.tell_upgraded.result calm_done c.tell_upgraded.ensures.line

pub returns-clause-ends : goal.returns-clause-ends
returns-clause-ends g c = refused_never c.refuse_file.ensures.prints
