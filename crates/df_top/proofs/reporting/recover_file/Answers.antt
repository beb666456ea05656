-- The open answers of the file that the disk shows, and what it mends is kept.
use Rattle.{std.proofs.Common.{inr, refl}, df_inspect.specs.Reports.{summary_text}, df_session.specs.Replica.{summary_of}}
use Rattle.df_top.{specs.{Outside.{Outside}, declared.mode.Mode.TheVariants.{Recover}, declared.status.Status.TheVariants.{Done}}, proofs.{Causes.{calm_done, line_causes, never_printed, refused_causes, refused_never}, Reported.{recovers}, Served.{not_opened}}}
use Rattle.df_top.proofs.reporting.recover_file.Goals as goal

pub returns-in-Ok-clause-recovers : goal.returns-in-Ok-clause-recovers
returns-in-Ok-clause-recovers g c = λ left t told whole.
    let old : Outside = record { told = g.D.Disk.told c.args.disk.now; left = left; written = g.W.Sink.written c.args.sink.now } in
    let new : Outside = record { told = g.D.Disk.told c.open.new.disk; left = left; written = g.W.Sink.written c.summarise.new.sink } in (
      tt,
      inr (inr (recovers c.args.rooms.layout t old new c.summarise.result c.in-Ok.replica
          whole told refl c.in-Ok.ensures.live c.in-Ok.ensures.kept (c.in-Ok.ensures.opened t told) c.summarise.ensures.prints)),
    )

pub returns-clause-recovers : goal.returns-clause-recovers
returns-clause-recovers g c = λ left t told whole.
    let old : Outside = record { told = g.D.Disk.told c.args.disk.now; left = left; written = g.W.Sink.written c.args.sink.now } in
    let new : Outside = record { told = g.D.Disk.told c.open.new.disk; left = left; written = g.W.Sink.written c.refuse_file.new.sink } in
    (tt, not_opened Recover c.args.rooms.layout t old new c.refuse_file.result c.in-Err.error whole told c.in-Err.ensures.answer refl c.in-Err.ensures.refused (c.in-Err.ensures.stopped t told) c.refuse_file.ensures.prints)

pub returns-in-Ok-clause-causes : goal.returns-in-Ok-clause-causes
returns-in-Ok-clause-causes g c = λ source.
    line_causes (g.D.Disk.faults c.args.disk.now) (g.D.Disk.faults c.open.new.disk) source (g.W.Sink.faults c.args.sink.now)
    (g.W.Sink.faults c.summarise.new.sink) (g.W.Sink.written c.args.sink.now) (g.W.Sink.written c.summarise.new.sink) c.summarise.result
    (summary_text (summary_of c.in-Ok.replica)) Done calm_done c.in-Ok.ensures.cause c.summarise.ensures.prints c.summarise.ensures.sink

pub returns-clause-causes : goal.returns-clause-causes
returns-clause-causes g c = λ source. refused_causes c.refuse_file.ensures.prints source c.in-Err.ensures.cause c.refuse_file.ensures.sink

pub returns-in-Ok-clause-ends : goal.returns-in-Ok-clause-ends
returns-in-Ok-clause-ends g c = never_printed (summary_text (summary_of c.in-Ok.replica))
    Done (g.W.Sink.written c.args.sink.now) (g.W.Sink.written c.summarise.new.sink) c.summarise.result calm_done c.summarise.ensures.prints

pub returns-clause-ends : goal.returns-clause-ends
returns-clause-ends g c = refused_never c.refuse_file.ensures.prints
