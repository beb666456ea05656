-- The survey answers of the file that the disk shows, and adds no event but a sync.
use Rattle.std.proofs.Common.{inr, refl}
use Rattle.df_top.{specs.{Outside.{Outside}, Reporting.{report_of, status_of}}, proofs.{Causes.{calm_report, line_causes, never_printed, refused_causes, refused_never}, Reported.{inspects, not_surveyed, syncs_part}}}
use Rattle.df_top.proofs.reporting.inspect_file.Goals as goal

pub returns-in-Ok-clause-inspects : goal.returns-in-Ok-clause-inspects
returns-in-Ok-clause-inspects g c = λ left t told whole.
    let old : Outside = record { told = g.D.Disk.told c.args.disk.now; left = left; written = g.W.Sink.written c.args.sink.now } in
    let new : Outside = record { told = g.D.Disk.told c.survey.new.disk; left = left; written = g.W.Sink.written c.report.new.sink } in
    (tt, inr (inr (inspects c.args.rooms.layout t old new c.report.result whole told refl c.in-Ok.surveyed c.in-Ok.ensures.answer c.in-Ok.ensures.mends c.in-Ok.ensures.barrier c.report.ensures.prints)))

pub returns-clause-inspects : goal.returns-clause-inspects
returns-clause-inspects g c = λ left t told whole.
    let old : Outside = record { told = g.D.Disk.told c.args.disk.now; left = left; written = g.W.Sink.written c.args.sink.now } in
    let new : Outside = record { told = g.D.Disk.told c.survey.new.disk; left = left; written = g.W.Sink.written c.refuse_file.new.sink } in
    (tt, not_surveyed c.args.rooms.layout t old new c.refuse_file.result whole told refl c.in-Err.error c.in-Err.ensures.answer c.in-Err.ensures.barrier c.refuse_file.ensures.prints)

pub returns-in-Ok-clause-syncs : goal.returns-in-Ok-clause-syncs
returns-in-Ok-clause-syncs g c = inr c.in-Ok.ensures.barrier

pub returns-clause-syncs : goal.returns-clause-syncs
returns-clause-syncs g c = syncs_part (g.D.Disk.told c.args.disk.now) (g.D.Disk.told c.survey.new.disk) c.in-Err.error c.in-Err.ensures.barrier

pub returns-in-Ok-clause-causes : goal.returns-in-Ok-clause-causes
returns-in-Ok-clause-causes g c = λ source.
    line_causes (g.D.Disk.faults c.args.disk.now) (g.D.Disk.faults c.survey.new.disk) source (g.W.Sink.faults c.args.sink.now)
    (g.W.Sink.faults c.report.new.sink) (g.W.Sink.written c.args.sink.now) (g.W.Sink.written c.report.new.sink)
    c.report.result (report_of c.in-Ok.surveyed) (status_of c.in-Ok.surveyed.mends)
    (calm_report c.in-Ok.surveyed.mends) c.in-Ok.ensures.cause c.report.ensures.prints c.report.ensures.sink

pub returns-clause-causes : goal.returns-clause-causes
returns-clause-causes g c = λ source. refused_causes c.refuse_file.ensures.prints source c.in-Err.ensures.cause c.refuse_file.ensures.sink

pub returns-in-Ok-clause-ends : goal.returns-in-Ok-clause-ends
returns-in-Ok-clause-ends g c = never_printed (report_of c.in-Ok.surveyed) (status_of c.in-Ok.surveyed.mends) (g.W.Sink.written
    c.args.sink.now) (g.W.Sink.written c.report.new.sink) c.report.result (calm_report c.in-Ok.surveyed.mends) c.report.ensures.prints

pub returns-clause-ends : goal.returns-clause-ends
returns-clause-ends g c = refused_never c.refuse_file.ensures.prints
