-- The open answers of the file that the disk shows, and the tour leaves what it keeps.
use Rattle.{std.proofs.Common.{inr, refl, sym}, df_program.proofs.Laws.{no_blame}}
use Rattle.df_top.{specs.{Outside.{Outside}, declared.mode.Mode.TheVariants.{Scrub}, declared.status.Status.TheVariants.{Memory, ReadFault, Words}}, proofs.{Causes.{refused_causes, refused_never}, Reported.{scrubs}, Served.{not_opened}, Tours.{never_so}}}
use Rattle.df_top.proofs.scrubbing.scrub_file.Goals as goal

pub returns-in-Ok-clause-scrubs : goal.returns-in-Ok-clause-scrubs
returns-in-Ok-clause-scrubs g c = λ left t told whole. let layout = c.args.rooms.layout in let status = c.tour.result in
    let old : Outside = record { told = g.D.Disk.told c.args.disk.now; left = left; written = g.W.Sink.written c.args.sink.now } in
    let opened : Outside = record { told = g.D.Disk.told c.open.new.disk; left = left; written = g.W.Sink.written c.tour.new.sink } in (
      tt,
      inr (inr (rw (sym c.tour.ensures.same) at (scrubs layout t old opened status
          c.in-Ok.replica whole told refl c.in-Ok.ensures.live c.in-Ok.ensures.kept (c.in-Ok.ensures.opened t told) c.tour.ensures.tours))),
    )

pub returns-in-Ok-clause-causes : goal.returns-in-Ok-clause-causes
returns-in-Ok-clause-causes g c = λ source. record {
  disk = rw c.in-Ok.ensures.cause at c.tour.ensures.disk;
  source = no_blame ReadFault source source c.tour.result refl (never_so c.tour.result ReadFault c.tour.ensures.ends (λ no. no));
  sink = c.tour.ensures.sink;
}

pub returns-clause-causes : goal.returns-clause-causes
returns-clause-causes g c = λ source. refused_causes c.refuse_file.ensures.prints source c.in-Err.ensures.cause c.refuse_file.ensures.sink

pub returns-in-Ok-clause-ends : goal.returns-in-Ok-clause-ends
returns-in-Ok-clause-ends g c =
    (never_so c.tour.result Memory c.tour.ensures.ends (λ no. no), never_so c.tour.result Words c.tour.ensures.ends (λ no. no))

pub returns-clause-ends : goal.returns-clause-ends
returns-clause-ends g c = refused_never c.refuse_file.ensures.prints

pub returns-clause-scrubs : goal.returns-clause-scrubs
returns-clause-scrubs g c = λ left t told whole.
    let old : Outside = record { told = g.D.Disk.told c.args.disk.now; left = left; written = g.W.Sink.written c.args.sink.now } in
    let new : Outside = record { told = g.D.Disk.told c.open.new.disk; left = left; written = g.W.Sink.written c.refuse_file.new.sink } in
    (tt, not_opened Scrub c.args.rooms.layout t old new c.refuse_file.result c.in-Err.error whole told c.in-Err.ensures.answer refl c.in-Err.ensures.refused (c.in-Err.ensures.stopped t told) c.refuse_file.ensures.prints)
