-- The probe reads alone, so that what is said of the file is said from the start on.
use Rattle.{std.{proofs.Common.{inr}, specs.Prelude.{Option, Ok}}, df_disk.specs.Told.{Told}, df_session.specs.Below.{TellsLayout}}
use Rattle.{df_layout.specs.declared.layout.Layout.{Layout}, df_top.specs.{Outside.{Outside}, Run.{ServesIn}}}
use Rattle.df_top.proofs.engine.run_file.Goals as goal

pub returns-in-Ok-reserve-clause-runs : goal.returns-in-Ok-reserve-clause-runs
returns-in-Ok-reserve-clause-runs g c = λ t told whole. let left = g.S.Source.left c.args.outside.source.now in
    let written = g.W.Sink.written c.args.outside.sink.now in
    let new : Outside = record { told = g.D.Disk.told c.carry_out.new.outside.0; left = g.S.Source.left c.carry_out.new.outside.1.0; written = g.W.Sink.written c.carry_out.new.outside.1.1.0 } in
    let layout : Layout = c.in-Ok-probe.layout in let serves : ServesIn
    c.args.mode layout (record { told = g.D.Disk.told c.args.outside.disk.now; left = left; written = written }) new c.carry_out.result =
    rw c.probe.ensures.same at (rw c.in-Ok-reserve.ensures.layout at c.carry_out.ensures.serves) in inr (inr (record {
      layout = layout;
      shown = rw told at c.in-Ok-probe.ensures.answer;
      serves = serves t told whole;
    }))
