-- The probe reads alone, so that what is said of the file is said from the start on.
use Rattle.{std.{proofs.Common.{◌≡◌, inr}, specs.Prelude.{Option, Some, Ok}}, df_base.specs.Image.{IsImage}, df_disk.specs.Told.{Told}}
use Rattle.{df_layout.specs.declared.layout.Layout.{Layout}, df_session.specs.Below.{TellsLayout}}
use Rattle.df_table.specs.{Outside.{Outside}, Run.{DoesTable}}
use Rattle.df_table.proofs.engine.run_file.Goals as goal

pub returns-in-Ok-reserve-clause-runs : goal.returns-in-Ok-reserve-clause-runs
returns-in-Ok-reserve-clause-runs g c = λ t told whole. let layout : Layout = c.in-Ok-probe.layout in
    let new : Outside = record { told = g.D.Disk.told c.serve_table.new.outside.0; left = g.S.Source.left c.serve_table.new.outside.1.0; written = g.W.Sink.written c.serve_table.new.outside.1.1.0 } in
    let left = g.S.Source.left c.args.outside.source.now in let written = g.W.Sink.written c.args.outside.sink.now in
    let does : (u : Told) → g.D.Disk.told c.args.outside.disk.now ≡ Some u → IsImage u.shown →
    DoesTable layout u (record { told = g.D.Disk.told c.args.outside.disk.now; left = left; written = written }) new c.serve_table.result =
    rw c.probe.ensures.same at (rw c.in-Ok-reserve.ensures.rooms at c.serve_table.ensures.serves) in inr (inr (record {
      layout = layout;
      shown = rw told at c.in-Ok-probe.ensures.answer;
      does = does t told whole;
    }))

pub returns-in-Ok-reserve-clause-memory : goal.returns-in-Ok-reserve-clause-memory
returns-in-Ok-reserve-clause-memory g c = λ is. absurd (c.serve_table.ensures.ends.0 is)

pub returns-in-Ok-reserve-clause-unwritten : goal.returns-in-Ok-reserve-clause-unwritten
returns-in-Ok-reserve-clause-unwritten g c = λ is. absurd (c.serve_table.ensures.ends.0 is)

pub returns-in-Ok-reserve-clause-words : goal.returns-in-Ok-reserve-clause-words
returns-in-Ok-reserve-clause-words g c = c.serve_table.ensures.ends.1
