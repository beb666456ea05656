-- The probe reads alone, so that what is said of the source is said from the start on.
use Rattle.{std.proofs.Common.{◌≡◌, inr, Option, Some, Ok, subst}, df_base.specs.Image.{IsImage}, df_disk.specs.Told.{Told}}
use Rattle.{df_layout.specs.declared.layout.Layout.{Layout}, df_opening.specs.Below.{TellsLayout}, df_program.specs.Two.{Outside, around}}
use Rattle.df_copy.specs.Run.{DoesCopy}
use Rattle.df_copy.proofs.engine.copy_file.Goals as goal

pub returns-in-Ok-reserve-clause-runs : goal.returns-in-Ok-reserve-clause-runs
returns-in-Ok-reserve-clause-runs g c = λ t told whole. let to = g.B.Disk.told c.args.to.now in
    let written = g.W.Sink.written c.args.sink.now in let new : Outside =
    around (g.A.Disk.told c.copy_reserved.new.from) (g.B.Disk.told c.copy_reserved.new.to) (g.W.Sink.written c.copy_reserved.new.sink) in
    let own : Layout = c.in-Ok-probe.found in let reserved = c.in-Ok-reserve.ensures {u = tt} in
    let does : (u : Told) → g.A.Disk.told c.args.from.now ≡ Some u
    → IsImage u.shown → DoesCopy c.args.layout.now own u (around (g.A.Disk.told c.args.from.now) to written) new c.copy_reserved.result =
    subst (λ (o : Option Told). (u : Told)
    → o ≡ Some u → IsImage u.shown → DoesCopy c.args.layout.now own u (around o to written) new c.copy_reserved.result) c.probe.ensures.same
    (subst (λ (l : Layout). (u : Told) → g.A.Disk.told c.probe.new.disk ≡ Some u
    → IsImage u.shown → DoesCopy l own u (around (g.A.Disk.told c.probe.new.disk) to written) new c.copy_reserved.result) reserved.target
    (subst (λ (l : Layout). (u : Told) → g.A.Disk.told c.probe.new.disk ≡ Some u → IsImage u.shown → DoesCopy c.in-Ok-reserve.reserved.target.layout l u (around (g.A.Disk.told c.probe.new.disk) to written) new c.copy_reserved.result) reserved.source
    c.copy_reserved.ensures.does)) in inr (inr (record {
      own = own;
      shown = subst (λ (o : Option Told). TellsLayout o (Ok own)) told (c.in-Ok-probe.ensures {u = tt}).answer;
      does = does t told whole;
    }))
