-- The probe reads alone, so that what is said of the file is said from the start on.
use Rattle.{std.{proofs.Common.{inr, ℕ, subst}, specs.Prelude.{Option, Ok}}, df_disk.specs.Told.{Told}}
use Rattle.{df_layout.specs.declared.layout.Layout.{Layout}, df_upgrade.specs.Below.{TellsLayoutAs}}
use Rattle.df_top.specs.{Outside.{HasCauses, Outside}, Upgrading.{UpgradesIn}}
use Rattle.df_top.proofs.upgrading.upgrade_old.Goals as goal

pub returns-in-Ok-reserve-clause-upgrades : goal.returns-in-Ok-reserve-clause-upgrades
returns-in-Ok-reserve-clause-upgrades g c = λ left t told whole. let written = g.W.Sink.written c.args.sink.now in let new : Outside =
    record { told = g.D.Disk.told c.upgrade_there.new.disk; left = left; written = g.W.Sink.written c.upgrade_there.new.sink } in
    let layout : Layout = c.in-Ok-probe_version.layout in let upgrades : UpgradesIn
    layout (record { told = g.D.Disk.told c.args.disk.now; left = left; written = written }) new c.upgrade_there.result =
    rw c.probe_version.ensures.same at (rw c.in-Ok-reserve.ensures at (c.upgrade_there.ensures.upgrades left)) in inr (inr (record {
      layout = layout;
      shown = rw told at c.in-Ok-probe_version.ensures.answer;
      comes = upgrades t told whole;
    }))

pub returns-in-Ok-reserve-clause-causes : goal.returns-in-Ok-reserve-clause-causes
returns-in-Ok-reserve-clause-causes g c = λ source.
    subst (λ (n : ℕ). HasCauses (record { disk = n; source = source; sink = g.W.Sink.faults c.args.sink.now })
    (record { disk = g.D.Disk.faults c.upgrade_there.new.disk; source = source; sink = g.W.Sink.faults c.upgrade_there.new.sink })
    c.upgrade_there.result)
    c.in-Ok-probe_version.ensures.cause (c.upgrade_there.ensures.causes source)

pub returns-in-Ok-reserve-clause-memory : goal.returns-in-Ok-reserve-clause-memory
returns-in-Ok-reserve-clause-memory g c = λ left without. absurd (c.upgrade_there.ensures.ends.0 without)

pub returns-in-Ok-reserve-clause-usage : goal.returns-in-Ok-reserve-clause-usage
returns-in-Ok-reserve-clause-usage g c = c.upgrade_there.ensures.ends.1
