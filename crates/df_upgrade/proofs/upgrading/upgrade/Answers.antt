-- The superblock that is written is the one that was handed in.
use Rattle.{std.proofs.Common.{subst}, df_format.specs.declared.superblock.SuperFields.{SuperFields}}
use Rattle.df_upgrade.specs.Upgrading.{UpdatesTo}
use Rattle.df_upgrade.proofs.upgrading.upgrade.Goals as goal

pub returns-clause-does : goal.returns-clause-does
returns-clause-does g c = let by = c.update.ensures in
    let does : UpdatesTo c.in-Ok.content (g.D.Disk.told c.args.disk.now) (g.D.Disk.told c.update.new.disk) c.update.result =
    record { events = by.events; steps = by.steps; read_back = by.read_back; undamaged = by.undamaged; shown = by.shown; equal = by.equal } in
    subst (λ (f : SuperFields). UpdatesTo f (g.D.Disk.told c.args.disk.now) (g.D.Disk.told c.update.new.disk) c.update.result)
    c.in-Ok.ensures.fields does
