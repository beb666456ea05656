-- The header sectors, and the copies after them; the calls are the theory's steps.
use Rattle.{std.proofs.Common.{rules}, df_disk.proofs.Laws.{part_then, adds_then}, df_superblock.specs.Events.{repair_events}}
use Rattle.df_opening.{specs.Mending.{header_events, sectors_of}, proofs.MendSteps.{mending_is_steps}}
use Rattle.df_opening.proofs.mending.write_mends.Goals as goal

pub returns-in-Ok-clause-does : goal.returns-in-Ok-clause-does
returns-in-Ok-clause-does g c = record {
  events = adds_then (header_events c.args.file.now.layout c.args.headers.now (sectors_of c.args.file.now.layout c.args.mends.now))
      (repair_events c.args.content.now 0 c.args.chosen.now.members) (g.D.Disk.told c.args.disk.now) (g.D.Disk.told c.mend_headers.new.disk)
      (g.D.Disk.told c.repair.new.disk) c.repair.result c.in-Ok.ensures.events c.repair.ensures.events;
  steps = mending_is_steps c.args.file.now c.args.headers.now c.args.mends.now c.args.content.now c.args.chosen.now.members
      c.requires.table c.fields-fields.ensures.usable (search rules);
}

pub returns-in-Err-clause-does : goal.returns-in-Err-clause-does
returns-in-Err-clause-does g c = record {
  events = part_then (header_events c.args.file.now.layout c.args.headers.now (sectors_of c.args.file.now.layout c.args.mends.now))
      (repair_events c.args.content.now 0 c.args.chosen.now.members) _ _ c.in-Err.ensures.events;
  steps = mending_is_steps c.args.file.now c.args.headers.now c.args.mends.now c.args.content.now c.args.chosen.now.members
      c.requires.table c.fields-fields.ensures.usable (search rules);
}
