-- The list that is written is the rooms'.
use Rattle.{std.proofs.Common.{List, subst}, df_layout.specs.declared.damage.Mend.{Mend}}
use Rattle.df_opening.specs.{Mending.{AddsSteps, mending_events, mending_steps}, Keeping.{format}}
use Rattle.df_opening.proofs.mending.mend_parts.Goals as goal

pub returns-clause-does : goal.returns-clause-does
returns-clause-does g c = let file = c.args.parts.now.file in let table = c.args.parts.now.rooms.headers in
    let f = c.args.parts.now.content in
    subst (λ (list : List Mend). AddsSteps (format file) (mending_events file.layout table list f c.args.members) (mending_steps file.layout table list f c.args.members) (g.D.Disk.told c.args.disk.now) (g.D.Disk.told c.write_mends.new.disk) c.write_mends.result) c.deref.ensures.value c.write_mends.ensures.does
