-- A test that reads nothing refuses the source, or the others decide.
use Rattle.{std.proofs.Common.{[], refl}, df_copy.proofs.{Joining.{into_planned, into_refused}, Planning.{passes_tests, rest_blames}}}
use Rattle.df_copy.proofs.copying.copy_into.Goals as goal

pub copy_planned-requires-clause-ready : goal.copy_planned-requires-clause-ready
copy_planned-requires-clause-ready g c =
    let passes = passes_tests c.args.target.now.layout c.args.replica.now [] c.in-Ok.ensures.tested.0 in
    record { live = c.requires.live; rest = passes.rest; fits = passes.fits }

pub copy_planned-requires-clause-room : goal.copy_planned-requires-clause-room
copy_planned-requires-clause-room g c = (passes_tests c.args.target.now.layout c.args.replica.now [] c.in-Ok.ensures.tested.0).room

pub returns-in-Ok-clause-copies : goal.returns-in-Ok-clause-copies
returns-in-Ok-clause-copies g c = λ apart.
    into_planned (Unit {0}) c.args.target.now.layout c.args.replica.now (g.A.Disk.told c.args.from.now) (g.B.Disk.told c.args.to.now)
    (g.B.Disk.told c.copy_planned.new.to) c.copy_planned.result c.in-Ok.ensures.tested.0 (c.copy_planned.ensures.copies apart)

pub returns-in-Err-clause-copies : goal.returns-in-Err-clause-copies
returns-in-Err-clause-copies g c = λ apart. into_refused (Unit {0}) c.args.target.now.layout c.args.replica.now
    (g.A.Disk.told c.args.from.now) (g.B.Disk.told c.args.to.now) (g.B.Disk.told c.args.to.now) refl c.in-Err.ending c.in-Err.ensures.tested

pub returns-in-Err-clause-leaves : goal.returns-in-Err-clause-leaves
returns-in-Err-clause-leaves g c = record {
  kept = tt;
  same = refl;
  blames_source =
      (rest_blames c.args.target.now.layout c.args.replica.now (g.A.Disk.faults c.args.from.now) c.in-Err.ending c.in-Err.ensures.tested).0;
  blames_target =
      (rest_blames c.args.target.now.layout c.args.replica.now (g.B.Disk.faults c.args.to.now) c.in-Err.ending c.in-Err.ensures.tested).1;
}
