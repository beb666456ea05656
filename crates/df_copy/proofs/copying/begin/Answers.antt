-- The target isn't begun.
use Rattle.{std.proofs.Common.{Option, Err, sym}, df_disk.specs.Told.{Told}}
use Rattle.df_copy.{specs.{declared.ending.Ending.{Ending}, Copying.{BeginsTarget}}, proofs.Blanks.{not_begun}}
use Rattle.df_copy.proofs.copying.begin.Goals as goal

pub returns-in-Err-clause-begins : goal.returns-in-Err-clause-begins
returns-in-Err-clause-begins g c = let old : Option Told = g.B.Disk.told c.args.to.now in
    let new : Option Told = g.B.Disk.told c.test_blank.new.disk in rw (sym c.unbegun.ensures) at (not_begun (Unit {0})
    c.args.target.now.layout c.args.cluster old new c.in-Err.error c.in-Err.ensures.cluster c.in-Err.ensures.blank c.in-Err.ensures.same)
