-- Which of the four sectors is the first that holds a byte other than zero.
use Rattle.df_opening.proofs.Blanks.{tells_written, tells_blank}
use Rattle.df_opening.proofs.making.test_blank.Goals as goal

pub returns-in-Some-clause-blank : goal.returns-in-Some-clause-blank
returns-in-Some-clause-blank g c =
    tells_written _ (g.D.Disk.told c.args.disk.now) c.in-Ok.copies c.in-Some.copy c.in-Ok.ensures.shown c.in-Some.ensures.some

pub returns-in-None-clause-blank : goal.returns-in-None-clause-blank
returns-in-None-clause-blank g c = tells_blank _ (g.D.Disk.told c.args.disk.now) c.in-Ok.copies _ c.in-Ok.ensures.shown c.in-None.ensures.none
