-- One more named sector is loose.
use Rattle.std.proofs.{Common.{arith, [], sym, ◌∙◌}, lemmas.Grind.{common_steps}}
use Rattle.df_memdisk.{specs.History.{events_of}, proofs.Possible.{AreLoose-take}}
use Rattle.df_memdisk.proofs.stop.firm_sector.Goals as goal

pub loop-change-preserved : goal.loop-change-preserved
loop-change-preserved c = record {
  same = grind (arith, common_steps);
  loose = AreLoose-take
      (events_of c.args.past.now) c.args.choice.now c.loop-change.change-index record { sector = 0; bytes = [] } c.loop-change-test.true
      c.loop-change.invariant.loose (sym c.is_loose.ensures ∙ c.if-not-is_loose.false) c.is_whole.ensures;
}
