-- Each is looked at once.
use Rattle.{std.proofs.{Common.{arith}, lemmas.Option.{slice_get_within}}, df_journal.proofs.GroupWrites.{own_more, stands_at}}
use Rattle.df_journal.proofs.flushing.are_own.Goals as goal

pub loop-i-preserved : goal.loop-i-preserved
loop-i-preserved c = record {
  within = omega (arith, c.loop-i-test.true);
  own = own_more c.args.layout.now c.args.group.now c.loop-i.i c.index-group-i.result (stands_at c.args.group.now c.loop-i.i c.index-group-i.result (omega (arith, c.loop-i-test.true)) c.index-group-i.is) (record { own = c.stands_in_slot.ensures.own; brings = c.stands_in_slot.ensures.brings }) c.loop-i.invariant.own;
}

pub returns : goal.returns
returns c = λ i held at. c.loop-i.invariant.own i held (omega (arith, c.loop-i-test.false, slice_get_within c.args.group.now i held at)) at
