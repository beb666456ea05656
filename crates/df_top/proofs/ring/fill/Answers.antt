-- Each place is read once.
use Rattle.std.proofs.{Common.{◌≡◌, ◌≤◌, ◌<◌, ◌++◌, ◌∙◌, refl, sym, length, arith}, lemmas.List.{take_all}}
use Rattle.df_top.{specs.Findings.{items_of}, proofs.RingTurns.{items_few, take_more}}
use Rattle.df_top.proofs.ring.fill.Goals as goal

pub loop-place-init : goal.loop-place-init
loop-place-init c = record { within = omega arith; few = omega arith; room = c.requires.room; so_far = refl; ring = λ no. absurd (omega (arith, no)); call = λ no. absurd (omega (arith, no)) }

pub loop-place-preserved : goal.loop-place-preserved
loop-place-preserved c = let findings = c.args.replica.now.findings in record {
  within = omega (arith, c.loop-place-test.true);
  few = omega (arith, c.loop-place.invariant.few, c.keep-count.ensures.count, items_few c.recent.result);
  room = c.keep-count.ensures.length ∙ c.loop-place.invariant.room;
  so_far = c.keep-count.ensures.kept
      ∙ (λ i. c.loop-place.invariant.so_far i ++ items_of (c.recent.ensures.value i)) ∙ sym (take_more findings c.loop-place.place);
  ring = λ yes. c.recent.ensures.few;
  call = λ yes. c.recent.ensures.call c.requires.live;
}

pub returns-clause-ring : goal.returns-clause-ring
returns-clause-ring c = let all : c.loop-place.place ≡ 64 = omega (arith, c.loop-place.invariant.within, c.loop-place-test.false) in
    let some : 0 < c.loop-place.place = omega (arith, all) in
    let few : length c.args.replica.now.findings ≤ c.loop-place.place = omega (arith, all, c.loop-place.invariant.ring some) in
    c.loop-place.invariant.so_far ∙ take_all c.loop-place.place c.args.replica.now.findings few

pub returns-clause-call : goal.returns-clause-call
returns-clause-call c = let all : c.loop-place.place ≡ 64 = omega (arith, c.loop-place.invariant.within, c.loop-place-test.false) in
    c.loop-place.invariant.call (omega (arith, all))
