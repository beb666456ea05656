-- Each turn releases the next block, if its address is live.
use Rattle.std.proofs.Common.{◌≡◌, ◌<◌, None, arith}
use Rattle.df_table.proofs.Released.{all_made, all_released, live_entries, next_released, starts}
use Rattle.df_table.proofs.checkpointing.release_all.Goals as goal

pub loop-before-init : goal.loop-before-init
loop-before-init c = record {
  releasing = λ told ready.
      starts ready.work.live c.args.layout.now.blocks c.args.replica.now told (live_entries c.args.layout.now c.args.replica.now ready);
  live = c.requires.live;
}

pub loop-before-preserved : goal.loop-before-preserved
loop-before-preserved c = let now = c.loop-before in let less : now.before < c.args.layout.now.blocks = omega (arith, c.loop-before-test) in
    record {
      releasing = λ told ready. next_released
          ready.work.live c.args.layout.now.blocks now.before less c.args.replica.now now.replica told (now.invariant.releasing told ready)
          c.release_at.new.replica c.release_at.ensures.state (c.release_at.ensures.makes told);
      live = c.release_at.ensures.live;
    }

pub returns-clause-makes : goal.returns-clause-makes
returns-clause-makes c = λ told ready. let now = c.loop-before in
    let all : now.before ≡ c.args.layout.now.blocks = omega (arith, c.loop-before-test, c.loop-before.auto) in
    all_made ready.work.live c.args.layout.now.blocks now.before c.args.replica.now now.replica told (now.invariant.releasing told ready) all

pub returns-clause-state : goal.returns-clause-state
returns-clause-state c = λ ready. let now = c.loop-before in
    let all : now.before ≡ c.args.layout.now.blocks = omega (arith, c.loop-before-test, c.loop-before.auto) in all_released
    ready.work.live c.args.layout.now.blocks now.before c.args.replica.now now.replica None (now.invariant.releasing None ready) all
