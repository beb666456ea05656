-- Each turn takes the next block, if its address is live.
use Rattle.{std.proofs.Common.{◌≡◌, ◌∙◌, ◌+◌, ◌<◌, ℕ, ap, arith, refl, subst, sym, Result, Ok, Err}, df_base.specs.Causes.{Blamed}}
use Rattle.{df_model.specs.Blocks.{sum_at}, df_rows.specs.Tables.{Table}}
use Rattle.df_session.specs.{Below.{State as Replica, memory}, Reading.{shown_of}}
use Rattle.df_table.{specs.{declared.ending.Ending.{Ending}, declared.opening.Taken.{Taken}, Opening.{ReadsNext}, Statuses.{is_disk}}, proofs.{Begun.{begun_entries}, Taking.{IsTaking, reading_all, reading_ends, reading_more, reading_none, taking_all, taking_ends, taking_next, taking_none}}}
use Rattle.df_table.proofs.opening.take_blocks.Goals as goal

pub loop-before-init : goal.loop-before-init
loop-before-init g c = let s = c.args.replica.now in record {
  kept = refl;
  told = refl;
  disk_faults = refl;
  few = omega arith;
  making = λ w begun. reading_none w.live c.args.layout.now.blocks s (begun_entries c.args.layout.now w s begun) (g.D.Disk.told c.args.disk.now);
  taking = λ w begun own empty t is. rw (sym empty) at (taking_none c.args.layout.now
      (shown_of s.file t.shown) (memory s) w.live c.args.layout.now.blocks (begun_entries c.args.layout.now w s begun) own);
}

pub take_next-requires : goal.take_next-requires
take_next-requires g c = let now = c.loop-before in
    record { live = ap (λ (r : Replica). r.live) now.invariant.kept ∙ c.requires.live; few = omega (arith, now.invariant.few, c.loop-before-test, c.args.layout.now.blocks_within) }

pub loop-before-preserved : goal.loop-before-preserved
loop-before-preserved g c = let s = c.args.replica.now in let now = c.loop-before in let n = c.args.layout.now.blocks in
    let less : now.before < n = omega (arith, c.loop-before-test) in record {
      kept = c.in-Ok.ensures.kept ∙ now.invariant.kept;
      told = c.in-Ok.ensures.same ∙ now.invariant.told;
      disk_faults = c.in-Ok.ensures.disk ∙ now.invariant.disk_faults;
      few = omega (arith, now.invariant.few, c.in-Ok.ensures.count);
      making = λ w begun.
          reading_more w.live n s (begun_entries c.args.layout.now w s begun) now.before less now.replica c.take_next.new.replica (g.D.Disk.told c.args.disk.now) (g.D.Disk.told now.disk) (g.D.Disk.told c.take_next.new.disk) now.invariant.kept (now.invariant.making w begun) c.in-Ok.ensures.makes;
      taking = λ w begun own empty t is. let ok : Result Taken Ending = Ok c.in-Ok.next in
          let reads = rw now.invariant.kept at (c.in-Ok.ensures.reads t (now.invariant.told ∙ is)) in
          taking_next c.args.layout.now (shown_of s.file t.shown) (memory s)
          w.live n (begun_entries c.args.layout.now w s begun) now.before less now.taken (now.invariant.taking w begun own empty t is)
          (sum_at (now.before + 1) s.blocks.live) refl c.in-Ok.next (rw c.blocks_of_table-most.ensures.value at reads);
    }

pub returns-in-Err-clause-makes : goal.returns-in-Err-clause-makes
returns-in-Err-clause-makes g c = λ w begun. let s = c.args.replica.now in let now = c.loop-before in
    let less : now.before < c.args.layout.now.blocks = omega (arith, c.loop-before-test) in
    reading_ends w.live c.args.layout.now.blocks s (begun_entries c.args.layout.now w s begun) now.before less now.replica c.take_next.new.replica (g.D.Disk.told c.args.disk.now) (g.D.Disk.told now.disk) (g.D.Disk.told c.take_next.new.disk) now.invariant.kept (now.invariant.making w begun)
    c.in-Err.ending c.in-Err.ensures.makes

pub returns-in-Err-clause-takes : goal.returns-in-Err-clause-takes
returns-in-Err-clause-takes g c = λ w begun own empty t is. let s = c.args.replica.now in let now = c.loop-before in
    let less : now.before < c.args.layout.now.blocks = omega (arith, c.loop-before-test) in
    let err : Result Taken Ending = Err c.in-Err.ending in
    let reads = rw now.invariant.kept at (c.in-Err.ensures.reads t (now.invariant.told ∙ is)) in
    taking_ends c.args.layout.now (shown_of s.file t.shown) (memory s) w.live c.args.layout.now.blocks
    (begun_entries c.args.layout.now w s begun) now.before less now.taken (now.invariant.taking w begun own empty t is)
    (sum_at (now.before + 1) s.blocks.live) refl c.in-Err.ending (rw c.blocks_of_table-most.ensures.value at reads)

pub returns-in-Err-clause-disk : goal.returns-in-Err-clause-disk
returns-in-Err-clause-disk g c = subst (λ (n : ℕ).
    Blamed (is_disk c.in-Err.ending) n (g.D.Disk.faults c.take_next.new.disk)) c.loop-before.invariant.disk_faults c.in-Err.ensures.disk

pub returns-in-Err-clause-same : goal.returns-in-Err-clause-same
returns-in-Err-clause-same g c = c.in-Err.ensures.same ∙ c.loop-before.invariant.told

pub returns-clause-makes : goal.returns-clause-makes
returns-clause-makes g c = λ w begun. let s = c.args.replica.now in let now = c.loop-before in
    let all : now.before ≡ c.args.layout.now.blocks = omega (arith, c.loop-before-test, c.loop-before.auto) in
    reading_all w.live c.args.layout.now.blocks s (begun_entries c.args.layout.now w s begun)
    now.before now.replica (g.D.Disk.told c.args.disk.now) (g.D.Disk.told now.disk) all (now.invariant.making w begun)

pub returns-clause-takes : goal.returns-clause-takes
returns-clause-takes g c = λ w begun own empty t is. let s = c.args.replica.now in let now = c.loop-before in
    let all : now.before ≡ c.args.layout.now.blocks = omega (arith, c.loop-before-test, c.loop-before.auto) in
    taking_all c.args.layout.now (shown_of s.file t.shown) (memory s) w.live c.args.layout.now.blocks
    (begun_entries c.args.layout.now w s begun) now.before now.taken.table now.taken.count all (now.invariant.taking w begun own empty t is)
