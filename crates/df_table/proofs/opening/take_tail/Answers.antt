-- Each turn applies the command of the next prepare.
use Rattle.std.{proofs.Common.{◌≡◌, ◌∙◌, ◌+◌, ◌-◌, ◌<◌, ◌≤◌, ℕ, map, ap, arith, refl, subst, sym, Result, Ok, Err}, specs.List.{range_with_len}}
use Rattle.{df_base.specs.Causes.{Blamed}, df_model.specs.{Commands.{ReadPrepare}, declared.answers.Summary.{Summary}}}
use Rattle.df_session.specs.{Below.{State as Replica, memory}, Reading.{shown_of}}
use Rattle.df_table.{specs.{declared.ending.Ending.{Ending}, Opening.{AreFollowed, ReadsPrepare}, Policy.{prepare_reads}, Statuses.{is_disk}}, proofs.{Begun.{begun_order}, Following.{followed_ends, followed_more, followed_none}, Making.{IsMaking, all_counted, counted_ends, counted_more, making_none}}}
use Rattle.df_table.proofs.opening.take_tail.Goals as goal

pub loop-before-init : goal.loop-before-init
loop-before-init g c = let s = c.args.replica.now in
    let op : s.fields.op ≡ c.summary-summary.result.checkpoint_op = sym (ap (λ (x : Summary). x.checkpoint_op) c.summary-summary.ensures) in
    record {
      kept = refl;
      told = refl;
      disk_faults = refl;
      making = rw (← op) (making_none (prepare_reads (memory s)) s (g.D.Disk.told c.args.disk.now));
      following = λ w begun t is taken. rw (← op) (followed_none c.args.layout.now (shown_of s.file t.shown) (memory s) c.args.table.now taken);
    }

pub take_prepare-requires : goal.take_prepare-requires
take_prepare-requires g c = let now = c.loop-before in record {
  live = ap (λ (r : Replica). r.live) now.invariant.kept ∙ c.requires.live;
  behind = omega (arith, now.auto, ap (λ (x : Summary). x.checkpoint_op) c.summary-summary.ensures, ap (λ (r : Replica). r.fields.op) now.invariant.kept);
  within = omega
      (arith, c.loop-before-test, ap (λ (x : Summary). x.head) c.summary-summary.ensures, ap (λ (r : Replica). r.head) now.invariant.kept);
}

pub loop-before-preserved : goal.loop-before-preserved
loop-before-preserved g c = let s = c.args.replica.now in let now = c.loop-before in
    let less : now.before < s.head = omega (arith, c.loop-before-test, ap (λ (x : Summary). x.head) c.summary-summary.ensures) in record {
      kept = c.in-Ok.ensures.kept ∙ now.invariant.kept;
      told = c.in-Ok.ensures.same ∙ now.invariant.told;
      disk_faults = c.in-Ok.ensures.disk ∙ now.invariant.disk_faults;
      making = counted_more ReadPrepare (prepare_reads (memory s)) now.before s.head less s now.replica c.take_prepare.new.replica (g.D.Disk.told c.args.disk.now) (g.D.Disk.told now.disk) (g.D.Disk.told c.take_prepare.new.disk) now.invariant.making c.in-Ok.ensures.makes;
      following = λ w begun t is taken. let ok : Result (Unit {0}) Ending = Ok tt in let reads =
          c.in-Ok.ensures.reads (ap (λ (r : Replica). r.file.layout) now.invariant.kept ∙ begun.layout_is) t (now.invariant.told ∙ is) in
          followed_more c.args.layout.now (shown_of s.file t.shown)
          (memory s) now.before now.table (now.invariant.following w begun t is taken) (Unit {0}) c.take_prepare.new.table tt
          (rw now.invariant.kept at reads);
    }

pub returns-in-Err-clause-makes : goal.returns-in-Err-clause-makes
returns-in-Err-clause-makes g c = let s = c.args.replica.now in let now = c.loop-before in
    let less : now.before < s.head = omega (arith, c.loop-before-test, ap (λ (x : Summary). x.head) c.summary-summary.ensures) in
    counted_ends ReadPrepare (prepare_reads (memory s)) now.before s.head less s now.replica c.take_prepare.new.replica (g.D.Disk.told c.args.disk.now) (g.D.Disk.told now.disk) (g.D.Disk.told c.take_prepare.new.disk) now.invariant.making c.in-Err.ending c.in-Err.ensures.makes

pub returns-in-Err-clause-takes : goal.returns-in-Err-clause-takes
returns-in-Err-clause-takes g c = λ w begun t is taken. let s = c.args.replica.now in let now = c.loop-before in
    let less : now.before < s.head = omega (arith, c.loop-before-test, ap (λ (x : Summary). x.head) c.summary-summary.ensures) in
    let err : Result (Unit {0}) Ending = Err c.in-Err.ending in
    let reads = c.in-Err.ensures.reads (ap (λ (r : Replica). r.file.layout) now.invariant.kept ∙ begun.layout_is) t (now.invariant.told ∙ is) in
    followed_ends c.args.layout.now (shown_of s.file t.shown)
    (memory s) now.before now.table (now.invariant.following w begun t is taken) (Unit {0}) c.take_prepare.new.table c.in-Err.ending less
    (subst (λ (r : Replica). ReadsPrepare {A = Unit {0}} c.args.layout.now
    (shown_of r.file t.shown) (memory r) (now.before + 1) now.table c.take_prepare.new.table err) now.invariant.kept reads)

pub returns-in-Err-clause-same : goal.returns-in-Err-clause-same
returns-in-Err-clause-same g c = c.in-Err.ensures.same ∙ c.loop-before.invariant.told

pub returns-in-Err-clause-disk : goal.returns-in-Err-clause-disk
returns-in-Err-clause-disk g c = subst (λ (n : ℕ).
    Blamed (is_disk c.in-Err.ending) n (g.D.Disk.faults c.take_prepare.new.disk)) c.loop-before.invariant.disk_faults c.in-Err.ensures.disk

pub returns-clause-makes : goal.returns-clause-makes
returns-clause-makes g c = let s = c.args.replica.now in let now = c.loop-before in
    let past : s.head ≤ now.before = omega (arith, c.loop-before-test, ap (λ (x : Summary). x.head) c.summary-summary.ensures) in
    all_counted ReadPrepare (prepare_reads (memory s))
    now.before s.head s now.replica (g.D.Disk.told c.args.disk.now) (g.D.Disk.told now.disk) past now.invariant.making

pub returns-clause-takes : goal.returns-clause-takes
returns-clause-takes g c = λ w begun t is taken. let s = c.args.replica.now in let now = c.loop-before in
    let order = begun_order c.args.layout.now w s begun in
    let all : now.before ≡ s.head = omega (arith, c.loop-before-test, now.auto, order, ap (λ (x : Summary). x.head) c.summary-summary.ensures, ap (λ (x : Summary). x.checkpoint_op) c.summary-summary.ensures) in
    rw all at (now.invariant.following w begun t is taken)
