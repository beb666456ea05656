-- Each turn replies to the op that waits the longest.
use Rattle.std.{proofs.Common.{◌≡◌, ◌∙◌, ◌+◌, ◌-◌, ◌<◌, ◌≤◌, ℕ, [], map, ap, arith, refl, subst, sym}, specs.List.{range_with_len}}
use Rattle.{df_base.specs.Causes.{Blamed}, df_model.specs.{Commands.{Reply}, declared.answers.Summary.{Summary}}}
use Rattle.df_session.specs.{Replying.{next_reply}, Below.{memory}}
use Rattle.df_table.{specs.{Policy.{replies}, Statuses.{is_disk}}, proofs.{Begun.{HasReplied, caught_up, may_catch, replied_more, replied_none}, Making.{IsMaking, all_counted, counted_ends, counted_more, making_none}}}
use Rattle.df_table.proofs.opening.catch_up.Goals as goal

pub loop-before-init : goal.loop-before-init
loop-before-init g c = let s = c.args.replica.now in
    let first : s.replies ≡ c.summary-summary.result.replies = sym (ap (λ (x : Summary). x.replies) c.summary-summary.ensures) in record {
      replied = rw (← first) (replied_none s);
      live = c.requires.live;
      making = rw (← first) (making_none (replies (memory s)) s (g.D.Disk.told c.args.disk.now));
      disk_faults = refl;
    }

pub reply-requires : goal.reply-requires
reply-requires g c = record { live = c.loop-before.invariant.live }

pub loop-before-preserved : goal.loop-before-preserved
loop-before-preserved g c = let s = c.args.replica.now in let now = c.loop-before in
    let less : now.before < s.head = omega (arith, c.loop-before-test, ap (λ (x : Summary). x.head) c.summary-summary.ensures) in
    let may = may_catch now.replica now.before now.invariant.replied.replies (omega (arith, less, now.invariant.replied.head)) in record {
      replied = replied_more
          now.before s now.replica c.reply.new.replica (next_reply now.replica []).header now.invariant.replied c.in-Ok.ensures.state;
      live = c.in-Ok.ensures.live;
      making = counted_more (λ (op : ℕ). Reply op []) (replies (memory s)) now.before s.head less s now.replica c.reply.new.replica (g.D.Disk.told c.args.disk.now) (g.D.Disk.told now.disk) (g.D.Disk.told c.reply.new.disk) now.invariant.making (c.in-Ok.ensures.makes may);
      disk_faults = c.in-Ok.ensures.disk ∙ now.invariant.disk_faults;
    }

pub returns-in-Err-clause-makes : goal.returns-in-Err-clause-makes
returns-in-Err-clause-makes g c = let s = c.args.replica.now in let now = c.loop-before in
    let less : now.before < s.head = omega (arith, c.loop-before-test, ap (λ (x : Summary). x.head) c.summary-summary.ensures) in
    let may = may_catch now.replica now.before now.invariant.replied.replies (omega (arith, less, now.invariant.replied.head)) in
    counted_ends (λ (op : ℕ). Reply op []) (replies (memory s)) now.before s.head less s now.replica c.reply.new.replica (g.D.Disk.told c.args.disk.now) (g.D.Disk.told now.disk) (g.D.Disk.told c.reply.new.disk) now.invariant.making c.in-Err.ending (c.in-Err.ensures.makes may)

pub returns-in-Err-clause-fails : goal.returns-in-Err-clause-fails
returns-in-Err-clause-fails g c = let now = c.loop-before in
    c.in-Err.ensures.fails (may_catch now.replica now.before now.invariant.replied.replies
    (omega (arith, c.loop-before-test, now.invariant.replied.head, ap (λ (x : Summary). x.head) c.summary-summary.ensures)))

pub returns-in-Err-clause-disk : goal.returns-in-Err-clause-disk
returns-in-Err-clause-disk g c = subst (λ (n : ℕ).
    Blamed (is_disk c.in-Err.ending) n (g.D.Disk.faults c.reply.new.disk)) c.loop-before.invariant.disk_faults c.in-Err.ensures.disk

pub returns-clause-makes : goal.returns-clause-makes
returns-clause-makes g c = let now = c.loop-before in let s = c.args.replica.now in
    let past : s.head ≤ now.before = omega (arith, c.loop-before-test, ap (λ (x : Summary). x.head) c.summary-summary.ensures) in
    all_counted (λ (op : ℕ). Reply op [])
    (replies (memory s)) now.before s.head s now.replica (g.D.Disk.told c.args.disk.now) (g.D.Disk.told now.disk) past now.invariant.making

pub returns-clause-caught : goal.returns-clause-caught
returns-clause-caught g c = let s = c.args.replica.now in let now = c.loop-before in
    caught_up now.before s now.replica now.invariant.replied
    (λ order. omega (arith, order, c.loop-before-test, now.auto, ap (λ (x : Summary). x.head) c.summary-summary.ensures, ap (λ (x : Summary). x.replies) c.summary-summary.ensures))
