-- Each turn puts one more prepare, or a part of the puts was made.
use Rattle.{std.proofs.Common.{◌∙◌, ℕ, subst, sym, arith}, df_disk.proofs.Laws.{adds_failed}, df_headers.specs.Ring.{IsHeaderTable}}
use Rattle.df_journal.proofs.GroupWrites.{group_fails, group_leads, headers_turn, stands_at}
use Rattle.df_journal.proofs.flushing.put_all.Goals as goal

pub put-requires-clause-table : goal.put-requires-clause-table
put-requires-clause-table g c =
    subst (λ (k : ℕ). IsHeaderTable c.args.layout.now k c.loop-i.table) (sym (c.requires.1.each c.loop-i.i c.index-group-i.result (stands_at c.args.group.now c.loop-i.i c.index-group-i.result (omega (arith, c.loop-i-test.true)) c.index-group-i.is)).1) (c.loop-i.invariant.valid c.requires.0 c.requires.1)

pub returns-in_err-put-clause-events : goal.returns-in_err-put-clause-events
returns-in_err-put-clause-events g c = adds_failed _ _ _ _ c.from_residual.ensures.0
    (group_fails c.args.layout.now c.args.group.now c.loop-i.i c.index-group-i.result (stands_at c.args.group.now c.loop-i.i c.index-group-i.result (omega (arith, c.loop-i-test.true)) c.index-group-i.is) _ _ (g.D.Disk.told c.loop-i.disk) (g.D.Disk.told c.put.new.disk) c.loop-i.invariant.leads c.in_err-put.ensures.events)

pub returns-in_err-put-clause-valid : goal.returns-in_err-put-clause-valid
returns-in_err-put-clause-valid g c = λ cluster may. subst (λ (k : ℕ). IsHeaderTable c.args.layout.now k c.put.new.table) (may.each c.loop-i.i c.index-group-i.result (stands_at c.args.group.now c.loop-i.i c.index-group-i.result (omega (arith, c.loop-i-test.true)) c.index-group-i.is)).1 c.put.ensures.valid

pub loop-i-preserved : goal.loop-i-preserved
loop-i-preserved g c = record {
  within = omega (arith, c.loop-i-test.true);
  leads = group_leads c.args.layout.now c.args.group.now c.loop-i.i c.index-group-i.result (stands_at c.args.group.now c.loop-i.i c.index-group-i.result (omega (arith, c.loop-i-test.true)) c.index-group-i.is) _ _ (g.D.Disk.told c.loop-i.disk) (g.D.Disk.told c.put.new.disk) c.loop-i.invariant.leads c.in_ok-put.ensures.events;
  table = headers_turn c.args.layout.now c.args.group.now c.loop-i.i c.index-group-i.result (stands_at c.args.group.now c.loop-i.i c.index-group-i.result (omega (arith, c.loop-i-test.true)) c.index-group-i.is) c.loop-i.table c.put.new.table _ c.in_ok-put.ensures.table c.loop-i.invariant.table;
  valid = λ cluster may. rw (may.each c.loop-i.i c.index-group-i.result (stands_at
      c.args.group.now c.loop-i.i c.index-group-i.result (omega (arith, c.loop-i-test.true)) c.index-group-i.is)).1 at c.put.ensures.valid;
  faults = c.in_ok-put.ensures.cause.same ∙ c.loop-i.invariant.faults;
}
