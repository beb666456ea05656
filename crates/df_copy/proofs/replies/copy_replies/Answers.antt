-- One reply after the other.
use Rattle.{std.proofs.Common.{◌∙◌, ◌<◌, length, refl, sym, ap, subst, arith}, df_layout.specs.declared.layout.Layout.{Layout}}
use Rattle.{df_model.specs.declared.answers.Summary.{Summary}, df_opening.specs.Below.{State}}
use Rattle.df_copy.{specs.Acts.{IsReadySource, SetsCheck}, proofs.{Blamed.{leaves_then}, Named.{named_by, named_more, named_none}, Replying.{replying_all, replying_ends, replying_more, replying_none}, Turns.{leaves_self}}}
use Rattle.df_copy.proofs.replies.copy_replies.Goals as goal

pub loop-place-init : goal.loop-place-init
loop-place-init g c = record {
  leaves = leaves_self;
  named = named_none (length c.args.replica.now.table.sessions) c.args.target.now.checks c.requires.target.checks;
  grid = record { layout_is = refl; grid = refl; copied = refl };
  replying = λ apart. replying_none c.args.target.now.layout
      c.args.replica.now (g.A.Disk.told c.args.from.now) (g.B.Disk.told c.args.to.now) c.args.target.now.checks c.requires.target.checks;
}

pub copy_reply-requires-clause-ready : goal.copy_reply-requires-clause-ready
copy_reply-requires-clause-ready g c = let i = c.loop-place.invariant in
    subst (λ (l : Layout). IsReadySource l c.loop-place.replica) (sym i.grid.layout_is) (rw (sym i.leaves.kept) at c.requires.ready)

pub loop-place-preserved : goal.loop-place-preserved
loop-place-preserved g c = let layout : Layout = c.args.target.now.layout in let i = c.loop-place.invariant in
    let k = c.in-Ok.ensures.grid in let sessions = ap (λ (x : Summary). x.sessions) c.summary-place-end.ensures in
    let few : c.loop-place.place < 64 = omega (arith, sessions, layout.clients_within.1) in let behind = c.copy_reply.new.target.checks in
    record {
      leaves = leaves_then i.leaves c.in-Ok.ensures.leaves;
      named = named_more
          (length c.args.replica.now.table.sessions) c.loop-place.target.checks behind i.named (rw i.leaves.kept at c.in-Ok.ensures.named);
      grid = record { layout_is = k.layout_is ∙ i.grid.layout_is; grid = k.grid ∙ i.grid.grid; copied = k.copied ∙ i.grid.copied };
      replying = λ apart. replying_more i.grid.layout_is i.leaves (omega (arith, sessions))
          (i.replying apart) apart behind (g.B.Disk.told c.copy_reply.new.to) few c.in-Ok.field-0 c.in-Ok.ensures.copies;
    }

pub returns-in-Err-clause-copies : goal.returns-in-Err-clause-copies
returns-in-Err-clause-copies g c = λ apart. let i = c.loop-place.invariant in
    let sessions = ap (λ (x : Summary). x.sessions) c.summary-place-end.ensures in
    replying_ends i.grid.layout_is i.leaves (omega (arith, sessions))
    (i.replying apart) apart c.copy_reply.new.target.checks (g.B.Disk.told c.copy_reply.new.to) c.in-Err.ending c.in-Err.ensures.copies

pub returns-in-Err-clause-leaves : goal.returns-in-Err-clause-leaves
returns-in-Err-clause-leaves g c = leaves_then c.loop-place.invariant.leaves c.in-Err.ensures.leaves

pub returns-clause-copies : goal.returns-clause-copies
returns-clause-copies g c = λ apart. let sessions = ap (λ (x : Summary). x.sessions) c.summary-place-end.ensures in
    replying_all c.args.target.now.layout c.args.replica.now (g.A.Disk.told c.args.from.now) (g.B.Disk.told c.args.to.now) {T = Unit {0}}
    tt c.loop-place.target.checks (g.B.Disk.told c.loop-place.to) c.loop-place.place (omega (arith, sessions))
    (c.loop-place.invariant.replying apart)

pub returns-clause-begun : goal.returns-clause-begun
returns-clause-begun g c = let i = c.loop-place.invariant in let t = c.requires.target in
    let few = c.args.target.now.layout.clients_within.1 in let by =
    named_by (length c.args.replica.now.table.sessions) c.loop-place.target.checks (omega (arith, few, c.requires.ready.fits)) i.named in
    (by.0, by.1, record { layout_is = i.grid.layout_is; grid = i.grid.grid ∙ t.grid; checks = by.2; copied = i.grid.copied ∙ t.copied })
