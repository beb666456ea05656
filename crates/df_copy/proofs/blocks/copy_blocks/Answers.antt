-- One address after the other.
use Rattle.{std.proofs.Common.{◌≡◌, ◌∙◌, ap, arith, refl}, df_model.specs.declared.answers.Summary.{Summary}}
use Rattle.df_copy.proofs.{Blamed.{leaves_then}, Blocking.{addresses_of, blocking_all, blocking_ends, blocking_more, blocking_none, blocking_room}, Turns.{leaves_self}}
use Rattle.df_copy.proofs.blocks.copy_blocks.Goals as goal

pub loop-before-init : goal.loop-before-init
loop-before-init g c = record {
  leaves = leaves_self;
  layout = refl;
  blocking = λ rs is. blocking_none
      c.args.target.now.layout c.args.replica.now rs (g.A.Disk.told c.args.from.now) (g.B.Disk.told c.args.to.now) c.args.target.now is;
}

pub copy_at-requires-clause-room : goal.copy_at-requires-clause-room
copy_at-requires-clause-room g c = λ known. let i = c.loop-before.invariant in
    let blocks : c.summary-before-end.result.layout.blocks ≡ addresses_of c.args.replica.now =
    ap (λ (x : Summary). x.layout.blocks) c.summary-before-end.ensures in blocking_room i.layout
    i.leaves (omega (arith, blocks)) (i.blocking c.requires.begun.0 c.requires.begun.1) c.from.result c.from.ensures known c.requires.room

pub loop-before-preserved : goal.loop-before-preserved
loop-before-preserved g c = let i = c.loop-before.invariant in
    let blocks : c.summary-before-end.result.layout.blocks ≡ addresses_of c.args.replica.now =
    ap (λ (x : Summary). x.layout.blocks) c.summary-before-end.ensures in record {
      leaves = leaves_then i.leaves c.in-Ok.ensures.leaves;
      layout = c.in-Ok.ensures.layout ∙ i.layout;
      blocking = λ rs is. blocking_more i.layout i.leaves (omega (arith, blocks)) (i.blocking rs is)
          c.from.result c.from.ensures c.copy_at.new.target (g.B.Disk.told c.copy_at.new.to) c.in-Ok.field-0 c.in-Ok.ensures.copies;
    }

pub returns-in-Err-clause-copies : goal.returns-in-Err-clause-copies
returns-in-Err-clause-copies g c = λ rs is. let i = c.loop-before.invariant in
    let blocks : c.summary-before-end.result.layout.blocks ≡ addresses_of c.args.replica.now =
    ap (λ (x : Summary). x.layout.blocks) c.summary-before-end.ensures in
    blocking_ends i.layout i.leaves (omega (arith, blocks)) (i.blocking rs is)
    c.from.result c.from.ensures c.copy_at.new.target (g.B.Disk.told c.copy_at.new.to) c.in-Err.ending c.in-Err.ensures.copies

pub returns-in-Err-clause-leaves : goal.returns-in-Err-clause-leaves
returns-in-Err-clause-leaves g c = leaves_then c.loop-before.invariant.leaves c.in-Err.ensures.leaves

pub returns-clause-copies : goal.returns-clause-copies
returns-clause-copies g c = λ rs is. let blocks : c.summary-before-end.result.layout.blocks ≡ addresses_of c.args.replica.now =
    ap (λ (x : Summary). x.layout.blocks) c.summary-before-end.ensures in
    blocking_all c.args.target.now.layout c.args.replica.now rs (g.A.Disk.told c.args.from.now) (g.B.Disk.told c.args.to.now) {T = Unit {0}}
    tt c.loop-before.target (g.B.Disk.told c.loop-before.to) c.loop-before.before (omega (arith, blocks))
    (c.loop-before.invariant.blocking rs is)
