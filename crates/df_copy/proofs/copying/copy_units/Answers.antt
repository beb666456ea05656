-- The replies, and then the blocks.
use Rattle.std.{proofs.Common.{◌≡◌, ◌∙◌, ◌≤◌, List, [], length, Option, Result, Ok, Err, sym, ap, subst}, specs.Prelude.{OnOk}}
use Rattle.{df_disk.specs.Told.{Told}, df_format.specs.Message.{Message}, df_layout.specs.declared.layout.Layout.{Layout}}
use Rattle.df_opening.specs.Below.{State, memory}
use Rattle.df_copy.{specs.{declared.ending.Ending.{Ending}, declared.target.Target.{Target}, Acts.{CopiesBlocks, IsCopied}, Targets.{IsTarget}, Tests.{references}}, proofs.{Blamed.{leaves_then}, Joining.{units_join, units_stop}}}
use Rattle.df_copy.proofs.copying.copy_units.Goals as goal

-- what the replies leave, as the blocks ask for it
begun_as : (layout l : Layout) (s q : State) (rs : List Message) (t : Target)
    → l ≡ layout → q ≡ s → IsTarget layout s.file.cluster rs [] t → IsTarget l q.file.cluster rs [] t
begun_as layout l s q rs t layouts states is = subst (λ (x : Layout). IsTarget x q.file.cluster rs [] t) (sym layouts) (rw (sym states) at is)

-- and what the blocks leave
both : {T : Type 0} (layout l : Layout) (s q : State) (n : Target) (from old new : Option Told) (rs : List Message) (r : Result T Ending)
    → l ≡ layout → q ≡ s → length rs ≡ length s.table.sessions → CopiesBlocks l q rs n from old new r → OnOk r (IsCopied layout s n)
both layout l s q n from old new rs (Ok x) layouts states all copies =
    (rs, copies.0, rw layouts at (rw states at copies.4), all, copies.2 ∙ ap (λ (y : State). length (references (memory y))) states)
both layout l s q n from old new rs (Err e) layouts states all copies = tt

pub copy_blocks-requires-clause-begun : goal.copy_blocks-requires-clause-begun
copy_blocks-requires-clause-begun g c = let b = c.in-Ok.ensures.begun in
    (b.0, begun_as c.args.target.now.layout c.copy_replies.new.target.layout c.args.replica.now c.copy_replies.new.replica b.0 c.copy_replies.new.target c.in-Ok.ensures.grid.layout_is c.in-Ok.ensures.leaves.kept b.2)

pub returns-in-Ok-clause-begun : goal.returns-in-Ok-clause-begun
returns-in-Ok-clause-begun g c = let b = c.in-Ok.ensures.begun in let l : Layout = c.copy_replies.new.target.layout in
    let q : State = c.copy_replies.new.replica in
    both c.args.target.now.layout l c.args.replica.now q c.copy_blocks.new.target (g.A.Disk.told c.copy_replies.new.from)
    (g.B.Disk.told c.copy_replies.new.to) (g.B.Disk.told c.copy_blocks.new.to) b.0 c.copy_blocks.result c.in-Ok.ensures.grid.layout_is
    c.in-Ok.ensures.leaves.kept b.1 (c.copy_blocks.ensures.copies b.0 (begun_as c.args.target.now.layout
    l c.args.replica.now q b.0 c.copy_replies.new.target c.in-Ok.ensures.grid.layout_is c.in-Ok.ensures.leaves.kept b.2))

pub returns-in-Ok-clause-copies : goal.returns-in-Ok-clause-copies
returns-in-Ok-clause-copies g c = λ apart.
    units_join c.args.replica.now c.copy_replies.new.replica c.args.target.now c.copy_replies.new.target
    c.copy_blocks.new.target (g.A.Disk.told c.args.from.now) (g.A.Disk.told c.copy_replies.new.from) (g.B.Disk.told c.args.to.now)
    (g.B.Disk.told c.copy_replies.new.to) (g.B.Disk.told c.copy_blocks.new.to) c.in-Ok.field-0 c.copy_blocks.result c.in-Ok.ensures.leaves.kept c.in-Ok.ensures.leaves.same c.in-Ok.ensures.grid c.requires.begun (c.in-Ok.ensures.copies apart) c.copy_blocks.ensures.copies

pub returns-in-Err-clause-copies : goal.returns-in-Err-clause-copies
returns-in-Err-clause-copies g c = λ apart.
    units_stop (Unit {0}) c.args.replica.now c.args.target.now c.copy_replies.new.target (g.A.Disk.told c.args.from.now)
    (g.B.Disk.told c.args.to.now) c.copy_replies.new.target.checks (g.B.Disk.told c.copy_replies.new.to) c.in-Err.ending
    (c.in-Err.ensures.copies apart)

pub returns-in-Ok-clause-leaves : goal.returns-in-Ok-clause-leaves
returns-in-Ok-clause-leaves g c = leaves_then c.in-Ok.ensures.leaves c.copy_blocks.ensures.leaves

pub copy_blocks-requires-clause-room : goal.copy_blocks-requires-clause-room
copy_blocks-requires-clause-room g c = rw (sym c.in-Ok.ensures.grid.layout_is) at (rw (sym c.in-Ok.ensures.leaves.kept) at c.requires.room)
