-- Each turn mends the next block, if one is referenced at its address.
use Rattle.std.proofs.Common.{Err, Ok, ℕ, ◌∙◌, arith, subst, sym}
use Rattle.df_mirror.{specs.Walks.{ShowsBlocks}, proofs.{Referenced.{block_mended, block_none, none_yet}, Turns.{begins, comes_to, goes_on, passes, stops}}}
use Rattle.df_mirror.proofs.mending.mend_blocks.Goals as goal

pub loop-before-init : goal.loop-before-init
loop-before-init g c = begins c.requires.layout (none_yet c.args.base.now c.args.grid.now)

pub returns-in-Err-clause-mends : goal.returns-in-Err-clause-mends
returns-in-Err-clause-mends g c = λ ss t o tell has.
    stops c.loop-before.invariant c.in-Err.ending (λ refusal. absurd (c.in-Err.ensures.unrefused refusal))
    (λ xs m p on shows. block_mended c.args.base.now c.args.grid.now xs c.loop-before.before m p shows c.in-Some.checksum
    (sym (rw c.in-Some.is at c.live.ensures)) c.known_at-block.result c.known_at-block.ensures.identity c.known_at-block.ensures.check _
    _ on c.mend_unit.new.shelf.held (Err c.in-Err.ending) c.in-Err.ensures.mends tt) ss t o tell has _

pub returns-clause-mends : goal.returns-clause-mends
returns-clause-mends g c = comes_to c.loop-before.invariant
    (λ ss image shows. subst (λ (n : ℕ). ShowsBlocks c.args.base.now image c.args.grid.now ss n)
    (omega (arith, c.loop-before-test, c.loop-before.auto)) shows)

pub loop-before-preserved-in_default : goal.loop-before-preserved-in_default
loop-before-preserved-in_default g c = let i = c.loop-before.invariant in
    passes i (omega (arith, i.few)) (λ xs image shows. block_none c.args.base.now c.args.grid.now xs c.loop-before.before image shows
    (sym (rw c.in_default.is at c.live.ensures)))

pub loop-before-preserved : goal.loop-before-preserved
loop-before-preserved g c = let i = c.loop-before.invariant in let did = c.in-Ok.ensures in
    goes_on i did.same did.blamed (did.unit.0 ∙ i.room_is) (omega (arith, i.few, did.unit.2))
    (λ xs m p on shows. block_mended c.args.base.now c.args.grid.now xs c.loop-before.before m p shows c.in-Some.checksum
    (sym (rw c.in-Some.is at c.live.ensures)) c.known_at-block.result c.known_at-block.ensures.identity c.known_at-block.ensures.check _
    _ on c.mend_unit.new.shelf.held (Ok c.in-Ok.more) did.mends did.shown)
