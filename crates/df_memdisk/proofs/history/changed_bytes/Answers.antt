-- The last change in the front up to the index is either of the sector, or an earlier one is the sector's last.
use Rattle.std.proofs.{Common.{◌≡◌, ◌==◌, ◌-◌, sym, ◌∙◌, arith, [], get_or, true, false}, lemmas.Bool.Decides.{nat_tests}}
use Rattle.df_memdisk.proofs.Past.{last_change-take}
use Rattle.df_memdisk.proofs.history.changed_bytes.Goals as goal

pub returns-then-changes-index-clause-bytes : goal.returns-then-changes-index-clause-bytes
returns-then-changes-index-clause-bytes c = let step =
    last_change-take c.args.changes.now c.loop-index.index record { sector = 0; bytes = [] } c.args.sector (omega arith) (omega arith) in
    let same : (c.args.sector == (get_or c.args.changes.now (c.loop-index.index - 1) record { sector = 0; bytes = [] }).sector) ≡ true =
    grind (arith, nat_tests) in let here = rw same at step in sym here ∙ c.loop-index.invariant

pub loop-index-preserved : goal.loop-index-preserved
loop-index-preserved c = let step =
    last_change-take c.args.changes.now c.loop-index.index record { sector = 0; bytes = [] } c.args.sector (omega arith) (omega arith) in
    let other : (c.args.sector == (get_or c.args.changes.now (c.loop-index.index - 1) record { sector = 0; bytes = [] }).sector) ≡ false =
    grind (arith, nat_tests) in let earlier = rw other at step in sym earlier ∙ c.loop-index.invariant
