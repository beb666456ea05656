-- The rows of the body, one by one: a body whose length isn't that of whole rows has none, and the first row that isn't taken refuses it.
use Rattle.std.proofs.{Common.{◌≡◌, ℕ, ◌+◌, ◌-◌, ◌*◌, List, [], length, take, drop, sym, subst, ◌∙◌, arith}, lemmas.Bool.{false≢true}, lemmas.List.{drop_all, length-drop, length-take}}
use Rattle.df_rows.{specs.{Tables.{Table}, Blocks.{TableTakes}}, proofs.Taken.{Carries, carries_more, refused_first, row_cut, taken_none, whole_rows}}
use Rattle.df_rows.proofs.table.ObjectTable.with_block.Goals as goal

pub returns-then-not-is_multiple_of-clause-none : goal.returns-then-not-is_multiple_of-clause-none
returns-then-not-is_multiple_of-clause-none c = λ entries takes. false≢true
    (sym c.if-not-is_multiple_of.true ∙ c.is_multiple_of.ensures.1 (omega (arith, whole_rows c.args.self c.args.body.now entries takes)))

pub returns-then-not-take_row-clause-none : goal.returns-then-not-take_row-clause-none
returns-then-not-take_row-clause-none c = let rest = drop (64 * c.loop-k.k) c.args.body.now in
    let row = take (64 * (c.loop-k.k + 1) - 64 * c.loop-k.k) rest in
    let size : length row ≡ 64 = omega (arith, length-take (64 * (c.loop-k.k + 1) - 64 * c.loop-k.k) rest, length-drop (64 * c.loop-k.k) c.args.body.now, c.loop-k-test.true) in
    c.loop-k.invariant.none (λ more takes.
    refused_first c.loop-k.self row (drop (64 * (c.loop-k.k + 1)) c.args.body.now) more size c.if-not-take_row.ensures.refused
    (rw (row_cut c.args.body.now c.loop-k.k) at takes))

pub loop-k-preserved : goal.loop-k-preserved
loop-k-preserved c = let took = c.if-not-take_row.ensures.taken in
    let row = take (64 * (c.loop-k.k + 1) - 64 * c.loop-k.k) (drop (64 * c.loop-k.k) c.args.body.now) in
    let behind = drop (64 * (c.loop-k.k + 1)) c.args.body.now in
    subst (λ (x : Table). Carries c.args.self x c.args.body.now behind) (sym took.4)
    (carries_more c.args.self c.loop-k.self c.args.body.now row behind took.0 took.1 took.2 took.3
    (rw (row_cut c.args.body.now c.loop-k.k) at c.loop-k.invariant))

pub returns-clause-taken : goal.returns-clause-taken
returns-clause-taken c = let nothing : drop (64 * c.loop-k.k) c.args.body.now ≡ [] =
    drop_all (64 * c.loop-k.k) c.args.body.now (omega (arith, c.is_multiple_of.ensures.0 c.if-not-is_multiple_of.false, c.loop-k-test.false)) in
    c.loop-k.invariant.whole [] (rw (sym nothing) at (taken_none c.loop-k.self))
