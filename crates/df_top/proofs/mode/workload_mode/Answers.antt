-- Where a number is missing, or the count is out of its range, the words have no meaning.
use Rattle.{std.proofs.{Common.{arith, ◌∙◌}, lemmas.Bool.Decides.{nat_tests}}, df_top.proofs.Modes.{only_workload, out_of_range}}
use Rattle.df_top.proofs.mode.workload_mode.Goals as goal

pub returns-in_err-seed-clause-none : goal.returns-in_err-seed-clause-none
returns-in_err-seed-clause-none c =
    rw c.from_residual.ensures (only_workload c.args.seed.now c.args.count.now (λ s n is other fits some million.
    c.in_err-seed.ensures.none s fits (c.as_bytes.ensures.value ∙ is)))

pub returns-in_err-count-clause-none : goal.returns-in_err-count-clause-none
returns-in_err-count-clause-none c =
    rw c.from_residual-in_err-count.ensures (only_workload c.args.seed.now c.args.count.now (λ s n is other fits some million.
    c.in_err-count.ensures.none n (omega arith) (c.as_bytes-2.ensures.value ∙ other)))

pub returns-then-count-eq0-clause-none : goal.returns-then-count-eq0-clause-none
returns-then-count-eq0-clause-none c = only_workload c.args.seed.now c.args.count.now (λ s n is other fits some million.
    let same = out_of_range c.as_bytes-2.result.now
    c.in_ok-count.count n c.in_ok-count.ensures.found (c.as_bytes-2.ensures.value ∙ other) (omega arith) some million in
    grind (arith, nat_tests))
