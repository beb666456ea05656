-- A turn prints one item more.
use Rattle.std.proofs.Common.{refl, ◌∙◌, arith}
use Rattle.df_inspect.{proofs.{Written.{appends_none}, Each.{each_failed, each_printed}}, specs.Reports.{mend_text}}
use Rattle.df_inspect.proofs.inspection.print_mends.Goals as goal

pub loop-mend-init : goal.loop-mend-init
loop-mend-init g c = record { printed = appends_none _; quiet = refl }

pub returns-in_err-print_mend-clause-prints : goal.returns-in_err-print_mend-clause-prints
returns-in_err-print_mend-clause-prints g c = each_failed (λ place mend. mend_text mend) _ _ _ c.loop-mend.mend-index
    c.args.mends.now _ _ c.from_residual.ensures.0 (omega arith) c.loop-mend.invariant.printed c.in_err-print_mend.ensures.prints.part

pub loop-mend-preserved : goal.loop-mend-preserved
loop-mend-preserved g c = record {
  printed = each_printed (λ place mend. mend_text mend)
      _ _ _ c.loop-mend.mend-index c.args.mends.now _ (omega arith) c.loop-mend.invariant.printed c.in_ok-print_mend.ensures.prints.whole;
  quiet = c.in_ok-print_mend.ensures.cause.same ∙ c.loop-mend.invariant.quiet;
}
