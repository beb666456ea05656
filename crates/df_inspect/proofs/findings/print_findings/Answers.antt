-- A turn prints one item more.
use Rattle.std.proofs.Common.{refl, ◌∙◌, arith}
use Rattle.df_inspect.{proofs.{Written.{appends_none}, Each.{each_failed, each_printed}}, specs.Reports.{finding_text}}
use Rattle.df_inspect.proofs.findings.print_findings.Goals as goal

pub loop-finding-init : goal.loop-finding-init
loop-finding-init g c = record { printed = appends_none _; quiet = refl }

pub returns-in_err-print_finding-clause-prints : goal.returns-in_err-print_finding-clause-prints
returns-in_err-print_finding-clause-prints g c = each_failed (λ place f. finding_text f) _ _ _ c.loop-finding.finding-index c.args.findings.now _ _ c.from_residual.ensures.0 (omega arith) c.loop-finding.invariant.printed c.in_err-print_finding.ensures.prints.part

pub loop-finding-preserved : goal.loop-finding-preserved
loop-finding-preserved g c = record {
  printed = each_printed (λ place f. finding_text f) _ _ _ c.loop-finding.finding-index
      c.args.findings.now _ (omega arith) c.loop-finding.invariant.printed c.in_ok-print_finding.ensures.prints.whole;
  quiet = c.in_ok-print_finding.ensures.cause.same ∙ c.loop-finding.invariant.quiet;
}
