-- The count, the findings and the end of the line.
use Rattle.{std.proofs.Common.{refl}, df_inspect.proofs.{Each.{recent_is}, Written.{prints_front, prints_more, prints_of, prints_same}}}
use Rattle.df_inspect.proofs.findings.print_recent.Goals as goal

pub returns-in_err-print_count-clause-prints : goal.returns-in_err-print_count-clause-prints
returns-in_err-print_count-clause-prints g c = prints_same _ _
    _ _ _ (recent_is c.args.findings.now) (prints_front _ _ _ _ _ _ c.from_residual.ensures.0 refl c.in_err-print_count.ensures.prints.part)

pub returns-in_err-print_findings-clause-prints : goal.returns-in_err-print_findings-clause-prints
returns-in_err-print_findings-clause-prints g c =
    prints_same _ _ _ _ _ (recent_is c.args.findings.now) (prints_more _ _ _ _ _ _ c.in_ok-print_count.ensures.prints.whole
    (prints_front _ _ _ _ _ _ c.from_residual-in_err-print_findings.ensures.0 refl c.in_err-print_findings.ensures.prints.part))

pub returns-clause-prints : goal.returns-clause-prints
returns-clause-prints g c =
    prints_same _ _ _ _ _ (recent_is c.args.findings.now) (prints_more _ _ _ _ _ _ c.in_ok-print_count.ensures.prints.whole
    (prints_more _ _ _ _ _ _ c.in_ok-print_findings.ensures.prints.whole (prints_of _ _ _ _ c.write.ensures.whole c.write.ensures.part)))
