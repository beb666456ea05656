-- One part of the report after the other.
use Rattle.{std.proofs.Common.{refl}, df_inspect.proofs.Written.{prints_front, prints_more}}
use Rattle.df_inspect.proofs.inspection.print_inspection.Goals as goal

pub returns-in_err-print_summary-clause-prints : goal.returns-in_err-print_summary-clause-prints
returns-in_err-print_summary-clause-prints g c =
    prints_front _ _ _ _ _ _ c.from_residual.ensures.0 refl c.in_err-print_summary.ensures.prints.part

pub returns-in_err-print_root-clause-prints : goal.returns-in_err-print_root-clause-prints
returns-in_err-print_root-clause-prints g c = prints_more _ _ _ _ _ _ c.in_ok-print_summary.ensures.prints.whole
    (prints_front _ _ _ _ _ _ c.from_residual-in_err-print_root.ensures.0 refl c.in_err-print_root.ensures.prints.part)

pub returns-in_err-print_sessions-clause-prints : goal.returns-in_err-print_sessions-clause-prints
returns-in_err-print_sessions-clause-prints g c = prints_more _ _ _ _ _ _ c.in_ok-print_summary.ensures.prints.whole
    (prints_more _ _ _ _ _ _ c.in_ok-print_root.ensures.prints.whole
    (prints_front _ _ _ _ _ _ c.from_residual-in_err-print_sessions.ensures.0 refl c.in_err-print_sessions.ensures.prints.part))

pub returns-in_err-print_mends-clause-prints : goal.returns-in_err-print_mends-clause-prints
returns-in_err-print_mends-clause-prints g c = prints_more _ _ _ _ _ _ c.in_ok-print_summary.ensures.prints.whole
    (prints_more _ _ _ _ _ _ c.in_ok-print_root.ensures.prints.whole (prints_more _ _ _ _ _ _ c.in_ok-print_sessions.ensures.prints.whole
    (prints_front _ _ _ _ _ _ c.from_residual-in_err-print_mends.ensures.0 refl c.in_err-print_mends.ensures.prints.part)))

pub returns-clause-prints : goal.returns-clause-prints
returns-clause-prints g c = prints_more _ _ _ _ _ _ c.in_ok-print_summary.ensures.prints.whole
    (prints_more _ _ _ _ _ _ c.in_ok-print_root.ensures.prints.whole (prints_more _ _ _ _ _ _ c.in_ok-print_sessions.ensures.prints.whole
    (prints_more _ _ _ _ _ _ c.in_ok-print_mends.ensures.prints.whole c.print_findings_count.ensures.prints)))
