-- A turn prints one item more.
use Rattle.std.proofs.Common.{refl, ◌∙◌, arith}
use Rattle.df_inspect.{proofs.{Written.{appends_none}, Each.{each_failed, each_printed}}, specs.Reports.{session_text}}
use Rattle.df_inspect.proofs.inspection.print_sessions.Goals as goal

pub loop-place-init : goal.loop-place-init
loop-place-init g c = record { printed = appends_none _; quiet = refl }

pub returns-in_err-print_session-clause-prints : goal.returns-in_err-print_session-clause-prints
returns-in_err-print_session-clause-prints g c = each_failed (session_text) _ _ _ c.loop-place.place c.args.sessions.now
    _ _ c.from_residual.ensures.0 (omega arith) c.loop-place.invariant.printed c.in_err-print_session.ensures.prints.part

pub loop-place-preserved : goal.loop-place-preserved
loop-place-preserved g c = record {
  printed = each_printed (session_text) _
      _ _ c.loop-place.place c.args.sessions.now _ (omega arith) c.loop-place.invariant.printed c.in_ok-print_session.ensures.prints.whole;
  quiet = c.in_ok-print_session.ensures.cause.same ∙ c.loop-place.invariant.quiet;
}
