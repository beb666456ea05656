-- Once all places were passed, all are filled.
use Rattle.std.{proofs.{Common.{[], rules}, lemmas.List.FromFn.{fill_by_all}}, specs.List.{slice_get}}
use Rattle.df_rooms.specs.Recorded.{stored_check, stored_checks}
use Rattle.df_rooms.proofs.recorded.stored_checks.Goals as goal

pub returns : goal.returns
unfolding stored_checks
returns c = fill_by_all (λ k.
    stored_check (slice_get c.args.sessions.now.sessions k)) c.loop-place.checks 64 [] c.loop-place.invariant.0 (search rules)
