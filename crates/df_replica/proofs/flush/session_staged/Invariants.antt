-- The session is that after the requests before the index.
use Rattle.{std.{proofs.Common.{◌≡◌, ◌≤◌, ◌-◌, ◌^◌}, specs.Prelude.{IfSome, option_map}}, df_sessions.specs.Requests.{session_of}}
use Rattle.{df_model.specs.Refusals.{session_of_client}, df_replica.specs.Flushing.{sessions_staged}}
use Rattle.df_replica.proofs.flush.session_staged.Given as goal

abbrev pub invariant-loop-i : goal.invariant-loop-i
invariant-loop-i l = record {
  within : l.i ≤ l.count;
  session : session_of_client l.client (sessions_staged l.table.sessions l.staging.requests l.head l.i) ≡ option_map session_of l.last;
  numbered : IfSome l.last (λ s. s.request ≤ 2 ^ 62);
}

abbrev pub decreases-loop-i : goal.decreases-loop-i
decreases-loop-i l = l.count - l.i
