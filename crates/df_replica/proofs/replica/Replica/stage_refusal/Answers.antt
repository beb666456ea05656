-- The refusal is the machine's, by the client's session as if what is staged were appended.
use Rattle.{std.{proofs.Common.{◌≡◌, ℕ, ◌∙◌, ap, subst}, specs.Prelude.{option_map}}, df_sessions.specs.Requests.{session_of}}
use Rattle.{df_model.specs.Refusals.{counted_staged, session_of_client}, df_opening.specs.Below.{State, memory, state_in}}
use Rattle.df_replica.{specs.Flushing.{sessions_staged}, proofs.StageTests.{all_staged}}
use Rattle.df_replica.proofs.replica.Replica.stage_refusal.Goals as goal

pub session_staged-last-requires-clause-requests : goal.session_staged-last-requires-clause-requests
session_staged-last-requires-clause-requests c = λ i r at. (c.self.invariant.state.staging.each i r at).request.1

pub returns-clause-why : goal.returns-clause-why
returns-clause-why c = λ body size. let s : State = state_in c.self.inside.parts in
    let last = subst (λ (n : ℕ). session_of_client c.args.client (sessions_staged s.table.sessions s.staged s.head n)
    ≡ option_map session_of c.session_staged-last.result) c.len.ensures.count c.session_staged-last.ensures.session in
    c.request_refusal.ensures (counted_staged (memory c.args.self.now)) body c.staged_counters.ensures
    (subst (λ (t : State). session_of_client c.args.client (counted_staged (memory t)).sessions
    ≡ option_map session_of c.session_staged-last.result) c.self.view_is (ap (session_of_client c.args.client) (all_staged s) ∙ last)) size
