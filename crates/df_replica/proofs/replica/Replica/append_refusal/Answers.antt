-- The refusal is the machine's, by the client's session, and after it by what is staged.
use Rattle.std.{proofs.Common.{◌≡◌, ℕ, nat_lt, [], ◌∷◌, length, map, ◌∙◌, sym, ap}, specs.{Prelude.{option_map}, List.{position}}}
use Rattle.{df_sessions.specs.{Requests.{session_of}, Table.{has_client}}, df_opening.specs.Below.{State, memory}}
use Rattle.df_model.{specs.Refusals.{first_refusal, is_staged, request_refusals, session_of_client}, proofs.Laws.{behind_decides, first_refuses}}
use Rattle.df_model.specs.declared.errors.AppendError.TheVariants as append
use Rattle.df_replica.proofs.AppendTests.{session_found, small_session, each_small}
use Rattle.df_replica.proofs.replica.Replica.append_refusal.Goals as goal

pub request_refusal-requires-clause-last : goal.request_refusal-requires-clause-last
request_refusal-requires-clause-last c =
    each_small c.session_of-last.result (λ s is. small_session c.self.inside.parts.sessions.sessions (position (has_client c.args.client)
    c.self.inside.parts.sessions.sessions) s c.self.invariant.state.requests (sym c.session_of-last.ensures ∙ is))

pub returns-in-Some-clause-why : goal.returns-in-Some-clause-why
returns-in-Some-clause-why c = λ body size. let m = memory c.args.self.now in
    let there : session_of_client c.args.client m.sessions ≡ option_map session_of c.session_of-last.result =
    ap (λ (t : State). session_of_client c.args.client (map session_of t.table.sessions)) (sym c.self.view_is)
    ∙ session_found c.args.client c.self.inside.parts.sessions.sessions ∙ ap (option_map session_of) (sym c.session_of-last.ensures) in
    sym (first_refuses (request_refusals m c.args.client c.args.request body)
    ((is_staged m, append.Staged (length m.staged)) ∷ []) c.in-Some.error (sym (c.in-Some.ensures m body c.counters.ensures there size)))

pub returns-in-None-clause-why : goal.returns-in-None-clause-why
returns-in-None-clause-why c = λ body size. let m = memory c.args.self.now in
    let there : session_of_client c.args.client m.sessions ≡ option_map session_of c.session_of-last.result =
    ap (λ (t : State). session_of_client c.args.client (map session_of t.table.sessions)) (sym c.self.view_is)
    ∙ session_found c.args.client c.self.inside.parts.sessions.sessions ∙ ap (option_map session_of) (sym c.session_of-last.ensures) in
    let count : c.len.result ≡ length m.staged = c.len.ensures.count ∙ ap (λ (t : State). length t.staged) c.self.view_is in
    c.staged_refusal.ensures ∙ ap (λ (n : ℕ). first_refusal ((nat_lt 0 n, append.Staged n) ∷ [])) count
    ∙ sym (behind_decides (request_refusals m c.args.client c.args.request body)
    ((is_staged m, append.Staged (length m.staged)) ∷ []) (sym (c.in-None.ensures m body c.counters.ensures there size)))
