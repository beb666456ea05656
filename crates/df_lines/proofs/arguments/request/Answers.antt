-- Each refusal has its cause.
use Rattle.{std.proofs.Common.{arith}, df_lines.proofs.WordsBehind.{client_first, no_number, number_word, request_next}}
use Rattle.df_lines.proofs.arguments.request.Goals as goal

pub returns-in_err-client-clause-none : goal.returns-in_err-client-clause-none
returns-in_err-client-clause-none c = rw c.from_residual.ensures (λ client request body are.
    no_number _ client _ (client_first _ client request body are) c.in_err-client.ensures.none)

pub returns-in_err-client-2-clause-none : goal.returns-in_err-client-2-clause-none
returns-in_err-client-2-clause-none c = rw c.from_residual-in_err-client-2.ensures (λ client request body are.
    c.in_err-client-2.ensures.none
    client are.fits.0 (number_word _ _ _ client _ (client_first _ client request body are) c.in_ok-client.ensures.found).0)

pub returns-in_err-request-clause-none : goal.returns-in_err-request-clause-none
returns-in_err-request-clause-none c = rw c.from_residual-in_err-request.ensures (λ client request body are.
    c.in_err-request.ensures.none request body (request_next _ _ _ _ client request body (omega arith) c.in_ok-client.ensures.found are))
