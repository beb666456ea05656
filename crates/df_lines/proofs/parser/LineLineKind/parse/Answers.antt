-- A line that the case of its first word refuses says nothing.
use Rattle.std.proofs.{Common.{codes, rules, arith}, lemmas.Slice.Eq.{text_from_reads}}
use Rattle.df_lines.proofs.{Meanings.{only}, WordsBehind.{appended, blocked, replied, rooted, staged}}
use Rattle.df_lines.proofs.parser.LineLineKind.parse.Goals as goal

pub returns-in_err-client-in-append-clause-none : goal.returns-in_err-client-in-append-clause-none
returns-in_err-client-in-append-clause-none c =
    rw c.from_residual-in_err-client-in-append.ensures (only _ _ _ (codes "append") c.in-Some.ensures.found (search (rules, text_from_reads)) (λ client request body says. c.in_err-client-in-append.ensures.none client request body (appended _ client request body says)))

pub returns-in_err-client-in-stage-clause-none : goal.returns-in_err-client-in-stage-clause-none
returns-in_err-client-in-stage-clause-none c =
    rw c.from_residual.ensures (only _ _ _ (codes "stage") c.in-Some.ensures.found (search (rules, text_from_reads))
    (λ client request body says. c.in_err-client-in-stage.ensures.none client request body (staged _ client request body says)))

pub returns-in_err-op-in-reply-clause-none : goal.returns-in_err-op-in-reply-clause-none
returns-in_err-op-in-reply-clause-none c =
    rw c.from_residual-in_err-op-in-reply.ensures (only _ _ _ (codes "reply") c.in-Some.ensures.found (search (rules, text_from_reads))
    (λ op second body says. c.in_err-op-in-reply.ensures.none op body (replied _ _ op body (omega arith) says)))

pub returns-in_err-kind-in-block-clause-none : goal.returns-in_err-kind-in-block-clause-none
returns-in_err-kind-in-block-clause-none c =
    rw c.from_residual-in_err-kind-in-block.ensures (only _ _ _ (codes "block") c.in-Some.ensures.found (search (rules, text_from_reads))
    (λ kind second body says. c.in_err-kind-in-block.ensures.none kind body (blocked _ _ kind body (omega arith) says)))

pub returns-in_err-decode-in-checkpoint-clause-none : goal.returns-in_err-decode-in-checkpoint-clause-none
returns-in_err-decode-in-checkpoint-clause-none c =
    rw c.from_residual-in_err-decode-in-checkpoint.ensures (only _ _ _ (codes "checkpoint") c.in-Some.ensures.found
    (search (rules, text_from_reads)) (λ first second body says. c.in_err-decode-in-checkpoint.ensures.none body (rooted _ body says)))
