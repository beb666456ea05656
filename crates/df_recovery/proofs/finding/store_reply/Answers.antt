-- The session gets the checksum of its reply.
use Rattle.std.{proofs.Common.{◌≡◌, ◌≤◌, List, Some, sym, ◌∙◌, ap}, specs.List.{slice_get}}
use Rattle.{df_sessions.specs.declared.session.Session.{Session}, df_recovery.proofs.KeptReplies.{reply_there, stored_now}}
use Rattle.df_recovery.proofs.finding.store_reply.Goals as goal

pub returns-then-session-stored-clause-stored : goal.returns-then-session-stored-clause-stored
returns-then-session-stored-clause-stored c = λ s at. let h = c.in-Some-Ok.header in
    let both : Some c.in-Some-Ok.session ≡ Some s = sym c.in-Some-Ok.is-0 ∙ c.get.ensures ∙ at in let one : c.in-Some-Ok.session ≡ s = cc in
    let le : s.op ≤ c.args.stored = rw one at c.if-session-stored.true in
    ap (λ (ss : List Session). slice_get ss c.args.place) c.store.ensures.sessions ∙ reply_there c.args.sessions.now.sessions
    c.args.place h.checksum s at ∙ ap (λ (x : Session). Some x) (sym (stored_now c.args.stored s h c.args.reply.now c.in-Some-Ok.is-1 le))
