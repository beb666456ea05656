-- The client's session is the machine's.
use Rattle.{std.proofs.Common.{◌≡◌, Some, sym, subst, ◌∙◌}, df_sessions.proofs.Laws.{no_gap}}
use Rattle.df_model.specs.{Refusals.{first_refusal, lookup_refusals}, declared.reading.LookupError.TheVariants.{NoClient, ReplyPending}}
use Rattle.df_opening.specs.Below.{State, memory, state_in}
use Rattle.df_replica.{specs.Lookups.{IsStoredFor}, proofs.LookupSessions.{is_stored, no_client, pending}}
use Rattle.df_replica.proofs.replica.Replica.stored_for.Goals as goal

pub returns-in_default-clause-refused : goal.returns-in_default-clause-refused
returns-in_default-clause-refused c = subst (λ (s : State). first_refusal (lookup_refusals (memory s) c.args.client)
    ≡ Some NoClient) c.self.view_is (no_client (state_in c.self.inside.parts) c.args.client (sym c.place_of.ensures ∙ c.in_default.is))

pub unreachable-requires : goal.unreachable-requires
unreachable-requires c = no_gap c.args.client
    c.self.inside.parts.sessions.sessions c.in-Some.place (sym c.place_of.ensures ∙ c.in-Some.is) (sym c.get.ensures ∙ c.in_default-get.is)

pub returns-then-self-session-clause-refused : goal.returns-then-self-session-clause-refused
returns-then-self-session-clause-refused c =
    subst (λ (s : State). first_refusal (lookup_refusals (memory s) c.args.client) ≡ Some (ReplyPending c.in-Some-get.session.op)) c.self.view_is
    (pending (state_in c.self.inside.parts) c.args.client c.in-Some.place
    c.in-Some-get.session (sym c.place_of.ensures ∙ c.in-Some.is) (sym c.get.ensures ∙ c.in-Some-get.is) c.if-self-session.true)

pub returns-clause-stored : goal.returns-clause-stored
returns-clause-stored c =
    subst (λ (s : State). IsStoredFor s c.args.client (record { place = c.in-Some.place; reply = c.in-Some-get.session.reply })) c.self.view_is
    (is_stored (state_in c.self.inside.parts) c.args.client c.in-Some.place c.in-Some-get.session (sym c.place_of.ensures
    ∙ c.in-Some.is) (sym c.get.ensures ∙ c.in-Some-get.is) c.self.invariant.state c.len-count.ensures.table c.if-self-session.false)
