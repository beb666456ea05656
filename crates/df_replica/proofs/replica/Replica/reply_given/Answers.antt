-- The parts are those of the next reply, which obeys the rules.
use Rattle.{std.proofs.Common.{◌≡◌, ◌<◌, ◌^◌, ◌∙◌, ℕ, IsSome, length, sym, ap, subst, arith}, df_sessions.specs.Table.{IsSessionTable}}
use Rattle.{df_layout.specs.declared.places.Zone.TheVariants.{ClientReplies}, df_opening.specs.Below.{IsState, State, state_in}}
use Rattle.df_format.specs.{declared.header.Header.{Header}, declared.superblock.SuperFields.{SuperFields}, Making.{for_body}, Own.{own_place}, Rules.{ObeysRules}, Spelling.{IsCheck}}
use Rattle.df_replica.{specs.Replying.{first_check, reply_given}, proofs.{ReplyGiven.{given_own, given_rules, header_is, place_small}, ReplyTests.{place_inside}}}
use Rattle.df_replica.proofs.replica.Replica.reply_given.Goals as goal

pub session_in-session-requires : goal.session_in-session-requires
session_in-session-requires c = let waits = subst (λ (s : State). s.replies < s.head) (sym c.self.view_is) c.requires.waits in
    subst (λ (n : ℕ).
    n < length c.self.inside.parts.sessions.sessions) (sym c.place_of_op-place.ensures.place) (place_inside _ c.self.invariant.state waits)

pub overflow_cast-result : goal.overflow_cast-result
overflow_cast-result c = let waits = subst (λ (s : State). s.replies < s.head) (sym c.self.view_is) c.requires.waits in
    omega (arith, c.place_of_op-place.ensures.place, place_small _ c.self.invariant.state c.place_of_op-place.ensures.table waits)

pub returns-clause-value : goal.returns-clause-value
returns-clause-value c = let s : State = state_in c.self.inside.parts in let same : s ≡ c.args.self.now = c.self.view_is in
    header_is s c.of.result c.first_waiting-parent.result c.client_of-client.result c.place_of_op-place.result
    c.fields.result.now.sequence c.fields-2.result.now.boot c.session_in-session.result c.of.ensures c.client_of-client.ensures.value
    (c.first_waiting-parent.ensures.value
    ∙ ap (λ (x : State). first_check x.waiting) (sym same)) c.place_of_op-place.ensures.place c.session_in-session.ensures
    (ap (λ (f : SuperFields). f.sequence) c.fields.ensures.value) (ap (λ (f : SuperFields). f.boot) c.fields-2.ensures.value)
    ∙ ap (λ (x : State). reply_given x) same

pub returns-clause-rules : goal.returns-clause-rules
returns-clause-rules c = let value = returns-clause-value c in let is = subst IsState c.self.view_is c.self.invariant.state in
    let table = subst IsSessionTable (ap (λ (s : State). s.table) c.self.view_is) c.place_of_op-place.ensures.table in
    let parent = subst IsCheck c.first_waiting-parent.ensures.value c.first_waiting-parent.ensures.check in
    let small = subst (λ (n : ℕ). n < 2 ^ 128) (ap (λ (h : Header). h.client) value) c.client_of-client.ensures.small in
    subst (λ (h : Header). ObeysRules (for_body h c.args.body.now))
    (sym value) (given_rules c.args.self.now is table c.requires.waits c.args.body.now c.requires parent small)

pub returns-clause-own : goal.returns-clause-own
returns-clause-own c = let is = subst IsState c.self.view_is c.self.invariant.state in
    let table = subst IsSessionTable (ap (λ (s : State). s.table) c.self.view_is) c.place_of_op-place.ensures.table in
    subst (λ (h : Header). IsSome (own_place c.args.self.now.file.layout ClientReplies h))
    (sym (returns-clause-value c)) (given_own c.args.self.now is table c.requires.waits)
