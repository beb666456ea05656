-- The sessions that were passed have their replies; the first one that lacks its reply does so in the theory's image, too.
use Rattle.std.{proofs.{Common.{◌≡◌, inl, inr, ℕ, ◌+◌, ◌<◌, ◌≤◌, List, Some, None, length, refl, sym, ◌∙◌, ap, subst, arith}, lemmas.Bool.{cases_lt}, lemmas.Option.{slice_get_read}}, specs.{Prelude.{Result}, List.{slice_get}}}
use Rattle.{df_layout.specs.declared.damage.Class.{Class}, df_sessions.specs.declared.session.Session.{Session}}
use Rattle.df_format.specs.declared.{header.Header.{Header}, superblock.SuperFields.{SuperFields}}
use Rattle.df_replies.{specs.Answers.{AnsweredTo, AnswersIn, IsFirstLacking, TestsStored}, proofs.Stored.{lacking_class, lacks_shown}}
use Rattle.df_replies.proofs.table.ReplyTable.first_lacking.Goals as goal

module _ (f : SuperFields)
    (ss : List Session) (n : ℕ) (replies : List (Result Header Class)) (place : ℕ) (s : Session) (reply : Result Header Class)
    (at : slice_get ss place ≡ Some s) (there : slice_get replies place ≡ Some reply) (before : AnsweredTo f ss n replies place) where
  first_at : (class : Class)
      → TestsStored f place s n reply (Some class) → IsFirstLacking f ss n replies (record { place = place; class = class })
  first_at class tests = record {
    session = s;
    at = at;
    stored = tests.0;
    reply = reply;
    there = there;
    lacks = tests.1;
    class = tests.2;
    first = before;
  }

  more_answered : TestsStored f place s n reply None → AnsweredTo f ss n replies (place + 1)
  more_answered tests j t less here stored = elim (cases_lt j place) [
    | inl earlier ↦ before j t earlier here stored
    | inr last ↦ let same : j ≡ place = omega arith in let one : Some t ≡ Some s = sym here ∙ ap (slice_get ss) same ∙ at in
        let own : t ≡ s = cc in let answers : AnswersIn f place s reply = tests (subst (λ (x : Session). x.op ≤ n) own stored) in
        let answered : AnswersIn f place t reply = subst (λ (x : Session). AnswersIn f place x reply) (sym own) answers in
        (reply, ap (slice_get replies) same ∙ there, subst (λ (k : ℕ). AnswersIn f k t reply) (sym same) answered)
  ]

-- the entry that is read is the table's
read_at : (items replies : List (Result Header Class)) (k : ℕ) (reply : Result Header Class) → items ≡ replies → slice_get items k ≡ Some reply
    → slice_get replies k ≡ Some reply
read_at items replies k reply same there = subst (λ (l : List (Result Header Class)). slice_get l k ≡ Some reply) same there

pub returns-in-Some-clause-lacks : goal.returns-in-Some-clause-lacks
returns-in-Some-clause-lacks c = λ image shows. let items = c.self.inside.replies.items in
    let within : c.loop-place.place < length items = omega
    (arith, c.loop-place-test.true, c.len.ensures.value, c.len.ensures.table.within, c.requires, ap length c.self.view_is) in
    let read = slice_get_read items (length items) c.loop-place.place c.index-reply.result.now refl within c.index-reply.ensures in
    lacks_shown c.args.fields.now image c.args.self.now c.args.sessions.now.sessions c.args.stored shows
    (Some (record { place = c.loop-place.place; class = c.in-Some.class }))
    (first_at c.args.fields.now c.args.sessions.now.sessions c.args.stored c.args.self.now c.loop-place.place c.in_ok-session.session
    c.index-reply.result.now (sym c.get.ensures ∙ c.in_ok-session.was)
    (read_at items c.args.self.now c.loop-place.place c.index-reply.result.now c.self.view_is read) c.loop-place.invariant
    c.in-Some.class c.in-Some.ensures)

pub returns-in-Some-clause-class : goal.returns-in-Some-clause-class
returns-in-Some-clause-class c = let items = c.self.inside.replies.items in let within : c.loop-place.place < length items = omega
    (arith, c.loop-place-test.true, c.len.ensures.value, c.len.ensures.table.within, c.requires, ap length c.self.view_is) in
    let read = slice_get_read items (length items) c.loop-place.place c.index-reply.result.now refl within c.index-reply.ensures in
    lacking_class c.args.fields.now c.args.sessions.now.sessions c.args.stored c.args.self.now
    (Some (record { place = c.loop-place.place; class = c.in-Some.class }))
    (first_at c.args.fields.now c.args.sessions.now.sessions c.args.stored c.args.self.now c.loop-place.place c.in_ok-session.session
    c.index-reply.result.now (sym c.get.ensures ∙ c.in_ok-session.was)
    (read_at items c.args.self.now c.loop-place.place c.index-reply.result.now c.self.view_is read) c.loop-place.invariant
    c.in-Some.class c.in-Some.ensures)

pub loop-place-preserved : goal.loop-place-preserved
loop-place-preserved c = let items = c.self.inside.replies.items in let within : c.loop-place.place < length items = omega
    (arith, c.loop-place-test.true, c.len.ensures.value, c.len.ensures.table.within, c.requires, ap length c.self.view_is) in
    let read = slice_get_read items (length items) c.loop-place.place c.index-reply.result.now refl within c.index-reply.ensures in
    more_answered c.args.fields.now c.args.sessions.now.sessions c.args.stored c.args.self.now c.loop-place.place c.in_ok-session.session
    c.index-reply.result.now (sym c.get.ensures ∙ c.in_ok-session.was)
    (read_at items c.args.self.now c.loop-place.place c.index-reply.result.now c.self.view_is read) c.loop-place.invariant
    c.in_default.ensures

pub returns-clause-lacks : goal.returns-clause-lacks
returns-clause-lacks c = λ image shows.
    lacks_shown c.args.fields.now image c.args.self.now c.args.sessions.now.sessions c.args.stored shows None
    (λ j s less. c.loop-place.invariant j s (omega (arith, less, c.loop-place-test.false, c.len.ensures.value)))
