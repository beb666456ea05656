-- The client's session decides, or its first request and a place.
use Rattle.std.proofs.{Common.{◌<◌, ◌≤◌, length, sym, ◌∙◌, arith}, lemmas.Bool.{eqb-true, ltb-true, lt-ltb, leb-true, le-leb}}
use Rattle.{df_sessions.proofs.Laws.{no_gap}, df_group.proofs.Asks.{asks_known, asks_new}}
use Rattle.df_group.proofs.groups.may_ask.Goals as goal

pub returns-then-saturating_sub-eq1 : goal.returns-then-saturating_sub-eq1
returns-then-saturating_sub-eq1 c =
    let fits : length c.args.sessions.now.sessions ≤ c.args.clients = omega (arith, c.len-count.ensures.table.within, c.requires.places) in
    let own = asks_known c.args.clients c.args.header.now c.args.sessions.now.sessions c.in-Some.place c.in-Some-get.session fits
    (sym c.place_of.ensures ∙ c.in-Some.is) (sym c.get.ensures ∙ c.in-Some-get.is) in (
      λ yes. own.1 (
        omega (arith, c.if-saturating_sub-eq1.true, c.saturating_sub.ensures),
        leb-true c.in-Some-get.session.op c.args.header.now.mark yes,
      ),
      λ asks. le-leb c.in-Some-get.session.op c.args.header.now.mark (own.0 asks).1,
    )

pub returns-else-saturating_sub-eq1 : goal.returns-else-saturating_sub-eq1
returns-else-saturating_sub-eq1 c =
    let fits : length c.args.sessions.now.sessions ≤ c.args.clients = omega (arith, c.len-count.ensures.table.within, c.requires.places) in
    let own = asks_known c.args.clients c.args.header.now c.args.sessions.now.sessions c.in-Some.place c.in-Some-get.session fits
    (sym c.place_of.ensures ∙ c.in-Some.is) (sym c.get.ensures ∙ c.in-Some-get.is) in (
      λ yes. absurd (c.if-saturating_sub-eq1.false (eqb-true c.saturating_sub.result 1 yes)),
      λ asks. absurd (c.if-saturating_sub-eq1.false (omega (arith, (own.0 asks).0, c.saturating_sub.ensures))),
    )

pub returns-in-None-get : goal.returns-in-None-get
returns-in-None-get c = absurd (no_gap c.args.header.now.client
    c.args.sessions.now.sessions c.in-Some.place (sym c.place_of.ensures ∙ c.in-Some.is) (sym c.get.ensures ∙ c.in-None-get.is))

pub returns-then-header-eq1 : goal.returns-then-header-eq1
returns-then-header-eq1 c =
    let own = asks_new c.args.clients c.args.header.now c.args.sessions.now.sessions (sym c.place_of.ensures ∙ c.in-None.is) in (
      λ yes. own.1 (c.if-header-eq1.true, (let less : c.len-count.result < c.from.result = ltb-true c.len-count.result c.from.result yes in omega (arith, less, c.len-count.ensures.value, c.from.ensures))),
      λ asks. lt-ltb c.len-count.result c.from.result (omega (arith, (own.0 asks).1, c.len-count.ensures.value, c.from.ensures)),
    )

pub returns-else-header-eq1 : goal.returns-else-header-eq1
returns-else-header-eq1 c =
    let own = asks_new c.args.clients c.args.header.now c.args.sessions.now.sessions (sym c.place_of.ensures ∙ c.in-None.is) in
    (λ yes. absurd (c.if-header-eq1.false (eqb-true c.args.header.now.request 1 yes)), λ asks. absurd (c.if-header-eq1.false (own.0 asks).0))
