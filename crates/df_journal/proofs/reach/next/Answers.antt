-- What is shown is a unit, so its fields are in range.
use Rattle.{std.proofs.Common.{◌+◌, ◌%◌, ◌<◌, ℕ, ap, arith, sym}, df_group.proofs.Laws.{asks_within}}
use Rattle.df_journal.proofs.Decisions.{not_taken, shown_unit, slot_checks, taken_check, taken_client, taken_group, taken_op, taken_request}
use Rattle.df_journal.proofs.reach.next.Goals as goal

pub taken-requires : goal.taken-requires
taken-requires c = slot_checks
    c.args.layout.now c.args.found.now.start.cluster _ c.args.found.now.slots c.seen-seen.result c.requires.table c.seen-seen.ensures

pub goes_on-requires-clause-group : goal.goes_on-requires-clause-group
goes_on-requires-clause-group c =
    taken_group c.args.layout.now c.args.found.now.start.cluster _ c.in_ok-header.header (shown_unit c.args.layout.now c.args.found.now.start.cluster _ c.args.found.now.slots c.seen-seen.result c.in_ok-header.header c.requires.table c.seen-seen.ensures c.in_ok-header.ensures.shown)

pub returns-in_err-header-clause-next : goal.returns-in_err-header-clause-next
returns-in_err-header-clause-next c = rw c.from_residual.ensures (λ h next.
    not_taken c.args.start.now (c.args.at.now.last.op + 1) c.args.found.now.slots
    ((c.args.at.now.last.op + 1) % c.from.result) ((c.args.at.now.last.op + 1) % c.args.layout.now.slots) c.seen-seen.result next.seen h
    (ap (λ (n : ℕ). (c.args.at.now.last.op + 1) % n) c.from.ensures) c.seen-seen.ensures next.there c.in_err-header.ensures next.taken)

pub returns-then-goes_on-clause-sound : goal.returns-then-goes_on-clause-sound
returns-then-goes_on-clause-sound c = let there = shown_unit c.args.layout.now c.args.found.now.start.cluster
    _ c.args.found.now.slots c.seen-seen.result c.in_ok-header.header c.requires.table c.seen-seen.ensures c.in_ok-header.ensures.shown in
    let fits = (c.goes_on.ensures.0 c.if-goes_on.true).0 in let client : 0 < c.in_ok-header.header.client =
    taken_client c.args.layout.now c.args.found.now.start.cluster _ c.in_ok-header.header there in record {
      client = λ none. omega (arith, client, none);
      room = asks_within c.args.layout.now.clients
          c.args.sessions.now.max c.in_ok-header.header c.args.sessions.now.sessions (sym c.requires.places) fits.asks;
      checksum = taken_check c.args.layout.now c.args.found.now.start.cluster _ c.in_ok-header.header there;
      request = taken_request c.args.layout.now c.args.found.now.start.cluster _ c.in_ok-header.header there;
      op = taken_op c.args.layout.now c.args.found.now.start.cluster _ c.in_ok-header.header there;
    }
