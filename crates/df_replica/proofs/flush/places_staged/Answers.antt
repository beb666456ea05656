-- A request of a client that has no session yet takes one place more.
use Rattle.{std.proofs.Common.{◌≡◌, ◌<◌, ◌+◌, List, length, refl, ap, arith}, df_opening.specs.Below.{asker_of}}
use Rattle.df_theory.specs.{Sessions.{noted}, Units.{Session}}
use Rattle.df_replica.{specs.Flushing.{sessions_staged}, proofs.{StageTests.{count_one, request_at, staged_more}, flush.places_staged.Goals.{then-is_none, else-is_none}}}
use Rattle.df_replica.proofs.flush.places_staged.Goals as goal

pub overflow_add-taken : goal.overflow_add-taken
overflow_add-taken c = record { fits = omega (arith, c.loop-i.invariant.few, c.loop-i.invariant.within, c.requires.ops) }

pub loop-i-preserved : goal.loop-i-preserved
loop-i-preserved c = let rs = c.args.staging.now.requests in let ss = c.args.table.now.sessions in
    let at : c.loop-i.i < length rs = omega (arith, c.loop-i-test.true, c.len.ensures.count) in let r = request_at rs c.loop-i.i at in
    let op = c.args.head + (c.loop-i.i + 1) in
    let more : length (sessions_staged ss rs c.args.head (c.loop-i.i + 1))
    ≡ length (noted (asker_of 0 op r.0) (sessions_staged ss rs c.args.head c.loop-i.i)) =
    ap (λ (x : List Session). length x) (staged_more ss rs c.args.head c.loop-i.i (c.loop-i.i + 1) op r.0 r.1 refl refl) in
    let one = count_one op c.request-client.result.0 r.0 (sessions_staged ss rs c.args.head c.loop-i.i)
    c.session_staged.result (c.request-client.ensures r.0 r.1).0 c.session_staged.ensures.session in elim c.if-is_none.branch [
      | then-is_none w ↦ let new = one.0 w.if-is_none.ensures in
          record { within = omega (arith, at); few = omega (arith, w.taken-is, c.loop-i.invariant.few); count = omega (arith, w.taken-is, c.loop-i.invariant.count, more, new) }
      | else-is_none w ↦ let known = one.1 w.if-is_none.ensures in
          record { within = omega (arith, at); few = omega (arith, w.taken-is, c.loop-i.invariant.few); count = omega (arith, w.taken-is, c.loop-i.invariant.count, more, known) }
    ]
