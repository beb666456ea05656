-- The table's session, and each staged request of the client in place of the one before it.
use Rattle.std.{proofs.Common.{◌≡◌, ◌+◌, ◌==◌, false, Some, refl, sym, ap, ◌∙◌, arith, ne_eqb}, specs.{Prelude.{option_map}, List.{position}}}
use Rattle.{df_model.specs.Refusals.{session_of_client}, df_opening.specs.Below.{asker_of}}
use Rattle.df_sessions.specs.{Requests.{session_of}, Table.{has_client}}
use Rattle.df_replica.{specs.Flushing.{sessions_staged}, proofs.{AppendTests.{session_found, small_session, each_small}, StageTests.{other_session, own_session, request_at, staged_more}}}
use Rattle.df_replica.proofs.flush.session_staged.Goals as goal

pub loop-i-init : goal.loop-i-init
loop-i-init c = let ss = c.args.table.now.sessions in record {
  within = omega arith;
  session = session_found c.args.client ss ∙ ap (option_map session_of) (sym c.session_of-last.ensures);
  numbered = each_small c.session_of-last.result (λ s is.
      small_session ss (position (has_client c.args.client) ss) s c.requires.numbered (sym c.session_of-last.ensures ∙ is));
}

pub loop-i-preserved-then-asker-client : goal.loop-i-preserved-then-asker-client
loop-i-preserved-then-asker-client c = let rs = c.args.staging.now.requests in
    let r = request_at rs c.loop-i.i (omega (arith, c.loop-i-test.true, c.requires.count)) in let told = c.request-asker.ensures r.0 r.1 in
    let op = c.args.head + (c.loop-i.i + 1) in let own : r.0.client ≡ c.args.client = sym told.0 ∙ c.if-asker-client.true in
    let same : Some (record { client = r.0.client; request = r.0.request; op = op })
    ≡ Some (record { client = c.args.client; request = c.request-asker.result.1; op = op }) =
    (λ i. Some (record { client = own i; request = sym told.1 i; op = op })) in
    record {
      within = omega (arith, c.loop-i-test.true);
      session = ap (session_of_client c.args.client)
          (staged_more c.args.table.now.sessions rs c.args.head c.loop-i.i (c.loop-i.i + 1) op r.0 r.1 refl refl)
          ∙ own_session c.args.client (asker_of 0 op r.0) (sessions_staged c.args.table.now.sessions rs c.args.head c.loop-i.i) own ∙ same;
      numbered = omega (arith, told.1, c.requires.requests c.loop-i.i r.0 r.1);
    }

pub loop-i-preserved : goal.loop-i-preserved
loop-i-preserved c = let rs = c.args.staging.now.requests in
    let r = request_at rs c.loop-i.i (omega (arith, c.loop-i-test.true, c.requires.count)) in let told = c.request-asker.ensures r.0 r.1 in
    let op = c.args.head + (c.loop-i.i + 1) in
    let other : (r.0.client == c.args.client) ≡ false = ne_eqb r.0.client c.args.client (λ same. c.if-asker-client.false (told.0 ∙ same)) in
    record {
      within = omega (arith, c.loop-i-test.true);
      session = ap (session_of_client c.args.client)
          (staged_more c.args.table.now.sessions rs c.args.head c.loop-i.i (c.loop-i.i + 1) op r.0 r.1 refl refl)
          ∙ other_session c.args.client (asker_of 0 op r.0) (sessions_staged c.args.table.now.sessions rs c.args.head c.loop-i.i) other
          ∙ c.loop-i.invariant.session;
      numbered = c.loop-i.invariant.numbered;
    }
