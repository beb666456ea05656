-- A step of the scrubber is a call, and in a failed one nothing moved.
use Rattle.{std.proofs.Common.{ap, refl, Err, Ok}, df_model.specs.Commands.{ToScrub}, df_replica.specs.Below.{State as Replica}}
use Rattle.df_session.proofs.ReadCalls.{checks}
use Rattle.df_session.proofs.calls.check.Goals as goal

pub returns-in-Ok-clause-makes : goal.returns-in-Ok-clause-makes
returns-in-Ok-clause-makes g c = record {
  exact = (c.in-Ok.scrubbed, refl, c.in-Ok.ensures.exact, c.in-Ok.ensures.same);
  told = ToScrub c.in-Ok.scrubbed;
  in_words = refl;
  makes = checks c.args.replica.now c.scrub_step.new.self
      (g.D.Disk.told c.args.disk.now) (g.D.Disk.told c.scrub_step.new.disk) (Ok c.in-Ok.scrubbed) c.in-Ok.ensures.same c.in-Ok.ensures.call;
}

pub returns-in-Ok-clause-live : goal.returns-in-Ok-clause-live
returns-in-Ok-clause-live g c = (checks c.args.replica.now c.scrub_step.new.self (g.D.Disk.told c.args.disk.now)
    (g.D.Disk.told c.scrub_step.new.disk) (Ok c.in-Ok.scrubbed) c.in-Ok.ensures.same c.in-Ok.ensures.call).calls.call.live

pub returns-in-Err-clause-makes : goal.returns-in-Err-clause-makes
returns-in-Err-clause-makes g c =
    (checks c.args.replica.now c.scrub_step.new.self (g.D.Disk.told c.args.disk.now) (g.D.Disk.told c.scrub_step.new.disk) (Err c.in-Err.field-0) c.in-Err.ensures.same c.in-Err.ensures.call, tt)

pub returns-in-Err-clause-tour : goal.returns-in-Err-clause-tour
returns-in-Err-clause-tour g c = ap (λ (r : Replica). r.tour) c.in-Err.ensures.exact
