-- A room is free, the body fits it, and the state with the request makes sense.
use Rattle.{std.proofs.Common.{◌∷◌, [], sym, subst, arith, length-append}, df_model.specs.Work.{Request}}
use Rattle.{df_opening.specs.Below.{AreStaging, State}, df_replica.specs.Flushing.{request_made, staged_with}}
use Rattle.df_replica.proofs.replica.Replica.stage_next.Goals as goal

pub push-requires-clause-few : goal.push-requires-clause-few
push-requires-clause-few c = let r : Request = request_made c.args.client c.args.request c.args.body.now in
    let may = subst (λ (s : State). AreStaging (staged_with s r)) (sym c.self.view_is) c.requires in
    omega (arith, may.pipeline, length-append c.self.inside.parts.staging.requests (r ∷ []), c.self.invariant.state.waiting)
