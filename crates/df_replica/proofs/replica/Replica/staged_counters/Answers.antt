-- The counters of what is in memory, as if what is staged were appended.
use Rattle.{std.proofs.Common.{◌≡◌, List, length, sym, ◌∙◌, ap, subst, arith}, df_theory.specs.Units.{Session}}
use Rattle.{df_model.specs.Refusals.{counted_staged}, df_opening.specs.Below.{State, memory, state_in}}
use Rattle.df_replica.proofs.StageTests.{all_staged}
use Rattle.df_replica.proofs.replica.Replica.staged_counters.Goals as goal

pub places_staged-requires-clause-requests : goal.places_staged-requires-clause-requests
places_staged-requires-clause-requests c = λ i r at. (c.self.invariant.state.staging.each i r at).request.1

pub returns : goal.returns
returns c = let told = c.counters-counters.ensures in record {
  op = told.op;
  head = omega (arith, told.head, c.len.ensures.count, ap (λ (s : State). length s.staged) c.self.view_is);
  replies = told.replies;
  sessions = subst (λ (s : State). length (counted_staged (memory s)).sessions ≡ c.places_staged.result) c.self.view_is
      (ap (λ (ss : List Session). length ss) (all_staged (state_in c.self.inside.parts)) ∙ sym c.places_staged.ensures);
  places = told.places;
  slots = told.slots;
  message_room = told.message_room;
}
