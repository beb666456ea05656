-- The state in which no call may follow makes sense.
use Rattle.{df_opening.specs.Below.{state_in}, df_replica.proofs.StoppedState.{stopped_sense}}
use Rattle.df_replica.proofs.replica.Replica.stop.Goals as goal

pub invariant_of-self : goal.invariant_of-self
invariant_of-self c = let old = c.self.invariant in record {
  state = stopped_sense (state_in c.self.inside.parts) c.end_calls.new.live c.end_calls.ensures old.state;
  rooms = old.rooms;
  grid = old.grid;
}
