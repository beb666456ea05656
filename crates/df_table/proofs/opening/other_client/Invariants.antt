-- No session before the place is another client's.
use Rattle.{df_session.specs.Below.{memory}, df_table.specs.Opening.{NoneIsOther}}
use Rattle.df_table.proofs.opening.other_client.Given as goal

abbrev pub invariant-loop-place : goal.invariant-loop-place
invariant-loop-place l = NoneIsOther (memory l.replica) l.place
