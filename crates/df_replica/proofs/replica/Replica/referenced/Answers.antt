-- What the grid counts is what the machine references.
use Rattle.{std.proofs.Common.{refl, length, subst, ◌≡◌}, df_model.specs.Memory.{referenced_of}, df_replica.proofs.ScrubTours.{counted}}
use Rattle.df_opening.specs.Below.{State, memory, state_in}
use Rattle.df_replica.proofs.replica.Replica.referenced.Goals as goal

pub returns : goal.returns
returns c = let i = c.self.inside.parts in subst (λ (s : State). c.referenced.result ≡ length (referenced_of (memory s)))
    c.self.view_is (counted (state_in i) i.grid c.referenced.result c.referenced.ensures c.self.invariant.grid_fits refl)
