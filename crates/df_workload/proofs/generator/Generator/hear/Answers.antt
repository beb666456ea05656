-- The run stays sound, and its room has the body that was drawn last.
use Rattle.std.proofs.Common.{◌≡◌, ◌<◌, false, subst, sym}
use Rattle.df_workload.{specs.{Sound.{IsSoundState, MayBeTold, is_at_end, left}, declared.state.State.{State}}, proofs.Nearing.{heard_on, some_left}}
use Rattle.df_workload.proofs.generator.Generator.hear.Goals as goal

pub invariant_of-self : goal.invariant_of-self
invariant_of-self c = let o = c.args.outcome in let may = rw (sym c.self.view_is) at c.requires in
    (subst IsSoundState (sym c.hear.ensures) (heard_on o c.self.inside.state c.self.invariant.0 may).sound, c.fill.ensures)

pub returns-clause-less : goal.returns-clause-less
returns-clause-less c = let o = c.args.outcome in let s = c.self.inside.state in let may = rw (sym c.self.view_is) at c.requires in
    rw c.self.view_is at (subst (λ (t : State). is_at_end s.point ≡ false
    → left t < left s) (sym c.hear.ensures) (λ is. (heard_on o s c.self.invariant.0 may).less (some_left s.point s is)))
