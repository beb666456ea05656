-- What a mending and a boot update leave is said of the survey that the parts are seen as.
use Rattle.{std.{proofs.Common.{subst}, specs.Prelude.{Err}}, df_replica.specs.Below.{boot_fields}}
use Rattle.df_opening.{specs.{Below.{Parts, State, state_in}, Mending.{AddsRaising, IsReadBack}, Raising.{RaisesEach, opening_events}, Survey.{Survey}}, proofs.Laws.{adds_error, read_error, unharmed_error, unharmed_ok}}
use Rattle.df_replica.proofs.surveyed.Surveyed.mend.Goals as goal

pub returns-in-Ok-clause-steps : goal.returns-in-Ok-clause-steps
returns-in-Ok-clause-steps g c = (subst RaisesEach c.self.view_is c.mend_file.ensures.leaves).steps

pub returns-in-Err-clause-steps : goal.returns-in-Err-clause-steps
returns-in-Err-clause-steps g c = (subst RaisesEach c.self.view_is c.mend_file.ensures.leaves).steps

pub returns-in-Ok-clause-over : goal.returns-in-Ok-clause-over
returns-in-Ok-clause-over g c = (subst RaisesEach c.self.view_is c.mend_file.ensures.leaves).over

pub returns-in-Err-clause-over : goal.returns-in-Err-clause-over
returns-in-Err-clause-over g c = (subst RaisesEach c.self.view_is c.mend_file.ensures.leaves).over

pub returns-in-Ok-clause-anew : goal.returns-in-Ok-clause-anew
returns-in-Ok-clause-anew g c = (subst RaisesEach c.self.view_is c.mend_file.ensures.leaves).anew

pub returns-in-Err-clause-anew : goal.returns-in-Err-clause-anew
returns-in-Err-clause-anew g c = (subst RaisesEach c.self.view_is c.mend_file.ensures.leaves).anew

pub returns-in-Err-clause-events : goal.returns-in-Err-clause-events
returns-in-Err-clause-events g c = let old = g.D.Disk.told c.args.disk.now in let new = g.D.Disk.told c.mend_file.new.disk in
    adds_error Parts State (opening_events c.args.self) old new c.in-Err.refused.1 (subst (λ (v : Survey).
    AddsRaising {T = Parts} (opening_events v) old new (Err c.in-Err.refused.1)) c.self.view_is c.in-Err.ensures.does.events)

pub returns-in-Err-clause-read_back : goal.returns-in-Err-clause-read_back
returns-in-Err-clause-read_back g c = let new = g.D.Disk.told c.mend_file.new.disk in
    read_error Parts State (boot_fields c.args.self.state) new c.in-Err.refused.1 (subst (λ (v : Survey).
    IsReadBack {T = Parts} (boot_fields v.state) new (Err c.in-Err.refused.1)) c.self.view_is c.in-Err.ensures.does.read_back)

pub returns-in-Ok-clause-unharmed : goal.returns-in-Ok-clause-unharmed
returns-in-Ok-clause-unharmed g c = unharmed_ok {T = State} (g.D.Disk.told c.mend_file.new.disk) (state_in c.in-Ok.parts)

pub returns-in-Err-clause-unharmed : goal.returns-in-Err-clause-unharmed
returns-in-Err-clause-unharmed g c =
    unharmed_error Parts State (g.D.Disk.told c.mend_file.new.disk) c.in-Err.refused.1 c.in-Err.ensures.does.unharmed
