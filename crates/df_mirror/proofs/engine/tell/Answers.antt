-- A unit that neither file shows is named.
use Rattle.{std.{proofs.Common.{◌≡◌, ◌∙◌, ℕ, Err, List, ap, subst, sym}, specs.Prelude.{Result}}, df_program.specs.Telling.{Writes}}
use Rattle.df_mirror.specs.declared.status.Status.TheVariants as ends
use Rattle.df_mirror.specs.{declared.ending.Ending.{Ending}, declared.ending.Ending.TheVariants.{Neither}, Run.{TellsEnd}}
use Rattle.df_mirror.proofs.engine.tell.Goals as goal

pub returns-in-Err-Neither-clause-tells : goal.returns-in-Err-Neither-clause-tells
returns-in-Err-Neither-clause-tells g c = let is : c.args.mended ≡ Err c.in-Err-Neither.field-0 = c.in-Err-Neither.is in
    let inner : c.in-Err-Neither.field-0 ≡ Neither c.in-Err-Neither.place c.in-Err-Neither.class =
    rw c.in-Err-Neither.is at c.in-Err-Neither.field-0-is in
    let old = g.W.Sink.written c.args.sink.now in let new = g.W.Sink.written c.end_line-in-Err-Neither.new.sink in
    let status = c.end_line-in-Err-Neither.result in
    let line = subst (λ (l : List ℕ). Writes ends.WriteFault l ends.Refused old new status) c.classed_line-line.ensures
    c.end_line-in-Err-Neither.ensures.writes in
    subst (λ (r : Result ℕ Ending). TellsEnd r old new status) (sym (is ∙ ap (λ (e : Ending). Err e) inner)) line
