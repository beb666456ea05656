-- The second file's unit is held, blanked after it, and written.
use Rattle.{std.{proofs.Common.{List, ℕ, refl, subst}, specs.Prelude.{Ok, Err}}, df_base.specs.Streams.{Appends, AppendsPart}}
use Rattle.df_mirror.{specs.declared.ending.Ending.TheVariants.{First, Sink}, proofs.Taken.{takes_all}}
use Rattle.df_mirror.proofs.unit.take_unit.Goals as goal

pub returns-in-Ok-write_line-clause-takes : goal.returns-in-Ok-write_line-clause-takes
returns-in-Ok-write_line-clause-takes g c = let load = c.in-Ok-None.ensures in
    takes_all g.K.UnitKind.KIND c.args.identity.now c.args.class _ _ _ _ _ c.unit.result.now _ (Ok tt) c.in-Ok-None.field-0-is load.holds
    load.read c.blank_rest.ensures.blanked c.unit.ensures (c.in-Ok.ensures.steps, c.in-Ok.ensures.brings) (
      c.in-Ok.ensures.events,
      subst (λ (l : List ℕ). Appends (g.W.Sink.written c.args.sink.now) (g.W.Sink.written c.write_line.new.sink)
          l) c.place_line.ensures c.in-Ok-write_line.ensures.prints.whole,
    )

pub returns-in-Err-write_line-clause-takes : goal.returns-in-Err-write_line-clause-takes
returns-in-Err-write_line-clause-takes g c = let load = c.in-Ok-None.ensures in
    takes_all g.K.UnitKind.KIND c.args.identity.now c.args.class _ _ _ _ _ c.unit.result.now _ (Err Sink) c.in-Ok-None.field-0-is
    load.holds load.read c.blank_rest.ensures.blanked c.unit.ensures (c.in-Ok.ensures.steps, c.in-Ok.ensures.brings) (
      c.in-Ok.ensures.events,
      subst (λ (l : List ℕ). AppendsPart (g.W.Sink.written c.args.sink.now)
          (g.W.Sink.written c.write_line.new.sink) l) c.place_line.ensures c.in-Err-write_line.ensures.prints.part,
    )

pub returns-in-Err-write_unit-clause-takes : goal.returns-in-Err-write_unit-clause-takes
returns-in-Err-write_unit-clause-takes g c = let load = c.in-Ok-None.ensures in
    takes_all g.K.UnitKind.KIND c.args.identity.now c.args.class _ _ _ _ _ c.unit.result.now _ (Err First) c.in-Ok-None.field-0-is
    load.holds load.read c.blank_rest.ensures.blanked c.unit.ensures
    (c.in-Err-write_unit.ensures.steps, c.in-Err-write_unit.ensures.brings) (c.in-Err-write_unit.ensures.events, refl)
