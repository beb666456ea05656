-- What was surveyed of version 2 has its parts, and is planned from what was read after the barrier.
use Rattle.std.proofs.Common.{◌∙◌, Ok, Err, ap, subst, sym}
use Rattle.df_opening.{specs.{Raising.{IsPlannedOf}, Survey.{Survey}, Surveying.{TellsMends, TellsSurvey}}, proofs.{Hurts.{answers}, SurveyPlans.{survey_planned, told_mends}}}
use Rattle.df_opening.proofs.opened.survey_file.Goals as goal

pub returns-in-Ok-clause-surveyed : goal.returns-in-Ok-clause-surveyed
returns-in-Ok-clause-surveyed g c = record {
  kept = ap (λ (s : Survey). s.state.file.layout) c.parts_of.ensures.seen ∙ c.in-Ok.ensures.layout;
  mends = subst (TellsMends c.args.rooms.layout (g.D.Disk.told c.args.disk.now))
      (sym c.parts_of.ensures.seen) (told_mends c.args.rooms.layout (g.D.Disk.told c.args.disk.now) c.in-Ok.surveyed c.in-Ok.ensures.mends);
  planned = λ t is. subst (λ (s : Survey). IsPlannedOf s t) (sym c.parts_of.ensures.seen)
      (survey_planned 2 c.in-Ok.surveyed c.args.rooms.layout c.in-Ok.ensures.planned (g.D.Disk.told c.args.disk.now)
      (g.D.Disk.told c.survey_version.new.disk) t is c.in-Ok.ensures.barrier c.in-Ok.ensures.read c.in-Ok.ensures.answer);
}

pub returns-in-Ok-clause-answers : goal.returns-in-Ok-clause-answers
returns-in-Ok-clause-answers g c = answers _ _ _ (subst (λ (s : Survey).
    TellsSurvey c.args.rooms.layout (g.D.Disk.told c.args.disk.now) (Ok s.state)) (sym c.parts_of.ensures.seen) c.in-Ok.ensures.answer)

pub returns-in-Err-clause-answers : goal.returns-in-Err-clause-answers
returns-in-Err-clause-answers g c = answers _ _ (Err c.in-Err.refused.1) c.in-Err.ensures.answer
