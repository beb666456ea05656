-- What was surveyed of version 1 is planned from what was read after the barrier.
use Rattle.{std.proofs.Common.{Err}, df_opening.proofs.Laws.{survey_planned, told_mends}, df_upgrade.proofs.Asked.{answers_old}}
use Rattle.df_upgrade.proofs.surveyed.survey.Goals as goal

pub returns-in-Ok-clause-surveyed : goal.returns-in-Ok-clause-surveyed
returns-in-Ok-clause-surveyed g c = record {
  kept = c.in-Ok.ensures.layout;
  mends = told_mends c.args.rooms.layout (g.D.Disk.told c.args.disk.now) c.in-Ok.found c.in-Ok.ensures.mends;
  planned = λ t is. survey_planned 1 c.in-Ok.found c.args.rooms.layout c.in-Ok.ensures.planned (g.D.Disk.told c.args.disk.now)
      (g.D.Disk.told c.survey_version.new.disk) t is c.in-Ok.ensures.barrier c.in-Ok.ensures.read c.in-Ok.ensures.answer;
}

pub returns-in-Ok-clause-answers : goal.returns-in-Ok-clause-answers
returns-in-Ok-clause-answers g c = answers_old c.args.rooms.layout (g.D.Disk.told c.args.disk.now) _ c.in-Ok.ensures.answer

pub returns-in-Err-clause-answers : goal.returns-in-Err-clause-answers
returns-in-Err-clause-answers g c =
    answers_old c.args.rooms.layout (g.D.Disk.told c.args.disk.now) (Err c.in-Err.refused.1) c.in-Err.ensures.answer
