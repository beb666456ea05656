-- What was surveyed after the barrier is mended and gets its superblock of version 2.
use Rattle.std.{proofs.Common.{◌≡◌, ◌∙◌, ℕ, List, Option, Some, inr, refl, ap, subst, sym}, specs.Prelude.{Ok, Err}}
use Rattle.{df_base.specs.{Causes.{Blamed}, Log.{Event, Sync}}, df_disk.specs.{Adds.{AddsPart, after_all}, Told.{Told, after, did}}}
use Rattle.{df_format.specs.declared.superblock.SuperFields.{SuperFields}, df_units.proofs.Laws.{steps_within}}
use Rattle.df_model.specs.{Faults.{is_mend_fault, is_open_fault}, declared.errors.OpenError.{OpenError}}
use Rattle.df_damage.specs.{Anew.{restarted}, Surveying.{TellsSurveyAs}}
use Rattle.df_opening.{specs.{Keeping.{format}, Survey.{Survey}}, proofs.Laws.{blamed_open, fault_adds, front_moments, front_spares, mend_stops, no_refusal, own_raising, planned_same, raising_spares, refused_tells}}
use Rattle.df_upgrade.{specs.{Base.{base_fields}, Upgrading.{UpgradeStaysBare, upgrading_events, upgrading_steps}}, proofs.Asked.{answers_old, stands_old}}
use Rattle.df_upgrade.proofs.upgraded.upgrade_file.Goals as goal

pub returns-in-Ok-upgrade_surveyed-clause-answers : goal.returns-in-Ok-upgrade_surveyed-clause-answers
returns-in-Ok-upgrade_surveyed-clause-answers g c = let found = c.in-Ok.surveyed.state in
    let same = ap (λ (f : SuperFields). f.sequence) c.base-sequence.ensures.fields in
    record { answer = (found, c.in-Ok.ensures.answers.answer, same); hurt = (found, same, c.in-Ok.ensures.answers.hurt) }

pub returns-in-Ok-upgrade_surveyed-clause-leaves : goal.returns-in-Ok-upgrade_surveyed-clause-leaves
returns-in-Ok-upgrade_surveyed-clause-leaves g c = let es : List Event = upgrading_events c.in-Ok.surveyed in record {
  told = (es, c.in-Ok-upgrade_surveyed.ensures.does.events ∙ ap (after_all es) c.in-Ok.ensures.barrier);
  upgraded = λ t is. let s : Survey = c.in-Ok.surveyed in let es : List Event = upgrading_events s in
      let synced : g.D.Disk.told c.survey.new.disk ≡ Some (did Sync t) = c.in-Ok.ensures.barrier ∙ ap (after Sync) is in
      let answer : TellsSurveyAs 1 c.args.rooms.layout (Some t) (Ok s.state) = rw is at c.in-Ok.ensures.answers.answer in
      let plan = c.in-Ok.ensures.surveyed.planned (did Sync t) synced in record {
        found = s.state;
        opened = answer;
        kept = ap (λ (f : SuperFields). f.sequence) c.base-sequence.ensures.fields;
        writes = record {
          events = es;
          told = c.in-Ok-upgrade_surveyed.ensures.does.events ∙ ap (after_all es) synced;
          within = steps_within s.state.file.layout s.state.file.cluster es (upgrading_steps s) c.in-Ok-upgrade_surveyed.ensures.leaves.steps;
          spares = raising_spares s.state.file
              s.state.headers s.mends s.state.fields s.chosen.members (base_fields s.state) c.in-Ok-upgrade_surveyed.ensures.leaves.steps;
        };
        own = own_raising 1 (base_fields s.state) c.args.rooms.layout (g.D.Disk.told c.args.disk.now)
            t s is c.in-Ok.ensures.surveyed.kept c.in-Ok.ensures.answers.answer c.in-Ok.ensures.surveyed.mends;
        anew = λ view whole found distinct.
            c.in-Ok-upgrade_surveyed.ensures.leaves.anew
            t view (planned_same s.state.file s.state.headers s.mends s.state.fields s.chosen.members (did Sync t) (restarted t) refl plan)
            whole found distinct (stands_old c.args.rooms.layout t s.state view c.in-Ok.ensures.surveyed.kept answer whole found);
      };
}

pub returns-in-Err-upgrade_surveyed-clause-answers : goal.returns-in-Err-upgrade_surveyed-clause-answers
returns-in-Err-upgrade_surveyed-clause-answers g c = let tells = rw (sym c.refusal_of.ensures) at
    (refused_tells _ 1 c.args.rooms.layout (g.D.Disk.told c.args.disk.now) (g.D.Disk.told c.survey.new.disk)
    (g.D.Disk.told c.upgrade_surveyed.new.disk) (upgrading_events c.in-Ok.surveyed) c.in-Err-upgrade_surveyed.error
    c.in-Ok.ensures.barrier c.in-Err-upgrade_surveyed.ensures.does.events c.in-Err-upgrade_surveyed.ensures.does.unharmed) in
    let both = answers_old c.args.rooms.layout (g.D.Disk.told c.args.disk.now) (Err c.refusal_of.result) tells in
    record { answer = both.answer; hurt = both.hurt }

pub returns-in-Err-clause-answers : goal.returns-in-Err-clause-answers
returns-in-Err-clause-answers g c = record { answer = c.in-Err.ensures.answers.answer; hurt = c.in-Err.ensures.answers.hurt }

pub returns-in-Err-upgrade_surveyed-clause-cause : goal.returns-in-Err-upgrade_surveyed-clause-cause
returns-in-Err-upgrade_surveyed-clause-cause g c = let rose = rw c.in-Ok.ensures.cause at c.in-Err-upgrade_surveyed.ensures.cause in
    let blamed =
    blamed_open c.in-Err-upgrade_surveyed.error (g.D.Disk.faults c.args.disk.now) (g.D.Disk.faults c.upgrade_surveyed.new.disk) rose in
    subst (λ (e : OpenError). Blamed (is_open_fault e) (g.D.Disk.faults c.args.disk.now) (g.D.Disk.faults c.upgrade_surveyed.new.disk))
    (sym c.refusal_of.ensures) blamed

pub returns-in-Err-upgrade_surveyed-clause-leaves : goal.returns-in-Err-upgrade_surveyed-clause-leaves
returns-in-Err-upgrade_surveyed-clause-leaves g c = record {
  refused = λ other.
      no_refusal _ (g.D.Disk.told c.args.disk.now) (g.D.Disk.told c.survey.new.disk)
      (g.D.Disk.told c.upgrade_surveyed.new.disk) (upgrading_events c.in-Ok.surveyed) c.in-Err-upgrade_surveyed.error
      c.in-Ok.ensures.barrier c.in-Err-upgrade_surveyed.ensures.does.events c.in-Err-upgrade_surveyed.ensures.does.unharmed
      (λ is. other (c.refusal_of.ensures ∙ is));
  stopped = λ t is whole fault.
      let synced : g.D.Disk.told c.survey.new.disk ≡ Some (did Sync t) = c.in-Ok.ensures.barrier ∙ ap (after Sync) is in
      let s : Survey = c.in-Ok.surveyed in let es : List Event = upgrading_events s in
      let adds = fault_adds (Unit {0}) es (g.D.Disk.told c.survey.new.disk) (g.D.Disk.told c.upgrade_surveyed.new.disk)
      c.in-Err-upgrade_surveyed.error (sym c.refusal_of.ensures ∙ fault) c.in-Err-upgrade_surveyed.ensures.does.events in
      let part = mend_stops es (g.D.Disk.told c.survey.new.disk) (g.D.Disk.told c.upgrade_surveyed.new.disk) (did Sync t) synced adds in
      let done = part.steps (format s.state.file) (upgrading_steps s) c.in-Err-upgrade_surveyed.ensures.leaves.steps in
      let plan = c.in-Ok.ensures.surveyed.planned (did Sync t) synced in
      let answer : TellsSurveyAs 1 c.args.rooms.layout (Some t) (Ok s.state) = rw is at c.in-Ok.ensures.answers.answer in inr (inr (record {
        found = s.state;
        opened = answer whole;
        writes = record { events = part.part; told = part.is; within = steps_within s.state.file.layout s.state.file.cluster part.part done.steps done.are; spares = front_spares s.state.file s.state.headers s.mends s.state.fields s.chosen.members (base_fields s.state) part.part done };
        own = λ image. record {
          events = es;
          own = own_raising 1 (base_fields s.state) c.args.rooms.layout (g.D.Disk.told c.args.disk.now)
              t s is c.in-Ok.ensures.surveyed.kept c.in-Ok.ensures.answers.answer c.in-Ok.ensures.surveyed.mends image;
          part = rw synced at adds;
        };
        anew = λ view image found distinct. let by = c.in-Err-upgrade_surveyed.ensures.leaves.anew t view (planned_same
            s.state.file s.state.headers s.mends s.state.fields s.chosen.members (did Sync t) (restarted t) refl plan) image found distinct
            (stands_old c.args.rooms.layout t s.state view c.in-Ok.ensures.surveyed.kept answer image found) in
            (front_moments es (restarted t) part.part part.again (UpgradeStaysBare s.state.file view (base_fields s.state)) by.moments, by.bare);
      }));
}
