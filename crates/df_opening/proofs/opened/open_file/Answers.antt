-- What was surveyed after the barrier is mended and raised, and the state is that of the survey, but for its boot.
use Rattle.std.{proofs.Common.{◌≡◌, ◌∙◌, ℕ, List, ◌∷◌, Option, Some, inr, refl, ap, subst, sym}, specs.Prelude.{Ok, Err}}
use Rattle.{df_base.specs.{Causes.{Blamed}, Image.{Image}, Log.{Event, Sync, add}}, df_layout.specs.declared.layout.Layout.{Layout}}
use Rattle.df_disk.specs.{Adds.{AddsPart, after_all}, Told.{Told, after, did}}
use Rattle.df_damage.{specs.{Anew.{restarted}, Histories.{IsLivedDisk}, Below.{State, boot_fields, shape, state_in}, Surveys.{IsOpenedAs}}, proofs.Laws.{begun_goes_on, found_was_since}}
use Rattle.df_units.{proofs.Laws.{steps_within}, specs.Bytes.{unit_at}}
use Rattle.df_model.specs.{Faults.{is_mend_fault, is_open_fault}, Work.{kept}, declared.errors.OpenError.{OpenError}}
use Rattle.df_opening.{specs.{Mending.{StaysFound, begun_state, raised_state}, Opened.{MendsAll}, Keeping.{Firm, IsGoodFor, StandsFor, format}, Raising.{opening_events, opening_steps}, Survey.{Survey, survey_in}, Surveying.{TellsSurvey}}, proofs.{Barriers.{barrier_rests}, Hurts.{answers}, Followed.{begun_may_open}, MendShows.{front_spares, raising_copies, raising_spares}, Opens.{front_moments, mend_stops, open_settles, own_raising, planned_same, stands_anew, stands_over}, Refused.{blamed_open, fault_adds, no_refusal, refused_tells}}}
use Rattle.df_opening.proofs.opened.open_file.Goals as goal

pub returns-in-Ok-mend_file-clause-parts : goal.returns-in-Ok-mend_file-clause-parts
returns-in-Ok-mend_file-clause-parts g c = let raised = c.in-Ok-mend_file.ensures.raised in
    record { whole = raised.whole; kept = ap (λ (s : State). s.file.layout) raised.state ∙ c.in-Ok.ensures.surveyed.kept; live = ap (λ (s : State). s.live) raised.state }

pub returns-in-Ok-mend_file-clause-answers : goal.returns-in-Ok-mend_file-clause-answers
returns-in-Ok-mend_file-clause-answers g c = let found = state_in c.in-Ok.surveyed.parts in
    let raised = c.in-Ok-mend_file.ensures.raised.state in let answers = c.in-Ok.ensures.answers in
    record { answer = (found, answers.answer, raised); hurt = (found, raised, answers.hurt); lived = (found, raised, answers.lived) }

pub returns-in-Ok-mend_file-clause-leaves : goal.returns-in-Ok-mend_file-clause-leaves
returns-in-Ok-mend_file-clause-leaves g c = let es : List Event = opening_events (survey_in c.in-Ok.surveyed) in record {
  told = (es, c.in-Ok-mend_file.ensures.does.events ∙ ap (after_all es) c.in-Ok.ensures.barrier);
  opened = λ t is. let s : Survey = survey_in c.in-Ok.surveyed in let es : List Event = opening_events s in
      let synced : g.D.Disk.told c.survey_file.new.disk ≡ Some (did Sync t) = c.in-Ok.ensures.barrier ∙ ap (after Sync) is in
      let answer : TellsSurvey c.args.rooms.layout (Some t) (Ok s.state) =
      subst (λ (o : Option Told). TellsSurvey c.args.rooms.layout o (Ok s.state)) is c.in-Ok.ensures.answers.answer in
      let plan = c.in-Ok.ensures.surveyed.planned (did Sync t) synced in
      let all : MendsAll t (raised_state s.state) (g.D.Disk.told c.mend_file.new.disk) = record {
        found = s.state;
        opened = λ whole. subst (λ (l : Layout). IsOpenedAs 2 l t.shown s.state) (sym c.in-Ok.ensures.surveyed.kept) (answer whole);
        raised = refl;
        mending = record {
          events = es;
          told = c.in-Ok-mend_file.ensures.does.events ∙ ap (after_all es) synced;
          within = steps_within s.state.file.layout s.state.file.cluster es (opening_steps s) c.in-Ok-mend_file.ensures.leaves.steps;
          spares = raising_spares s.state.file
              s.state.headers s.mends s.state.fields s.chosen.members (boot_fields s.state) c.in-Ok-mend_file.ensures.leaves.steps;
        };
        own = λ whole. own_raising 2 (boot_fields s.state) c.args.rooms.layout (g.D.Disk.told c.args.disk.now)
            t s is c.in-Ok.ensures.surveyed.kept c.in-Ok.ensures.answers.answer c.in-Ok.ensures.surveyed.mends whole;
        copies = λ whole. raising_copies s.state.file s.state.headers
            s.mends s.state.fields s.chosen.members (boot_fields s.state) c.in-Ok-mend_file.ensures.leaves.steps t.shown whole;
        over = λ grade view base same may stands. let planned =
            planned_same s.state.file s.state.headers s.mends s.state.fields s.chosen.members (did Sync t) (did Sync base) same plan in
            let on = barrier_rests grade s.state.file view
            base may (subst (λ (m : Image). StandsFor grade (unit_at s.state.file.layout s.state.file.cluster m) view) (sym same) stands) in
            let by = c.in-Ok-mend_file.ensures.leaves.over (did Sync base)
            grade view planned on (stands_over c.args.rooms.layout t base s.state same view may c.in-Ok.ensures.surveyed.kept answer) in
            record { moments = by.moments; bare = by.bare; mended = by.raised; kept_for = by.kept_for; settled = open_settles s base _ c.in-Ok-mend_file.ensures.leaves.steps };
        anew = λ grade view whole found distinct shown.
            let anew = planned_same s.state.file s.state.headers s.mends s.state.fields s.chosen.members (did Sync t) (restarted t) refl plan in
            let by = c.in-Ok-mend_file.ensures.leaves.anew t grade view anew
            whole found distinct shown (stands_anew c.args.rooms.layout t s.state view c.in-Ok.ensures.surveyed.kept answer whole found) in
            record { moments = by.moments; bare = by.bare; kept_for = by.kept_for; begins = by.begins };
        lived = λ log logs may. let is : IsOpenedAs 2 s.state.file.layout t.shown s.state =
            subst (λ (l : Layout). IsOpenedAs 2 l t.shown s.state) (sym c.in-Ok.ensures.surveyed.kept) (answer may.whole) in
            let finds = found_was_since s.state.file log logs t.shown s.state may is in
            let opens = begun_may_open s.state.file finds.found t may.version finds.begins in let planned = planned_same
            s.state.file s.state.headers s.mends s.state.fields s.chosen.members (did Sync t) (did Sync (restarted t)) refl plan in
            let by = c.in-Ok-mend_file.ensures.leaves.over (did Sync (restarted t)) Firm finds.found planned (barrier_rests Firm s.state.file finds.found (restarted t) opens tt) (stands_over c.args.rooms.layout t (restarted t) s.state refl finds.found opens c.in-Ok.ensures.surveyed.kept answer) in
            by.lived (add Sync log) logs (begun_goes_on s.state.file finds.found log logs t.shown may finds.is_found).synced;
      } in subst (λ (r : State). MendsAll t r (g.D.Disk.told c.mend_file.new.disk)) (sym c.in-Ok-mend_file.ensures.raised.state) all;
}

pub returns-in-Err-mend_file-clause-answers : goal.returns-in-Err-mend_file-clause-answers
returns-in-Err-mend_file-clause-answers g c = let tells =
    subst (λ (e : OpenError). TellsSurvey c.args.rooms.layout (g.D.Disk.told c.args.disk.now) (Err e)) (sym c.refusal_of.ensures)
    (refused_tells _ 2 c.args.rooms.layout (g.D.Disk.told c.args.disk.now) (g.D.Disk.told c.survey_file.new.disk) (g.D.Disk.told c.mend_file.new.disk) (opening_events (survey_in c.in-Ok.surveyed)) c.in-Err-mend_file.error c.in-Ok.ensures.barrier c.in-Err-mend_file.ensures.does.events c.in-Err-mend_file.ensures.does.unharmed) in
    let both = answers c.args.rooms.layout (g.D.Disk.told c.args.disk.now) (Err c.refusal_of.result) tells in
    record { answer = both.answer; hurt = both.hurt; lived = both.lived }

pub returns-in-Err-clause-answers : goal.returns-in-Err-clause-answers
returns-in-Err-clause-answers g c = let answers = c.in-Err.ensures.answers in
    record { answer = answers.answer; hurt = answers.hurt; lived = answers.lived }

pub returns-in-Err-mend_file-clause-cause : goal.returns-in-Err-mend_file-clause-cause
returns-in-Err-mend_file-clause-cause g c = subst (λ (e : OpenError).
    Blamed (is_open_fault e) (g.D.Disk.faults c.args.disk.now) (g.D.Disk.faults c.mend_file.new.disk)) (sym c.refusal_of.ensures)
    (blamed_open c.in-Err-mend_file.error (g.D.Disk.faults c.args.disk.now) (g.D.Disk.faults c.mend_file.new.disk)
    (subst (λ (n : ℕ). Blamed (is_mend_fault c.in-Err-mend_file.error) n (g.D.Disk.faults c.mend_file.new.disk))
    c.in-Ok.ensures.cause c.in-Err-mend_file.ensures.cause))

pub returns-in-Err-mend_file-clause-leaves : goal.returns-in-Err-mend_file-clause-leaves
returns-in-Err-mend_file-clause-leaves g c = record {
  refused = λ other.
      no_refusal _ (g.D.Disk.told c.args.disk.now) (g.D.Disk.told c.survey_file.new.disk) (g.D.Disk.told c.mend_file.new.disk) (opening_events (survey_in c.in-Ok.surveyed)) c.in-Err-mend_file.error c.in-Ok.ensures.barrier c.in-Err-mend_file.ensures.does.events c.in-Err-mend_file.ensures.does.unharmed
      (λ is. other (c.refusal_of.ensures ∙ is));
  stopped = λ t is whole fault. let s : Survey = survey_in c.in-Ok.surveyed in let es : List Event = opening_events s in
      let synced : g.D.Disk.told c.survey_file.new.disk ≡ Some (did Sync t) = c.in-Ok.ensures.barrier ∙ ap (after Sync) is in
      let answer : TellsSurvey c.args.rooms.layout (Some t) (Ok s.state) =
      subst (λ (o : Option Told). TellsSurvey c.args.rooms.layout o (Ok s.state)) is c.in-Ok.ensures.answers.answer in
      let plan = c.in-Ok.ensures.surveyed.planned (did Sync t) synced in
      let adds = fault_adds (Unit {0}) es (g.D.Disk.told c.survey_file.new.disk) (g.D.Disk.told c.mend_file.new.disk)
      c.in-Err-mend_file.error (sym c.refusal_of.ensures ∙ fault) c.in-Err-mend_file.ensures.does.events in
      let part = mend_stops es (g.D.Disk.told c.survey_file.new.disk) (g.D.Disk.told c.mend_file.new.disk) (did Sync t) synced adds in
      let done = part.steps (format s.state.file) (opening_steps s) c.in-Err-mend_file.ensures.leaves.steps in inr (inr (record {
        found = s.state;
        opened = answer whole;
        mending = record {
          events = part.part;
          told = part.is;
          within = steps_within s.state.file.layout s.state.file.cluster part.part done.steps done.are;
          spares = front_spares s.state.file s.state.headers s.mends s.state.fields s.chosen.members (boot_fields s.state) part.part done;
        };
        own = λ image. record {
          events = es;
          own = own_raising 2 (boot_fields s.state) c.args.rooms.layout (g.D.Disk.told c.args.disk.now)
              t s is c.in-Ok.ensures.surveyed.kept c.in-Ok.ensures.answers.answer c.in-Ok.ensures.surveyed.mends image;
          part = subst (λ (o : Option Told). AddsPart es o (g.D.Disk.told c.mend_file.new.disk)) synced adds;
        };
        moments = λ grade view base same may stands. let planned =
            planned_same s.state.file s.state.headers s.mends s.state.fields s.chosen.members (did Sync t) (did Sync base) same plan in
            let on = barrier_rests grade s.state.file view
            base may (subst (λ (m : Image). StandsFor grade (unit_at s.state.file.layout s.state.file.cluster m) view) (sym same) stands) in
            let by = c.in-Err-mend_file.ensures.leaves.over (did Sync base)
            grade view planned on (stands_over c.args.rooms.layout t base s.state same view may c.in-Ok.ensures.surveyed.kept answer) in
            (front_moments es (did Sync base) part.part part.again (IsGoodFor grade (format s.state.file) (shape s.state.file) view (kept (begun_state s.state.file base view (boot_fields s.state)))) by.moments, by.bare);
        anew = λ grade view image found distinct shown.
            let anew = planned_same s.state.file s.state.headers s.mends s.state.fields s.chosen.members (did Sync t) (restarted t) refl plan in
            let by = c.in-Err-mend_file.ensures.leaves.anew t grade view anew
            image found distinct shown (stands_anew c.args.rooms.layout t s.state view c.in-Ok.ensures.surveyed.kept answer image found) in
            front_moments es (restarted t) part.part part.again (StaysFound grade s.state.file view (boot_fields s.state)) by.moments;
        lived = λ log logs may. let is : IsOpenedAs 2 s.state.file.layout t.shown s.state =
            subst (λ (l : Layout). IsOpenedAs 2 l t.shown s.state) (sym c.in-Ok.ensures.surveyed.kept) (answer whole) in
            let finds = found_was_since s.state.file log logs t.shown s.state may is in
            let opens = begun_may_open s.state.file finds.found t may.version finds.begins in let planned = planned_same
            s.state.file s.state.headers s.mends s.state.fields s.chosen.members (did Sync t) (did Sync (restarted t)) refl plan in
            let by = c.in-Err-mend_file.ensures.leaves.over (did Sync (restarted t)) Firm finds.found planned (barrier_rests Firm s.state.file finds.found (restarted t) opens tt) (stands_over c.args.rooms.layout t (restarted t) s.state refl finds.found opens c.in-Ok.ensures.surveyed.kept answer) in
            front_moments es (did Sync (restarted t)) part.part part.again (IsLivedDisk s.state.file (add Sync log ∷ logs))
            (by.lived (add Sync log) logs (begun_goes_on s.state.file finds.found log logs t.shown may finds.is_found).synced).moments;
      }));
}
