-- Calls on an open file keep it.
use Rattle.{std.proofs.Common.{◌≡◌, ◌∙◌, Option, None, Some, ap, refl, subst, sym}, df_base.specs.{Image.{Image, IsImage}, Log.{Sync, now}}}
use Rattle.{df_disk.specs.Told.{Told, did}, df_theory.specs.{Found.{IsFound}, View.{View}}, df_units.specs.Bytes.{unit_at}}
use Rattle.df_model.specs.Work.{Work}
use Rattle.df_session.{specs.{Begun.{begun_work}, Links.{events_to}, Laws.{CallsOnOpenFileKeepIt, made_on}}, proofs.{BegunWorks.{begun_is_work}, Acknowledged.{keeps_answered}, Anews.{calls_keep_anew}, Kept.{OpenedOver, answers_alone, ends_add, keeps_over, opened_over}, Lived.{calls_lived, safe_each}, Resulted.{opened_answers}, Spared.{spares_blocks}}}
use Rattle.df_replica.{specs.{Below.{DataFile, State as Replica, restarted, shape, told_after}, Following.{MayOpen}, Opened.{MendsAll, begun_state}, Serving.{Firm, Grade, Keeps, StandsFor}}, proofs.Laws.{begun_keeps}}

-- what was opened stands for what the machine begins calls with
pub begun_here : (t : Told) (s : Replica) (mended : Option Told) (over : MendsAll t s mended) (view : View)
    → IsImage t.shown → IsFound (shape s.file) (unit_at s.file.layout s.file.cluster t.shown) view
    → Keeps Firm s (begun_work s.file t.shown view) None
begun_here t s mended over view whole found = let found_there = rw (ap (λ (r : Replica). r.file) over.raised) at found in
    let keeps : Keeps Firm s (begun_state s.file t view s.fields) None =
    rw over.raised (begun_keeps over.found t view whole (over.opened whole) found_there) in
    subst (λ (w : Work). Keeps Firm s w None) (begun_is_work t s mended over view whole found) keeps

-- and it is what each base keeps that shows what the disk showed
pub opened_here : (t : Told) (s : Replica) (mended : Option Told) (over : MendsAll t s mended) → IsImage t.shown → (g : Grade) (view : View)
    (base : Told) → base.shown ≡ t.shown → MayOpen s.file view base → StandsFor g (unit_at s.file.layout s.file.cluster t.shown) view
    → OpenedOver g s view (begun_work s.file t.shown view) base (told_after over.mending.events (did Sync base))
opened_here t s mended over whole g view base same may stands =
    let shows : now base.log ≡ base.shown = λ i sector. sym (may.honest.shows sector) i in let found = rw (shows ∙ same) at may.found in
    subst (λ (w : Work). OpenedOver g s view w base (told_after over.mending.events (did Sync base)))
    (begun_is_work t s mended over view whole found) (opened_over t s mended over g view base same may stands)

pub calls_keep : CallsOnOpenFileKeepIt
calls_keep t s mended found to new xs failed calls whole live = record {
  stands = λ view is. begun_here t s mended found view whole is;
  answered = λ view is.
      answers_alone Firm (begun_work s.file t.shown view) s to mended new xs failed live (begun_here t s mended found view whole is) calls;
  result = λ view shown is agree. opened_answers s
      t mended found whole (begun_work s.file t.shown view) (begun_here t s mended found view whole is) to new failed shown agree xs calls;
  mends = (found.found, found.raised, found.own whole);
  adds = ends_add s to mended new xs failed calls;
  kept = λ g view base same may stands. (opened_here t s mended found whole g view base same may stands).kept_for;
  keeps = λ g view base same may stands. keeps_over g s view (begun_work s.file t.shown view)
      base (told_after found.mending.events (did Sync base)) live (opened_here t s mended found whole g view base same may stands)
      to mended new xs failed calls;
  acknowledged = λ g view base same may stands. keeps_answered s.file g (begun_work s.file t.shown view)
      (Some (told_after found.mending.events (did Sync base))) (made_on s mended to new xs failed calls) refl live
      (opened_here t s mended found whole g view base same may stands).kept_for;
  anew = calls_keep_anew t s mended found to new xs failed calls whole live;
  lived = λ log logs may. calls_lived t s mended found whole (events_to s to mended new xs failed calls) (λ view opens. safe_each
      s.file Firm (begun_work s.file t.shown view) (restarted t) xs failed found.mending.events (events_to s to mended new xs failed calls)
      (keeps_over Firm s view (begun_work s.file t.shown view) (restarted t) (told_after found.mending.events (did Sync (restarted t)))
      live (opened_here t s mended found whole Firm view (restarted t) refl opens tt) to mended new xs failed calls)) log logs may;
  spares = λ view is. spares_blocks
      (begun_work s.file t.shown view) (made_on s mended to new xs failed calls) live (begun_here t s mended found view whole is);
}
