-- What calls keep by the log that is restarted at the end of their open, whatever was done to the disk before.
use Rattle.{std.proofs.Common.{◌≡◌, ℕ, true, List, [], Option, Some, refl, subst}, df_disk.specs.Told.{Told, did}}
use Rattle.{df_base.{specs.{Image.{Image, IsImage}, Log.{Sync}}, proofs.Laws.{extends_self}}, df_units.specs.Bytes.{unit_at}}
use Rattle.df_theory.{specs.{Device.{units_log}, Found.{IsFound}, Shape.{Shape}, UnitLog.{Synced, UnitLog, add}, Units.{Parts}, View.{View}}, proofs.Laws.{tidy_sync_law}}
use Rattle.df_model.specs.{Laws.{IsKeptBy}, Work.{Work, kept}}
use Rattle.df_session.{specs.{Begun.{begun_work}, Anew.{KeepsAnew}, Laws.{made_on}, Links.{EndsCalls}}, proofs.{BegunWorks.{begun_is_work}, Acknowledged.{keeps_answered}, Kept.{OpenedOver, keeps_over}}}
use Rattle.df_replica.{specs.{Below.{AreDistinctUnits, State as Replica, restarted, shape, spelling, told_after}, Opened.{HistoryBegins, MendsAll}, Serving.{Firm, Grade, IsKept, KeptFor, StandsFor, Whole, format}, Session.{Act, Exchange}}, proofs.Laws.{good_now, keeps_self, same_goes_on}}

-- ---- a sync keeps what is kept

synced_firm : (sh : Shape) (spell : Parts → List ℕ) (log : UnitLog) (w : Work)
    → IsKeptBy sh spell log w → IsKeptBy sh spell (add Synced log) w
synced_firm sh spell log w by = record { sense = by.sense; tidy = (tidy_sync_law sh log (kept w) by.tidy).0.tidy; written = by.written }

synced_for : (g : Grade) (sh : Shape) (spell : Parts → List ℕ) (log : UnitLog) (w : Work)
    → KeptFor g sh spell log w → KeptFor g sh spell (add Synced log) w
synced_for Firm sh spell log w by = synced_firm sh spell log w by
synced_for Whole sh spell log w by = (
  synced_firm sh spell log w by.0,
  record { standing = record { shown = by.1.standing.shown; firm = λ a c is. refl }; live = by.1.live; captured = by.1.captured },
)

pub kept_synced : (g : Grade) (s : Replica) (w : Work) (t : Told) → IsKept g s w t.log → IsKept g s w (did Sync t).log
kept_synced g s w t k = record {
  log_is = record { start = k.log_is.start; events = k.log_is.events };
  stands = k.stands;
  kept_by = synced_for g (shape s.file) (spelling s.file) (units_log (format s.file) t.log) w k.kept_by;
  ring = k.ring;
}

-- what is kept where a log is begun goes on from its barrier
opened_begun : (g : Grade) (s : Replica) (w : Work) (n : Told)
    → IsKept g s w (restarted n).log → OpenedOver g s (kept w) w (restarted n) (did Sync (restarted n))
opened_begun g s w n k = let synced : IsKept g s w (did Sync (restarted n)).log = kept_synced g s w (restarted n) k in record {
  honest = record { shows = λ sector. refl };
  grew = extends_self (did Sync (restarted n)).log;
  kept_for = synced;
  moments = good_now g s w (did Sync (restarted n)) synced;
  bare = keeps_self (kept w);
  settled = record { firm = λ a sector durable here. refl };
}

-- ---- the calls

pub calls_keep_anew : (t : Told) (s : Replica) (mended : Option Told) (found : MendsAll t s mended)
    (to : Replica) (new : Option Told) (xs : List Exchange) (failed : Option Act) (calls : EndsCalls s to mended new xs failed)
    → IsImage t.shown → s.live ≡ true → (g : Grade) (view : View) → IsFound
    (shape s.file) (unit_at s.file.layout s.file.cluster t.shown) view → AreDistinctUnits (unit_at s.file.layout s.file.cluster t.shown)
    → StandsFor g (unit_at s.file.layout s.file.cluster t.shown) view
    → KeepsAnew g t s view found.mending.events (made_on s mended to new xs failed calls)
calls_keep_anew t s mended found to new xs failed calls whole live g view is distinct stands = let es = found.mending.events in
    let n : Told = told_after es (did Sync t) in let w : Work = begun_work s.file t.shown view in
    let anew = found.anew g view whole is distinct stands in
    let same : (told_after es (restarted t)).shown ≡ n.shown = same_goes_on es (did Sync t) (restarted t) refl in
    let started : IsKept g s w (restarted (told_after es (restarted t))).log =
    rw (begun_is_work t s mended found view whole is) at anew.kept_for in let there : IsKept g s w (restarted n).log = rw same at started in
    let by : OpenedOver g s (kept w) w (restarted n) (did Sync (restarted n)) = opened_begun g s w n there in record {
      opening = anew.moments;
      bare = anew.bare;
      kept = there;
      begins = subst (HistoryBegins s.file) same anew.begins;
      keeps = keeps_over g s (kept w) w (restarted n) (did Sync (restarted n)) live by to mended new xs failed calls;
      acknowledged = keeps_answered s.file g w (Some (did Sync (restarted n))) (made_on s mended to new xs failed calls) refl live by.kept_for;
    }
