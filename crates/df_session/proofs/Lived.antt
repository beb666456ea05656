-- Calls on an open file keep its history lived.
use Rattle.std.proofs.{Common.{◌≡◌, List, ◌∷◌, Option, ap, subst, sym, ◌++◌, [], refl}, lemmas.Option.{same_Some}}
use Rattle.df_base.{specs.{Image.{IsImage}, Log.{Event, Log, Sync, add}, Moments.{EachMoment}}, proofs.Laws.{extends_on}}
use Rattle.{df_disk.specs.Told.{Told, did}, df_theory.specs.{Device.{IsSafeDisk}, View.{View}}, df_model.specs.Work.{Work}}
use Rattle.df_replica.{specs.{Below.{DataFile, FindsSince, IsLivedDisk, IsOpened, MayReopen, State as Replica, restarted, shape, told_after}, Following.{MayOpen}, Opened.{MendsAll}, Serving.{Grade, format}, Session.{Act, Exchange}}, proofs.Laws.{begun_may_open, found_was_since, joined, raised_goes_on}}
use Rattle.df_session.{specs.Keeping.{KeepsFile, over}, proofs.Kept.{goes_over}}

-- at each moment of a session the log is safe
abbrev IsSafeEach : DataFile → (base n : Told) → Type 0
IsSafeEach file base n = EachMoment (did Sync base).log n.log (IsSafeDisk (format file) (shape file))

pub safe_each : (file : DataFile) (g : Grade) (w : Work) (base : Told) (xs : List Exchange) (failed : Option Act) (mending added : List Event)
    → KeepsFile file g w base xs failed (over mending added base) → IsSafeEach file base (told_after added (told_after mending (did Sync base)))
safe_each file g w base xs failed mending added keeps = subst (λ (n : Told). IsSafeEach file base n) (sym (same_Some
    (told_after added (told_after mending (did Sync base))) keeps.after keeps.is)) (λ l moment. (keeps.moments l moment).safe)

-- from the barrier of the open on the history is lived with the log that is restarted there
pub calls_lived : (t : Told) (s : Replica) (mended : Option Told) (found : MendsAll t s mended) → IsImage t.shown → (events : List Event)
    → ((view : View) → MayOpen s.file view (restarted t)
    → IsSafeEach s.file (restarted t) (told_after events (told_after found.mending.events (did Sync (restarted t)))))
    → (log : Log) (logs : List Log) → MayReopen s.file log logs t.shown → EachMoment (did Sync (restarted t)).log
    (told_after events (told_after found.mending.events (did Sync (restarted t)))).log (IsLivedDisk s.file (add Sync log ∷ logs))
calls_lived t s mended found whole events safe log logs may = let entry : Told = did Sync (restarted t) in
    let mid : Told = told_after found.mending.events entry in let exit : Told = told_after events mid in
    let file_is : s.file ≡ found.found.file = ap (λ (r : Replica). r.file) found.raised in
    let is : IsOpened s.file.layout t.shown found.found = rw file_is (found.opened whole) in
    let finds : FindsSince s.file log logs t.shown found.found = found_was_since s.file log logs t.shown found.found may is in
    let each = safe finds.found (begun_may_open s.file finds.found t may.version finds.begins) in let opening = found.lived log logs may in
    joined entry.log mid.log exit.log (IsLivedDisk s.file (add Sync log ∷ logs)) (goes_over events mid).grew opening.moments (λ l moment.
    raised_goes_on s.file mid.log l (add Sync log) logs opening.raised may.lived moment.since
    (each l (record { since = extends_on l mid.log entry.log moment.since (goes_over found.mending.events entry).grew; until = moment.until })))

-- ---- what is told after events, and after others

pub told_append : (es fs : List Event) (n : Told) → told_after (es ++ fs) n ≡ told_after fs (told_after es n)
told_append [] fs n = refl
told_append (e ∷ es) fs n = told_append es fs (did e n)
