-- What calls leave of a disk and of a file, after an open, by each log that is told of it.
use Rattle.std.proofs.{Common.{◌≡◌, inl, inr, ℕ, true, List, [], ◌∷◌, ◌++◌, append_assoc, Option, Some, None, refl, sym, ◌∙◌, ap, subst}, lemmas.List.{append-nil}}
use Rattle.df_base.{specs.{Image.{Image}, Log.{Event, Log, Sync}, Moments.{EachMoment, Extends, adds}}, proofs.Laws.{extends_self, weaker, adds_on, extends_on}}
use Rattle.df_disk.{specs.{Adds.{after_all}, Told.{IsHonest, Told, did}}, proofs.Laws.{Goes, after_append, goes_by, honest_did}}
use Rattle.df_theory.specs.{Device.{units_log}, Shape.{Shape}, UnitLog.{UnitLog}, TidyLaws.{IsTidy}, Units.{Parts}, View.{View}}
use Rattle.{df_units.specs.Bytes.{unit_at}, df_model.specs.{Views.{KeepsView}, Work.{Work, kept}}}
use Rattle.df_replica.{specs.{Below.{DataFile, State as Replica, shape, spelling, told_after}, Following.{MayOpen}, Leaving.{AreSettled, SparesHeld}, Opened.{MendsAll, ToldBy, begun_state}, Serving.{Firm, Grade, IsGoodFor, IsKept, Keeps, KeptFor, StandsFor, Whole, format}, Session.{Act, EachIsMidway, Exchange, HasView, HoldsSome, IsMidway, IsServed, LeavesEither, LeavesView, acts_in, answers_in, answers_of, work_after}}, proofs.Laws.{added_is_told, answered_is_there, fault_stops_them, good_left, good_safe, holds_on, joined, keeps_alone, nothing_is_served, one_more_is_served}}
use Rattle.df_session.{specs.{Keeping.{KeepsFile}, Links.{AreCalls, Calls, EndsCalls, More, NoCalls, call_events, events_to}}, proofs.Untouched.{settled_told, stay_settled}}

-- ---- what is told

told_on : (old mid new : Option Told) → ToldBy old mid → ToldBy mid new → ToldBy old new
told_on old mid new one two = (one.0 ++ two.0, two.1 ∙ ap (after_all two.0) one.1 ∙ sym (after_append one.0 two.0 old))

calls_told : (s t : Replica) (old new : Option Told) (xs : List Exchange) → AreCalls s old xs t new → ToldBy old new
calls_told s t old new [] NoCalls = ([], refl)
calls_told s t old new (x ∷ xs) (More u mid call rest) = told_on old mid new (call.call.events, call.call.told) (calls_told u t mid new xs rest)

pub ends_told : (s t : Replica) (old new : Option Told) (xs : List Exchange) (failed : Option Act)
    → EndsCalls s t old new xs failed → ToldBy old new
ends_told s t old new xs None calls = calls_told s t old new xs calls
ends_told s t old new xs (Some a) calls =
    told_on old calls.1 new (calls_told s calls.0 old calls.1 xs calls.2) (calls.3.call.events, calls.3.call.told)

-- all that was told is what the calls added
calls_add : (s t : Replica) (old new : Option Told) (xs : List Exchange)
    → (calls : AreCalls s old xs t new) → new ≡ after_all (call_events calls) old
calls_add s t old new [] NoCalls = refl
calls_add s t old new (x ∷ xs) (More u mid call later) = let rest = call_events later in
    calls_add u t mid new xs later ∙ ap (after_all rest) call.call.told ∙ sym (after_append call.call.events rest old)

pub ends_add : (s t : Replica) (old new : Option Told) (xs : List Exchange) (failed : Option Act)
    → (calls : EndsCalls s t old new xs failed) → new ≡ after_all (events_to s t old new xs failed calls) old
ends_add s t old new xs None calls = calls_add s t old new xs calls
ends_add s t old new xs (Some a) calls = let front = call_events calls.2 in calls.3.call.told
    ∙ ap (after_all calls.3.call.events) (calls_add s calls.0 old calls.1 xs calls.2) ∙ sym (after_append front calls.3.call.events old)

-- what a base tells after events goes on from it
pub goes_over : (es : List Event) (t : Told) → Goes t (told_after es t)
goes_over [] t = record { grew = extends_self t.log; honest = λ h. h }
goes_over (e ∷ es) t = let rest = goes_over es (did e t) in
    record { grew = extends_on (told_after es (did e t)).log (did e t).log t.log rest.grew (e ∷ [], refl, refl); honest = λ h. rest.honest (honest_did e t h) }

-- ---- what was served

serves_on : (s0 s t : Replica) (told0 told new : Option Told) (xs ys : List Exchange) (events : List Event) → IsServed
    s0 s told0 told xs events → (calls : AreCalls s told ys t new) → IsServed s0 t told0 new (xs ++ ys) (events ++ call_events calls)
serves_on s0 s t told0 told new xs [] events served NoCalls =
    subst (λ (l : List Exchange). IsServed s0 t told0 new l (events ++ [])) (sym (append-nil xs)) (rw (sym (append-nil events)) at served)
serves_on s0 s t told0 told new xs (y ∷ ys) events served (More u mid call rest) = let fs = call.call.events in
    subst (λ (l : List Exchange). IsServed s0 t told0 new l (events ++ (fs ++ call_events rest))) (append_assoc xs (y ∷ []) ys)
    (rw (append_assoc events fs (call_events rest)) at (serves_on
    s0 u t told0 mid new (xs ++ y ∷ []) ys (events ++ fs) (one_more_is_served s0 s u told0 told mid xs events y served call.call) rest))

pub all_served : (s t : Replica) (old new : Option Told) (xs : List Exchange)
    → s.live ≡ true → (calls : AreCalls s old xs t new) → IsServed s t old new xs (call_events calls)
all_served s t old new xs live calls = serves_on s s t old old new [] xs [] (nothing_is_served s old live) calls

-- ---- what is kept

some_first : (file : DataFile) (g : Grade) (w : Work) (acts : List Act) (image : Image) → HasView file g w image → HoldsSome file g w acts image
some_first file g w [] image has = has
some_first file g w (a ∷ acts) image has = inl has

-- what is kept for a grade is tidy
tidy_for : (g : Grade) (sh : Shape) (spell : Parts → List ℕ) (log : UnitLog) (w : Work) → KeptFor g sh spell log w → IsTidy sh log (kept w)
tidy_for Firm sh spell log w by = by.tidy
tidy_for Whole sh spell log w by = by.0.tidy

-- what an open leaves by a base: the file is kept, each moment since the barrier had the view that was found or the state's, and no block
-- of the checkpoint is loose
pub record OpenedOver (g : Grade) (s : Replica) (view : View) (w : Work) (base n : Told) : Type 0 where
  pub honest : IsHonest n
  pub grew : Extends n.log (did Sync base).log
  pub kept_for : IsKept g s w n.log
  pub moments : EachMoment (did Sync base).log n.log (IsGoodFor g (format s.file) (shape s.file) view (kept w))
  pub bare : KeepsView view (kept w)
  pub settled : AreSettled s.file n.log w

-- what an open leaves by each base that shows what the disk showed
pub opened_over : (t : Told) (s : Replica) (mended : Option Told) (over : MendsAll t s mended) (g : Grade) (view : View) (base : Told)
    → base.shown ≡ t.shown → MayOpen s.file view base → StandsFor g (unit_at s.file.layout s.file.cluster t.shown) view
    → OpenedOver g s view (begun_state s.file t view s.fields) base (told_after over.mending.events (did Sync base))
opened_over t s mended over g view base same may stands = let n : Told = told_after over.mending.events (did Sync base) in
    let goes = goes_over over.mending.events (did Sync base) in let is = over.over g view base same may stands in
    let at : Image → Work = λ m. begun_state s.file (record { log = base.log; shown = m }) view s.fields in record {
      honest = goes.honest (record { shows = may.honest.shows });
      grew = goes.grew;
      kept_for = rw (← same) is.kept_for;
      moments = subst (λ (m : Image).
          EachMoment (did Sync base).log n.log (IsGoodFor g (format s.file) (shape s.file) view (kept (at m)))) same is.moments;
      bare = subst (λ (m : Image). KeepsView view (kept (at m))) same is.bare;
      settled = rw (← same) is.settled;
    }

module _ (g : Grade)
    (s : Replica) (view : View) (w : Work) (base n0 : Told) (live : s.live ≡ true) (is_opened : OpenedOver g s view w base n0) where
  good_midway : (acts : List Act) (log : Log) → IsGoodFor g (format s.file) (shape s.file) view (kept w) log → IsMidway s.file g w acts log
  good_midway acts log is = record {
    safe = good_safe s.file g view (kept w) log is;
    left = λ image left chance. some_first s.file g w acts image (elim (good_left s.file g view (kept w) log is image left chance) [
      | inl found ↦ holds_on g (shape s.file) ((format s.file).unit_at image) view (kept w) is_opened.bare found
      | inr raised ↦ raised
    ]);
  }

  -- the moments of the opening, and those after it
  all_moments : (acts : List Act) (n : Told)
      → EachIsMidway s.file g w acts (Some n0) (Some n) → EachMoment (did Sync base).log n.log (IsMidway s.file g w acts)
  all_moments acts n midway = joined (did Sync base).log n0.log n.log (IsMidway s.file g w acts) midway.0
      (weaker (did Sync base).log n0.log _ (IsMidway s.file g w acts) (λ log is. good_midway acts log is) is_opened.moments) midway.1

  tidy_of : (u : Replica) (v : Work) (log : Log)
      → u.file ≡ s.file → IsKept g u v log → IsTidy (shape s.file) (units_log (format s.file) log) (kept v)
  tidy_of u v log same k = subst (λ (f : DataFile). IsTidy (shape f) (units_log (format f) log) (kept v))
      same (tidy_for g (shape u.file) (spelling u.file) (units_log (format u.file) log) v k.kept_by)

  alone : Keeps Firm s w None
  alone = keeps_alone g s w (Some n0) is_opened.kept_for

  -- no block of the checkpoint is loose after the calls that were answered, nor after one that was not
  settled_behind : (u : Replica) (old new : Option Told) (xs : List Exchange) (events : List Event)
      → IsServed s u old new xs events → AreSettled s.file (adds events n0.log) (work_after s.file w (acts_in xs))
  settled_behind u old new xs events served = served.settles w n0.log alone is_opened.settled

  settled_still : (u v : Replica) (old mid new : Option Told) (xs : List Exchange) (events : List Event) (a : Act)
      → IsServed s u old mid xs events → (call : Calls a u v mid new None)
      → AreSettled s.file (adds (events ++ call.call.events) n0.log) (work_after s.file w (acts_in xs))
  settled_still u v old mid new xs events a served call = let then = (served.answered Firm w alone).1 in
      let spares : SparesHeld s.file a.command (work_after s.file w (acts_in xs)) call.call.events =
      rw served.file at (call.call.spares (work_after s.file w (acts_in xs)) then) in
      subst (λ (l : Log). AreSettled s.file l (work_after s.file w (acts_in xs))) (sym (adds_on events call.call.events n0.log))
      (stay_settled (work_after s.file w (acts_in xs))
      then.0.clear s.file a.command call.call.events (adds events n0.log) spares (settled_behind u old mid xs events served))

  -- every call was answered
  kept_answered : (u : Replica) (old new : Option Told) (xs : List Exchange) (n : Told) (calls : AreCalls s old xs u new)
      → after_all (call_events calls) (Some n0) ≡ Some n → Goes n0 n
      → KeepsFile s.file g w base xs None (after_all (call_events calls) (Some n0))
  kept_answered u old new xs n calls is goes = let served = all_served s u old new xs live calls in
      let on = served.kept_on g w (Some n0) is_opened.kept_for in record {
        after = n;
        is = is;
        honest = goes.honest is_opened.honest;
        barrier = extends_on n.log n0.log (did Sync base).log goes.grew is_opened.grew;
        moments = rw (sym (append-nil (acts_in xs))) at (all_moments (acts_in xs) n (rw is at on.0));
        left = rw is at (answered_is_there s u old new xs (call_events calls) served g w (Some n0) is_opened.kept_for);
        tidy = tidy_of u (work_after s.file w (acts_in xs)) n.log served.file (rw is at on.1);
        settled = settled_told
            s.file (work_after s.file w (acts_in xs)) (call_events calls) n0 n is (settled_behind u old new xs (call_events calls) served);
        answered = (served.answered g w (keeps_alone g s w (Some n0) is_opened.kept_for)).0;
      }

  -- the disk failed in the last one
  kept_failed : (u : Replica) (old new : Option Told) (xs : List Exchange) (a : Act) (n : Told) (calls : EndsCalls s u old new xs (Some a))
      → after_all (events_to s u old new xs (Some a) calls) (Some n0) ≡ Some n → Goes n0 n
      → KeepsFile s.file g w base xs (Some a) (after_all (events_to s u old new xs (Some a) calls) (Some n0))
  kept_failed u old new xs a n calls is goes = let served = all_served s calls.0 old calls.1 xs live calls.2 in
      let stopped = fault_stops_them s calls.0 u old calls.1 new xs (call_events calls.2) a served calls.3.call in record {
        after = n;
        is = is;
        honest = goes.honest is_opened.honest;
        barrier = extends_on n.log n0.log (did Sync base).log goes.grew is_opened.grew;
        moments = all_moments (acts_in xs ++ a ∷ []) n (rw is at (stopped.moments g w (Some n0) is_opened.kept_for));
        left = rw is at (stopped.left g w (Some n0) is_opened.kept_for);
        tidy = tt;
        settled = settled_told s.file (work_after s.file w (acts_in xs)) (events_to s u old new xs (Some a) calls) n0 n is
            (settled_still calls.0 u old calls.1 new xs (call_events calls.2) a served calls.3);
        answered = (served.answered g w (keeps_alone g s w (Some n0) is_opened.kept_for)).0;
      }

  pub keeps_file : (u : Replica) (old new : Option Told) (xs : List Exchange) (failed : Option Act) (calls : EndsCalls s u old new xs failed)
      → KeepsFile s.file g w base xs failed (after_all (events_to s u old new xs failed calls) (Some n0))
  keeps_file u old new xs None calls = let goes = goes_by (call_events calls) n0 (after_all (call_events calls) (Some n0)) refl in
      kept_answered u old new xs goes.0 calls goes.1 goes.2
  keeps_file u old new xs (Some a) calls =
      let goes = goes_by (events_to s u old new xs (Some a) calls) n0 (after_all (events_to s u old new xs (Some a) calls) (Some n0)) refl in
      kept_failed u old new xs a goes.0 calls goes.1 goes.2

  -- as it is said of the base
  pub keeps_over : (u : Replica) (old new : Option Told) (xs : List Exchange) (failed : Option Act) (calls : EndsCalls s u old new xs failed)
      → KeepsFile s.file g w base xs failed (Some (told_after (events_to s u old new xs failed calls) n0))
  keeps_over u old new xs failed calls = subst (λ (o : Option Told). KeepsFile s.file g w base xs failed o)
      (added_is_told (events_to s u old new xs failed calls) n0) (keeps_file u old new xs failed calls)

-- the answers, over whatever image
pub answers_alone : (g : Grade) (w : Work) (s u : Replica) (old new : Option Told) (xs : List Exchange) (failed : Option Act)
    → s.live ≡ true → Keeps g s w None → EndsCalls s u old new xs failed → answers_in xs ≡ answers_of s.file w (acts_in xs)
answers_alone g w s u old new xs None live keeps calls = ((all_served s u old new xs live calls).answered g w keeps).0
answers_alone g w s u old new xs (Some a) live keeps calls = ((all_served s calls.0 old calls.1 xs live calls.2).answered g w keeps).0
