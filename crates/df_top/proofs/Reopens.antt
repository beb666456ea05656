-- What a word finds after damage before any number of opens was had since the last of them that raised its boot, and the history goes on.
use Rattle.std.proofs.{Common.{◌≡◌, ◌⊎◌, inl, inr, List, [], ◌∷◌, ◌++◌, Option, Some, refl, sym, ◌∙◌, ap, subst}, lemmas.Option.{same_Some}}
use Rattle.{df_base.specs.{Image.{Image}, Log.{Event, Log, Sync, add}, Moments.{EachMoment}}, df_theory.specs.{Holds.{Held}, View.{View}}}
use Rattle.df_disk.{specs.{Adds.{after_all}, Told.{Told, did}}, proofs.Laws.{after_append}}
use Rattle.{df_layout.specs.declared.layout.Layout.{Layout}, df_model.specs.{Commands.{Answer}, Work.{Work}}}
use Rattle.df_session.{specs.{Begun.{begun_work}, Below.{DataFile, FindsSince, IsLivedDisk, MayReopen, restarted, shape, told_after}, Keeping.{KeepsFile, over}, Serving.{Firm, format, next}, Session.{Act, Exchange, HoldsSome, IsMidway, acts_in}, Found.{FoundFile, no_calls}, Laws.{CallsKeep}, Links.{CallsMade, events_made, list_of}, Opened.{StopsOpening}}, proofs.Laws.{begun_may_open, file_there, found_was_since, lived_layout, told_append}}
use Rattle.df_top.specs.{Acknowledging.{run_calls, script_calls}, Opening.{StopsBefore}, Outside.{Outside}, Reopening.{ComesSince, IsLivedFile, LivesThrough, RunsOverHistory, ServesOverHistory, ServesSince, StaysLived}, Run.{ComesTo, Does, Runs, ServesIn, ServesOwn, Works}, declared.mode.Mode.{Mode}, declared.mode.Mode.TheVariants.{Format, Run, Recover, Inspect, Scrub, Workload, Upgrade, Paced}, declared.status.Status.{Status}}

-- ---- a session

-- what is left has a view, whichever
some_view : (file : DataFile) (w : Work) (acts : List Act) (image : Image)
    → HoldsSome file Firm w acts image → (view : View) × Held (shape file) ((format file).unit_at image) view
some_view file w [] image has = (has.0, has.2)
some_view file w (a ∷ acts) image (inl has) = (has.0, has.2)
some_view file w (a ∷ acts) image (inr later) = some_view file (next file w a.given a.command).0 acts image later

either_view : (file : DataFile) (image : Image) (v u : View) → Held (shape file) ((format file).unit_at image) v
    ⊎ Held (shape file) ((format file).unit_at image) u → (view : View) × Held (shape file) ((format file).unit_at image) view
either_view file image v u (inl held) = (v, held)
either_view file image v u (inr held) = (u, held)

session_lives : (file : DataFile)
    (logs : List Log) (w : Work) (base : Told) (xs : List Exchange) (failed : Option Act) (mending added : List Event)
    → KeepsFile file Firm w base xs failed (over mending added base)
    → EachMoment (did Sync base).log (told_after added (told_after mending (did Sync base))).log (IsLivedDisk file logs)
    → EachMoment (did Sync base).log (told_after added (told_after mending (did Sync base))).log (IsLivedFile file logs)
session_lives file logs w base xs failed mending added keeps lived = λ l moment.
    let exit : Told = told_after added (told_after mending (did Sync base)) in
    let each : EachMoment (did Sync base).log exit.log (IsMidway file Firm w (acts_in xs ++ list_of failed)) =
    rw (sym (same_Some exit keeps.after keeps.is)) at keeps.moments in record {
      safe = (each l moment).safe;
      left = λ image gone chance. some_view file w (acts_in xs ++ list_of failed) image ((each l moment).left image gone chance);
      lived = lived l moment;
    }

-- ---- a word

module _ (file : DataFile) (log : Log) (logs : List Log) (t : Told) (may : MayReopen file log logs t.shown) where
  -- what was opened is this file
  abbrev Finds : FoundFile file.layout t → Type 0
  Finds found = FindsSince file log logs t.shown found.found

  finds : (found : FoundFile file.layout t) → Finds found
  finds found = found_was_since file log logs t.shown found.found may found.is_opened

  same_file : (found : FoundFile file.layout t) → found.replica.file ≡ file
  same_file found = file_there file.layout t found ∙ (finds found).of

  -- the calls of a word keep it lived
  pub calls_live : (found : FoundFile file.layout t) (c : CallsMade) → CallsKeep t found.replica found.mended found.mending c
      → (later : Option Told) → later ≡ after_all (events_made c) found.mended → LivesThrough file log logs t later
  calls_live found c keeps later adds = let of : DataFile = found.replica.file in
      let here : MayReopen of log logs t.shown = rw (sym (same_file found)) at may in
      let has : FindsSince of log logs t.shown found.found = rw (sym (same_file found)) at (finds found) in
      let opens = begun_may_open of has.found t here.version has.begins in
      subst (λ (f : DataFile). LivesThrough f log logs t later) (same_file found) (record {
        events = found.mending.events ++ events_made c;
        told = adds ∙ ap (after_all (events_made c)) found.mending.told
            ∙ sym (after_append found.mending.events (events_made c) (Some (did Sync t)));
        moments = rw (sym (told_append found.mending.events (events_made c) (did Sync (restarted t)))) at
            (session_lives of (add Sync log ∷ logs) (begun_work of t.shown has.found) (restarted t) c.exchanges c.failed
            found.mending.events (events_made c) (keeps.keeps Firm has.found (restarted t) refl opens tt) (keeps.lived log logs here));
      })

  -- so does an open that was stopped by the disk
  pub stops_live : (later : Option Told) → StopsOpening file.layout t later → StaysLived file log logs t later
  stops_live later (inl same) = inl (inl same)
  stops_live later (inr (inl barrier)) = inl (inr barrier)
  stops_live later (inr (inr partly)) = let of : DataFile = partly.found.file in
      let first = found_was_since file log logs t.shown partly.found may partly.opened in
      let here : MayReopen of log logs t.shown = rw (sym first.of) at may in
      let has : FindsSince of log logs t.shown partly.found = rw (sym first.of) at first in
      let good = partly.moments Firm has.found (restarted t) refl (begun_may_open of has.found t here.version has.begins) tt in
      inr (rw (← first.of) (record {
        events = partly.mending.events;
        told = partly.mending.told;
        moments = λ l moment. record {
          safe = (good.0 l moment).safe;
          left = λ image gone chance. either_view of image _ _ ((good.0 l moment).left image gone chance);
          lived = partly.lived log logs here l moment;
        };
      }))

  module _ (old new : Outside) (status : Status) where
    fails_live : (mode : Mode) → StopsBefore mode file.layout t new.told → StaysLived file log logs t new.told
    fails_live Inspect stops = inl stops
    fails_live case stops = stops_live new.told stops

    word_lives : (mode : Mode) (found : FoundFile file.layout t)
        → Works mode file.layout t found old new status → StaysLived file log logs t new.told
    word_lives (Format layout cluster) found works = absurd works
    word_lives Upgrade found works = absurd works
    word_lives Run found serves = inr (calls_live found (script_calls serves.session) serves.calls new.told serves.adds)
    word_lives (Paced pace) found serves = inr (calls_live found (script_calls serves.session) serves.calls new.told serves.adds)
    word_lives Recover found works = inr (calls_live found (no_calls found) works.calls new.told works.told)
    word_lives Inspect found works = inl (inr works.barrier)
    word_lives Scrub found works = inr (calls_live found (no_calls found) works.calls new.told (works.told ∙ sym works.is_mended))
    word_lives (Workload seed count) found works = inr (calls_live found (run_calls works.worked) works.calls new.told works.calls.adds)

    comes_since : (mode : Mode) (comes : ComesTo mode file.layout t old new status)
        → ComesSince file log logs t file.layout mode old new status comes × StaysLived file log logs t new.told
    comes_since mode (inl refuses) = (tt, inl (inr refuses.barrier))
    comes_since mode (inr (inl fails)) = (tt, fails_live mode fails.disk)
    comes_since mode (inr (inr works)) = (finds works.0, word_lives mode works.0 works.1)

    serves_since : (mode : Mode) → Does mode file.layout t old new status → ServesSince file log logs t mode old new status
    serves_since mode does = let both = comes_since mode does.1 in record { does = does; since = both.0; lived = both.1 }

    own : (mode : Mode) → ServesOwn mode t old new status → ServesSince file log logs t mode old new status
    own mode serves = serves_since mode (rw (lived_layout file log logs t.shown may serves.layout serves.shown) at serves.serves)

-- of three outcomes the last one says more
on_last : {A B C D : Type 0} → (C → D) → A ⊎ B ⊎ C → A ⊎ B ⊎ D
on_last more (inl a) = inl a
on_last more (inr (inl b)) = inr (inl b)
on_last more (inr (inr c)) = inr (inr (more c))

pub serves_over_history : (mode : Mode) (layout : Layout) (old new : Outside) (status : Status)
    → ServesIn mode layout old new status → ServesOverHistory mode layout old new status
serves_over_history mode layout old new status serves = λ file t log logs same told may.
    serves_since file log logs t may old new status mode (rw same at (serves t told may.whole))

pub runs_over_history : (mode : Mode) (old new : Outside) (status : Status) → Runs mode old new status → RunsOverHistory mode old new status
runs_over_history mode old new status runs = λ file t log logs told may.
    on_last (own file log logs t may old new status mode) (runs t told may.whole)
