-- Each word that works on a file is a run over it.
use Rattle.{std.proofs.Common.{◌≡◌, inl, inr, [], ◌∷◌, Option, Some, refl, sym, ◌∙◌, ap}, df_base.specs.Log.{Sync}}
use Rattle.{df_disk.specs.{Adds.{AddsPart}, Told.{Told, did}}, df_layout.specs.declared.layout.Layout.{Layout}}
use Rattle.df_pace.specs.{Beats.{idle}, declared.pace.Pace.{Pace}}
use Rattle.df_session.specs.{Found.{FoundFile, no_calls}, Laws.{CallsKeep}, Links.{CallsMade}, Opened.{StopsOpening}, Programs.{FileRun, IsSession, LooksOnly, Serves, StopsInOpen}}
use Rattle.df_top.specs.{Acknowledging.{run_calls, script_calls}, Opening.{StopsBefore}, Outside.{Outside}, Run.{ComesTo, ServesScript, Works}, declared.mode.Mode.{Mode}, declared.mode.Mode.TheVariants.{Format, Inspect, Paced, Recover, Run, Scrub, Upgrade, Workload}, declared.status.Status.{Status}}
use Rattle.df_lifetime.specs.Words.{ComesAs, GoesAs, IsQuiet, Outcome, WordIsRun, WorksAs, outcome_of}

-- ---- kinds of runs

module _ (t n : Told) (later : Option Told) (to : later ≡ Some n) where
  abbrev pub Quiet : Type 0
  Quiet = (run : FileRun t n) × IsQuiet run

  -- nothing was done but a barrier, if that
  pub looked : AddsPart (Sync ∷ []) (Some t) later → Quiet
  looked part = (LooksOnly (rw to at part), refl)

  pub untouched : later ≡ Some t → Quiet
  untouched same = looked (inl same)

  pub barred : later ≡ Some (did Sync t) → Quiet
  barred same = looked (inr same)

  -- or the disk failed in the open
  pub stopped : (layout : Layout) → StopsOpening layout t later → Quiet
  stopped layout stops = (StopsInOpen layout (rw to at stops), refl)

-- or calls were made on what was found
pub session : (t n : Told) (layout : Layout) (found : FoundFile layout t) (c : CallsMade) → c.from ≡ found.replica → c.old ≡ found.mended
    → c.new ≡ Some n → CallsKeep t found.replica found.mended found.mending c → (run : FileRun t n) × IsSession run layout found c
session t n layout found c on after to keep = (Serves (record { layout = layout; found = found; made = c; on = on; after = after; to = to; keep = keep }), (on, after, to, keep, refl))

-- ---- a word

module _ (t n : Told) (old new : Outside) (status : Status) (to : new.told ≡ Some n) where
  module _ (layout : Layout) where
    stops_before : (mode : Mode) → StopsBefore mode layout t new.told → (run : FileRun t n) × IsQuiet run
    stops_before Inspect stops = looked t n new.told to stops
    stops_before (Format shape cluster) stops = stopped t n new.told to layout stops
    stops_before Run stops = stopped t n new.told to layout stops
    stops_before Recover stops = stopped t n new.told to layout stops
    stops_before Scrub stops = stopped t n new.told to layout stops
    stops_before (Workload seed count) stops = stopped t n new.told to layout stops
    stops_before Upgrade stops = stopped t n new.told to layout stops
    stops_before (Paced pace) stops = stopped t n new.told to layout stops

    script_run : (pace : Pace) (found : FoundFile layout t) (serves : ServesScript pace layout t found old new status)
        → (run : FileRun t n) × IsSession run layout found (script_calls serves.session)
    script_run pace found serves =
        session t n layout found (script_calls serves.session) refl refl (ap (λ (o : Outside). o.told) serves.last_is ∙ to) serves.calls

    works_run : (mode : Mode) (found : FoundFile layout t) (works : Works mode layout t found old new status)
        → (run : FileRun t n) × WorksAs run mode layout found old new status works
    works_run (Format shape cluster) found works = absurd works
    works_run Upgrade found works = absurd works
    works_run Run found serves = script_run idle found serves
    works_run (Paced pace) found serves = script_run pace found serves
    works_run Recover found recovers = session t n layout found (no_calls found) refl refl (sym recovers.told ∙ to) recovers.calls
    works_run Inspect found inspects = barred t n new.told to inspects.barrier
    works_run Scrub found scrubs = session t n layout found (no_calls found) refl refl (scrubs.is_mended ∙ sym scrubs.told ∙ to) scrubs.calls
    works_run (Workload seed count) found works = session t n layout found (run_calls works.worked) refl refl to works.calls

    comes_run : (mode : Mode) (comes : ComesTo mode layout t old new status) → (run : FileRun t n) × ComesAs run mode layout old new status comes
    comes_run mode (inl refuses) = barred t n new.told to refuses.barrier
    comes_run mode (inr (inl fails)) = stops_before mode fails.disk
    comes_run mode (inr (inr works)) = works_run mode works.0 works.1

  goes_run : (mode : Mode)
      → old.told ≡ Some t → (outcome : Outcome mode t old new status) → (run : FileRun t n) × GoesAs run mode old new status outcome
  goes_run mode from (inl nothing) = untouched t n new.told to (nothing.without.same ∙ from)
  goes_run mode from (inr (inl refuses)) = untouched t n new.told to (refuses.same ∙ from)
  goes_run mode from (inr (inr does)) = comes_run does.0 mode does.1.1

pub word_is_run : WordIsRun
word_is_run t n word = goes_run t n word.old word.new
    word.status word.to word.mode word.from (outcome_of word.mode t word.old word.new word.status word.carried word.from word.whole)
