-- A file that is reported: what a survey found of it, the summary of what was opened, or a tour over it; and one that is refused.
use Rattle.std.proofs.Common.{◌≡◌, inl, inr, ℕ, true, List, [], ◌∷◌, Option, Some, None, refl, sym, ◌∙◌, ap, subst, Ok, Err}
use Rattle.{df_base.specs.{Image.{Image, IsImage}, Log.{Sync}}, df_disk.specs.{Adds.{AddsPart}, Told.{Told, after, did}}}
use Rattle.{df_inspect.specs.Reports.{inspection_text, summary_text}, df_layout.specs.declared.{damage.Mend.{Mend}, layout.Layout.{Layout}}}
use Rattle.df_model.{specs.{Memory.{Memory, referenced_of}, Reading.{IsTour}, Work.{first_tour}, declared.answers.Summary.{Summary}, declared.errors.OpenError.{OpenError}}, proofs.Laws.{tour_law}}
use Rattle.df_model.specs.declared.errors.OpenError.TheVariants as opens
use Rattle.df_session.{specs.{Below.{DataFile, Syncs, IsOpened, State as Replica, shape, told_after}, Leaving.{SparesReads}, Opened.{Mends, MendsAll}, Reading.{shown_of}, Replica.{Survey, summary_of}, Scrubbing.{IsMachineTour, at_start}, Surveying.{TellsMends, TellsSurvey}, Links.{NoCalls}, Found.{FoundFile, no_calls}, Laws.{CallsKeep}}, proofs.Laws.{added_is_told, shown_after, calls_keep}}
use Rattle.{df_sessions.specs.declared.session.Session.{Session}, df_program.proofs.Laws.{open_fault}}
use Rattle.df_top.{specs.{Outside.{Outside, PrintsLine}, Refusing.{PrintsOpenError}, Reporting.{Inspects, Recovers, report_of, status_of}, Run.{ComesTo}, Scrubs.{PrintsTour, ScrubsFile}, declared.mode.Mode.TheVariants.{Inspect}, declared.status.Status.{Status}, declared.status.Status.TheVariants.{Done}}, proofs.Served.{not_opened, opened_file}}

-- ---- the barrier

pub syncs_once : (old new : Option Told) (e : OpenError)
    → (e ≡ opens.DiskFault → ⊥) → Syncs {T = Replica} old new (Err e) → new ≡ after Sync old
syncs_once old new opens.DiskFault other syncs = absurd (other refl)
syncs_once old new case other syncs = syncs

syncs_failed : (old new : Option Told) (e : OpenError)
    → e ≡ opens.DiskFault → Syncs {T = Replica} old new (Err e) → AddsPart (Sync ∷ []) old new
syncs_failed old new e is syncs = subst (λ (x : OpenError). Syncs {T = Replica} old new (Err x)) is syncs

-- it adds nothing but its sync
pub syncs_part : (old new : Option Told) (e : OpenError) → Syncs {T = Replica} old new (Err e) → AddsPart (Sync ∷ []) old new
syncs_part old new e syncs = elim (open_fault e) [
  | inl is ↦ syncs_failed old new e is syncs
  | inr other ↦ inr (syncs_once old new e other.0 syncs)
]

-- ---- what is printed

-- what is printed of equal values is one text
pub same_report : (P : List ℕ → Type 0) (a b : Summary) (r q : List ℕ) (s u : List Session) (m n : List Mend)
    → a ≡ b → r ≡ q → s ≡ u → m ≡ n → P (inspection_text a r s m) → P (inspection_text b q u n)
same_report P a b r q s u m n one two three four has = subst (λ (l : List Mend). P (inspection_text b q u l)) four (rw three at
    (rw two at (rw one at has)))

pub same_summary : (P : List ℕ → Type 0) (a b : Summary) → a ≡ b → P (summary_text a) → P (summary_text b)
same_summary P a b same has = subst (λ (x : Summary). P (summary_text x)) same has

-- ---- inspect

-- what adds nothing mends nothing
mends_none : (file : DataFile) (told : Option Told) → Mends file told told
mends_none file told = record {
  events = [];
  told = refl;
  within = tt;
  spares = λ image is.
      record { whole = is; units = record { prepare = λ k. refl; reply = λ k. refl; block = λ k. refl }; classes = λ place read. refl };
}

module _ (layout : Layout) (t : Told)
    (old new : Outside) (status : Status) (whole : IsImage t.shown) (told : old.told ≡ Some t) (unread : new.left ≡ old.left) where
  abbrev looked_at : (s : Survey) → IsOpened layout t.shown s.state → FoundFile layout t
  looked_at s is_opened = record { found = s.state; is_opened = is_opened; replica = s.state; begun = inl refl; mended = Some (did Sync t); mending = mends_none s.state.file (Some (did Sync t)) }

  pub inspects : (s : Survey) → TellsSurvey layout old.told (Ok s.state) → TellsMends layout old.told s → new.told ≡ after Sync old.told
      → PrintsLine (report_of s) (status_of s.mends) old.written new.written status
      → (found : FoundFile layout t) × Inspects layout t found old new status
  inspects s answer mends barrier prints = (
    looked_at s ((rw told at answer) whole),
    record {
      survey = s;
      of = refl;
      mendable = (rw told at mends) whole;
      prints = prints;
      unread = unread;
      unmended = refl;
      barrier = barrier ∙ ap (after Sync) told;
    },
  )

  pub not_surveyed : (e : OpenError) → TellsSurvey layout old.told (Err e) → Syncs {T = Replica} old.told new.told (Err e)
      → PrintsOpenError e old.written new.written status → ComesTo Inspect layout t old new status
  not_surveyed e answer syncs prints =
      not_opened Inspect layout t old new status e whole told answer unread (λ no. syncs_once old.told new.told e no syncs)
      (λ image is. rw told at (syncs_failed old.told new.told e is syncs)) prints

-- ---- recover and scrub

-- a tour over an image is the machine's
machine_tour : (s : Replica) (image : Image) → IsMachineTour s image
machine_tour s image codec w work rep =
    subst (λ (xs : List (ℕ × ℕ)). IsTour (shape s.file) codec (shown_of s.file image) (at_start w) xs) (sym (ap referenced_of rep))
    (tour_law (shape s.file) codec (shown_of s.file image) (at_start w) refl work.few)

module _ (layout : Layout) (t : Told) (old new : Outside) (status : Status) (s : Replica)
    (whole : IsImage t.shown) (told : old.told ≡ Some t) (unread : new.left ≡ old.left) (live : s.live ≡ true) (of : s.file.layout ≡ layout)
    (over : MendsAll t s new.told) where
  abbrev found : FoundFile layout t
  found = opened_file layout t s new.told whole of over

  calls : CallsKeep t found.replica found.mended found.mending (no_calls found)
  calls = calls_keep t s new.told over s new.told [] None NoCalls whole live

  pub recovers : PrintsLine (summary_text (summary_of s)) Done old.written new.written status
      → (found : FoundFile layout t) × Recovers layout t found old new status
  recovers prints = (found, record { prints = prints; unread = unread; told = refl; calls = calls })

  -- its tour is at the start
  first : s.tour ≡ first_tour
  first = ap (λ (r : Replica). r.tour) over.raised ∙ ap (λ (m : Memory). m.tour) found.is_opened.stands

  -- what is told then, and that it shows what the mending left
  abbrev after_mending : Told
  after_mending = told_after over.mending.events (did Sync t)

  told_then : new.told ≡ Some after_mending
  told_then = over.mending.told ∙ added_is_told over.mending.events (did Sync t)

  spared : SparesReads s.file t.shown after_mending.shown
  spared = subst (SparesReads s.file t.shown) (sym (shown_after over.mending.events (did Sync t))) (over.mending.spares t.shown whole)

  pub scrubs : ((n : Told) → new.told ≡ Some n → s.tour ≡ first_tour → PrintsTour s n.shown old.written new.written status)
      → (found : FoundFile layout t) × ScrubsFile layout t found old new status
  scrubs tours = (
    found,
    record {
      after = after_mending;
      is_mended = told_then;
      told = told_then;
      prints = tours after_mending told_then first;
      machine = machine_tour s after_mending.shown;
      unread = unread;
      calls = calls;
      spares = spared;
    },
  )
