-- Each run of `notes` is a run over its file, and the first one is a making and a run.
use Rattle.{std.proofs.Common.{◌≡◌, inl, inr, List, [], ◌∷◌, Option, Some, Result, Ok, Err, ◌∙◌, ap, ℕ}, df_base.specs.Log.{Sync}}
use Rattle.{df_disk.specs.Told.{IsHonest, Told, did}, df_layout.specs.declared.layout.Layout.{Layout}}
use Rattle.df_model.specs.declared.errors.FormatError.TheVariants.{DiskFault}
use Rattle.df_session.{specs.{Below.{IsUnformatted}, Making.{FormatsFile}, Programs.{FileRun}}, proofs.Laws.{honest_stays}}
use Rattle.df_notes.specs.{Run.{FindsNotes, NotesOutcome, OpensNotes, notes_cluster}, declared.ended.Ended.{Ended}}
use Rattle.df_notes.specs.Serving as noted
use Rattle.df_lifetime.{specs.Programs.{NotesBegin, NotesFindAs, NotesGoAs, NotesIsRun}, proofs.{Makings.{call_is_making}, WordRuns.{barred, session, stopped, untouched}}}

module _ (layout : Layout)
    (t n : Told) (notes : List (List ℕ)) (old new : noted.Outside) (result : Result (Unit {0}) Ended) (to : new.told ≡ Some n) where
  notes_find : (finds : FindsNotes layout t notes old new result) → (run : FileRun t n) × NotesFindAs run layout notes old new result finds
  notes_find (inl fails) = stopped t n new.told to layout fails.disk
  notes_find (inr serves) = session t n layout serves.found serves.made serves.of.from serves.of.old_is (serves.of.new_is ∙ to) serves.keep

  notes_go : old.told ≡ Some t → (IsUnformatted t.shown → ⊥)
      → (outcome : NotesOutcome layout t notes old new result) → (run : FileRun t n) × NotesGoAs run layout notes old new result outcome
  notes_go from formatted (inl nothing) = untouched t n new.told to (ap (λ (o : noted.Outside). o.told) nothing.same ∙ from)
  notes_go from formatted (inr (inl refuses)) = barred t n new.told to refuses.2.barrier
  notes_go from formatted (inr (inr (inl makes))) = absurd (formatted makes.blank)
  notes_go from formatted (inr (inr (inr finds))) = notes_find finds

  notes_open : (opens : OpensNotes layout t notes old new result) → FileRun t n
  notes_open (inl refuses) = (barred t n new.told to refuses.1.barrier).0
  notes_open (inr finds) = (notes_find finds).0

pub notes_is_run : NotesIsRun
notes_is_run t n ran formatted = let all = ran.runs t ran.from ran.whole in
    notes_go all.0 t n ran.notes ran.old ran.new ran.result ran.to ran.from formatted all.2

-- ---- the first run

pub notes_begin : NotesBegin
notes_begin layout t n notes old new result to makable honest first =
    let synced : IsHonest (did Sync t) = honest_stays (Sync ∷ []) t honest in elim first [
      | inl fails ↦ inl (call_is_making layout notes_cluster (did Sync t) n (Err DiskFault) makable synced (rw to at fails.formats))
      | inr makes ↦ inr (
        makes.made,
        call_is_making layout notes_cluster (did Sync t) makes.made (Ok tt) makable synced makes.formats,
        notes_open layout makes.made n notes (noted.around (Some makes.made) old.written) new result to makes.then_opens,
      )
    ]
