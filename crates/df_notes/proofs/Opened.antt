-- A file that is opened is served by calls that keep it; one that isn't is refused, or the disk failed; and what a making leaves.
use Rattle.std.proofs.Common.{◌≡◌, ◌<◌, inl, inr, ◌⊎◌, ℕ, true, false, List, Option, Some, Result, Ok, Err, refl, sym, ◌∙◌, ap, subst, arith}
use Rattle.{df_base.specs.{Image.{IsImage}, Log.{Sync}}, df_disk.specs.Told.{Told, after, did}, df_program.proofs.Laws.{open_fault}}
use Rattle.{df_layout.specs.declared.layout.Layout.{Layout}, df_opening.proofs.Laws.{added_is_told, shown_after, stays_whole}}
use Rattle.df_model.specs.{declared.errors.FormatError.{FormatError}, declared.errors.OpenError.{OpenError}, Faults.{is_open_fault}}
use Rattle.df_model.specs.declared.errors.FormatError.TheVariants as formats
use Rattle.df_model.specs.declared.errors.OpenError.TheVariants as opens
use Rattle.df_session.{specs.{Below.{IsOpened, IsUnformatted, State as Replica, told_after}, Formatting.{RefusesCluster, TellsBlank}, Found.{FoundFile}, Making.{FormatsFile, making_events, making_steps}, Opened.{MendsAll, StopsOpening}, Surveying.{TellsSurvey}}, proofs.Laws.{calls_keep}}
use Rattle.df_notes.{specs.{Ending.{ended_by}, Run.{FailsToFindNotes, MakesFirst, MakesNotes, NotesOutcome, RefusesNotes, ServesFile, notes_cluster}, Serving.{Outside, ServesNotes, around, made_serving}, declared.ended.Ended.{Ended}, declared.ended.Ended.TheVariants.{DiskFault}}, proofs.Served.{all_calls}}

-- ---- it is opened

module _ (layout : Layout) (t : Told) (s : Replica)
    (mended : Option Told) (whole : IsImage t.shown) (live : s.live ≡ true) (of : s.file.layout ≡ layout) (over : MendsAll t s mended) where
  opened_there : IsOpened layout t.shown over.found
  opened_there =
      subst (λ (l : Layout). IsOpened l t.shown over.found) (sym (ap (λ (r : Replica). r.file.layout) over.raised) ∙ of) (over.opened whole)

  abbrev found : FoundFile layout t
  found = record { found = over.found; is_opened = opened_there; replica = s; begun = inr over.raised; mended = mended; mending = over.mending }

  pub served : (notes : List (List ℕ)) (old new : Outside) (result : Result (Unit {0}) Ended)
      → ServesNotes notes s (around mended old.written) new result → ServesFile layout t notes old new result
  served notes old new result serves = let all = all_calls notes s (around mended old.written) new result serves in record {
    found = found;
    serves = serves;
    made = record { from = s; to = all.to; old = mended; new = new.told; exchanges = (made_serving serves).exchanges; failed = (made_serving serves).failed; calls = all.calls };
    of = record { from = refl; old_is = refl; new_is = refl; exchanges = refl; failed = refl };
    keep = calls_keep t s mended over all.to new.told (made_serving serves).exchanges (made_serving serves).failed all.calls whole live;
  }

-- ---- it isn't

pub not_opened : (layout : Layout) (t : Told) (old new : Outside) (result : Result (Unit {0}) Ended) (e : OpenError) → IsImage t.shown
    → old.told ≡ Some t → TellsSurvey layout old.told (Err e) → ((e ≡ opens.DiskFault → ⊥) → new.told ≡ after Sync old.told)
    → (IsImage t.shown → e ≡ opens.DiskFault → StopsOpening layout t new.told) → new.written ≡ old.written
    → result ≡ Err (ended_by (is_open_fault e)) → RefusesNotes layout t e old new result ⊎ FailsToFindNotes layout t old new result
not_opened layout t old new result e whole told answer barrier stops silent ended = elim (open_fault e) [
  | inl is ↦ inr (record { disk = stops whole is; silent = silent; ended = ended ∙ ap (λ (x : OpenError). Err (ended_by (is_open_fault x))) is })
  | inr other ↦ inl (record {
    is = (subst (λ (o : Option Told). TellsSurvey layout o (Err e)) told answer) whole;
    other = other.0;
    barrier = barrier other.0 ∙ ap (after Sync) told;
    silent = silent;
    ended = ended ∙ ap (λ (b : _). Err (ended_by b)) other.1;
  })
]

-- ---- a making

-- on a disk that is blank it is never refused
pub only_fault : (t : Told) (e : FormatError) → IsUnformatted t.shown
    → RefusesCluster {T = Unit {0}} notes_cluster (Err e) → TellsBlank {T = Unit {0}} (Some t) (Err e) → e ≡ formats.DiskFault
only_fault t formats.ClusterZero blank named is = absurd (let no : 1 ≡ 0 = named in omega (arith, no))
only_fault t (formats.NotBlank copy) blank named is = absurd (let no : true ≡ false = sym (blank copy is.inside) ∙ is.written in cc)
only_fault t formats.DiskFault blank named is = refl

-- what it leaves is told, and whole
pub record LeavesMade (layout : Layout) (t : Told) (new : Option Told) : Type 0 where
  pub made : Told
  pub is : new ≡ Some made
  pub whole : IsImage made.shown

pub made_there : (layout : Layout) (t : Told) (new : Option Told)
    → IsImage t.shown → FormatsFile {T = Unit {0}} layout notes_cluster (Some t) new (Ok tt) → LeavesMade layout t new
made_there layout t new whole formats = let events = making_events layout notes_cluster in let named : 0 < notes_cluster = omega arith in
    record {
      made = told_after events t;
      is = formats.events ∙ added_is_told events t;
      whole = subst IsImage (sym (shown_after events t))
          (stays_whole layout notes_cluster events (making_steps layout notes_cluster) t.shown (formats.steps named) whole);
    }

-- the disk was blank, and the file is made after the barrier
pub makes_notes : (layout given : Layout)
    (t : Told) (old new : Outside) (mid : Option Told) (notes : List (List ℕ)) (result : Result (Unit {0}) Ended)
    → given ≡ layout → IsImage t.shown → old.told ≡ Some t → TellsSurvey given old.told (Err opens.NotFormatted) → mid ≡ after Sync old.told
    → ((u : Told) → mid ≡ Some u → IsImage u.shown → IsUnformatted u.shown → MakesFirst given u notes (around mid old.written) new result)
    → MakesNotes layout t notes old new result
makes_notes layout given t old new mid notes result same whole told answer barrier makes =
    let blank : IsUnformatted t.shown = (subst (λ (o : Option Told). TellsSurvey given o (Err opens.NotFormatted)) told answer) whole in
    let is : mid ≡ Some (did Sync t) = barrier ∙ ap (after Sync) told in record {
      blank = blank;
      makes = subst (λ (o : Option Told). MakesFirst layout (did Sync t) notes (around o old.written) new result) is
          (subst (λ (l : Layout). MakesFirst l (did Sync t) notes (around mid old.written) new result) same (makes (did Sync t) is whole blank));
    }

-- ---- a file that isn't opened at first

blank_or : (e : OpenError) → (e ≡ opens.NotFormatted) ⊎ (e ≡ opens.NotFormatted → ⊥)
blank_or opens.NotFormatted = inl refl
blank_or opens.DiskFault = inr (λ no. cc)
blank_or (opens.NoQuorum a) = inr (λ no. cc)
blank_or (opens.Version a) = inr (λ no. cc)
blank_or (opens.BadField a b) = inr (λ no. cc)
blank_or (opens.LayoutDiffers a b) = inr (λ no. cc)
blank_or (opens.Damaged a b) = inr (λ no. cc)
blank_or opens.BootSpent = inr (λ no. cc)

module _ (given own : Layout) (t : Told) (old new : Outside) (mid : Option Told) (notes : List (List ℕ))
    (result : Result (Unit {0}) Ended) (e : OpenError) (back : own ≡ given) (whole : IsImage t.shown) (told : old.told ≡ Some t)
    (answer : TellsSurvey given old.told (Err e)) (barrier : (e ≡ opens.DiskFault → ⊥) → mid ≡ after Sync old.told) where
  made_first : (is : e ≡ opens.NotFormatted) → ((u : Told) → mid ≡ Some u → IsImage u.shown
      → IsUnformatted u.shown → MakesFirst own u notes (around mid old.written) new result) → MakesNotes given t notes old new result
  made_first is makes = makes_notes given own t old new mid notes result back whole told (subst (λ (l : Layout).
      TellsSurvey l old.told (Err opens.NotFormatted)) (sym back) (subst (λ (x : OpenError). TellsSurvey given old.told (Err x)) is answer))
      (barrier (λ no. let apart : opens.NotFormatted ≡ opens.DiskFault = sym is ∙ no in cc)) makes

  pub unopened : (IsImage t.shown → e ≡ opens.DiskFault → StopsOpening given t mid) → (e ≡ opens.NotFormatted
      → (u : Told) → mid ≡ Some u → IsImage u.shown → IsUnformatted u.shown → MakesFirst own u notes (around mid old.written) new result)
      → ((e ≡ opens.NotFormatted → ⊥) → (result ≡ Err (ended_by (is_open_fault e))) × (new.told ≡ mid) × (new.written ≡ old.written))
      → NotesOutcome given t notes old new result
  unopened stops makes refuses = elim (blank_or e) [
    | inl is ↦ inr (inr (inl (made_first is (makes is))))
    | inr other ↦ let ends = refuses other in elim (not_opened given t old new result e whole told answer (λ no.
        ends.1 ∙ barrier no) (λ w is. subst (λ (o : Option Told). StopsOpening given t o) (sym ends.1) (stops w is)) ends.2 ends.0) [
          | inl refused ↦ inr (inl (e, other, refused))
          | inr fails ↦ inr (inr (inr (inl fails)))
        ]
  ]
