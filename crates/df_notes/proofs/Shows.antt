-- The notes that were printed by the time a loop comes to an op.
use Rattle.{std.proofs.Common.{◌≡◌, ℕ, ◌+◌, ◌-◌, ◌≤◌, List, Option, Result, Err, subst, sym, arith}, df_disk.specs.Told.{Told}}
use Rattle.df_session.specs.Below.{State}
use Rattle.df_notes.specs.{declared.ended.Ended.{Ended}, Showing.{AreNotesShown, Begun, IsNoteShown, NoteHides, Shown, ShowsNotes}}

module _ (s : State) (told : Option Told) (old : Option (List ℕ)) where
  pub shows_none : (before : ℕ) → before ≡ s.fields.op → AreNotesShown s told old (before - s.fields.op) old
  shows_none before is =
      subst (λ (n : ℕ). AreNotesShown s told old n old) (let none : 0 ≡ before - s.fields.op = omega (arith, is) in none) Begun

  pub shows_more : (before : ℕ) (mid new : Option (List ℕ)) → s.fields.op ≤ before → AreNotesShown s told old (before - s.fields.op) mid
      → IsNoteShown (before + 1) s told mid new → AreNotesShown s told old (before + 1 - s.fields.op) new
  shows_more before mid new from shown is = subst (λ (n : ℕ).
      AreNotesShown s told old n new) (let more : before - s.fields.op + 1 ≡ before + 1 - s.fields.op = omega (arith, from) in more)
      (Shown (before - s.fields.op) (before + 1) mid new shown (omega (arith, from)) is)

  -- where the next one isn't, the loop ends
  pub shows_some : (before : ℕ) (t : State) (mid new : Option (List ℕ)) (ended : Ended) (r : Result (Unit {0}) Ended) → r ≡ Err ended
      → s.fields.op ≤ before → AreNotesShown s told old (before - s.fields.op) mid → NoteHides (before + 1) s t told mid new ended
      → ShowsNotes s t told old new r
  shows_some before t mid new ended r is from shown hides =
      subst (λ (q : Result (Unit {0}) Ended). ShowsNotes s t told old new q) (sym is) (record {
        count = before - s.fields.op;
        mid = mid;
        shown = shown;
        hides = subst (λ (op : ℕ). NoteHides op s t told mid new ended)
            (let same : before + 1 ≡ s.fields.op + (before - s.fields.op) + 1 = omega (arith, from) in same) hides;
      })
