-- What an update's events make of the copies, where the disk tells its log.
use Rattle.std.proofs.Common.{◌≡◌, ◌<◌, ◌+◌, ℕ, zero, suc, Bool, false, List, [], ◌∷◌, get_or, Option, Some, None, refl, sym, ◌∙◌, ap, subst, arith, Result, Ok, Err, OnOk}
use Rattle.df_base.{specs.{Image.{Image}, Log.{Event, Write, Log, add, after_event, now}, Moments.{adds}}, proofs.Laws.{AtEach}}
use Rattle.df_disk.{specs.{Told.{Told, did}, Adds.{Adds, after_all}}, proofs.Laws.{passes, told_log, none_after}}
use Rattle.df_format.specs.{Super.{copy_bytes}, SuperRules.{IsUsable}, declared.superblock.SuperFields.{SuperFields}, Copies.{Content, content_with}}
use Rattle.df_superblock.{specs.{Copies.{AreEqual, IsOldOrNew, MayUpdate}, Events.{update_events}, Calls.{UpdatesSafely, TellsLog, ShowsEqual, EndsEqual}}, proofs.{Turns.{IsAt, at_turn, wrote_turn, synced_at, turn_moment, each_turn}, Mends.{Writes, other_written, written_shows}, Puts.{copy_put}}}

-- ---- moments

module _ (f : SuperFields) (usable : IsUsable f) (entry : Log) (old : Content) (may : MayUpdate entry old (content_with f)) where
  abbrev later : Content
  later = content_with f

  begins : IsAt entry old later 0
  begins = record { before = λ n less below. absurd (omega arith); behind = λ n more below. may.equal n below; quiet = may.quiet }

  safe_each : AtEach (IsOldOrNew entry old later) entry (update_events f)
  safe_each = each_turn (IsOldOrNew entry old later) (λ log i. IsAt log old later i) (λ n. copy_bytes n f)
      (λ log i at. turn_moment entry log old later i may.above may.quiet may.equal (at_turn log old later i at))
      (λ log i below at. turn_moment entry (add (Write i (copy_bytes i f)) log)
      old later i may.above may.quiet may.equal (wrote_turn log old later i (copy_bytes i f) (copy_put f usable i below) at))
      (λ log i below at. synced_at log old later i (copy_bytes i f) (copy_put f usable i below) at) entry begins

pub updates_safely : {T E : Type 0} → (f : SuperFields) (old new : Option Told) (result : Result T E)
    → IsUsable f → Adds (update_events f) old new result → UpdatesSafely f old new
updates_safely f None new result usable is = tt
updates_safely f (Some t) new result usable is =
    λ before may. passes (IsOldOrNew t.log before (content_with f)) (update_events f) t new result (safe_each f usable t.log before may) is

-- ---- the end

-- what is told after all events
pub tells_after : (es : List Event) (t : Told) (new : Option Told) (P : Log → Type 0)
    → new ≡ after_all es (Some t) → P (adds es t.log) → TellsLog new P
tells_after es t new P is here = let u = told_log es t in
    subst (λ (o : Option Told). TellsLog o P) (sym (is ∙ u.1)) (subst P (sym u.2) here)

pub tells_none : (es : List Event) (new : Option Told) (P : Log → Type 0) → new ≡ after_all es None → TellsLog new P
tells_none es new P is = subst (λ (o : Option Told). TellsLog o P) (sym (is ∙ none_after es)) tt

abbrev all : List Bool
all = false ∷ false ∷ false ∷ false ∷ []

all_false : (n : ℕ) → n < 4 → get_or all n false ≡ false
all_false zero below = refl
all_false (suc zero) below = refl
all_false (suc (suc zero)) below = refl
all_false (suc (suc (suc zero))) below = refl
all_false (suc (suc (suc (suc n)))) below = absurd (omega arith)

module _ (f : SuperFields) (usable : IsUsable f) (log : Log) where
  all_equal : AreEqual (now (adds (update_events f) log)) (content_with f)
  all_equal n below = let place : 0 + n ≡ n = omega arith in written_shows
      f (content_with f) (copy_put f usable) n 0 all log (omega arith) (rw place at (other_written 0 n all below (all_false n below)))

-- what a disk shows then, whether that is what its log leaves or not
told_shown : (es : List Event) (t : Told) (log : Log)
    → t.shown ≡ now log → (u : Told) × (after_all es (Some t) ≡ Some u) × (u.shown ≡ now (adds es log))
told_shown [] t log same = (t, refl, same)
told_shown (e ∷ es) t log same = told_shown es (did e t) (add e log) (ap (λ (image : Image). after_event e image) same)

pub ends_shown : {T E : Type 0} → (f : SuperFields) (old new : Option Told) (result : Result T E)
    → IsUsable f → Adds (update_events f) old new result → OnOk result (ShowsEqual f new)
ends_shown f None new (Ok x) usable is = subst (λ (o : Option Told). ShowsEqual f o) (sym (is ∙ none_after (update_events f))) tt
ends_shown f (Some t) new (Ok x) usable is = let log : Log = record { start = t.shown; events = [] } in
    let u = told_shown (update_events f) t log refl in
    subst (λ (o : Option Told). ShowsEqual f o) (sym (is ∙ u.1)) (rw (sym u.2) at (all_equal f usable log))
ends_shown f old new (Err e) usable is = tt

pub ends_equal : {T E : Type 0} → (f : SuperFields) (old new : Option Told) (result : Result T E)
    → IsUsable f → Adds (update_events f) old new result → OnOk result (EndsEqual f new)
ends_equal f None new (Ok x) usable is = tells_none (update_events f) new _ is
ends_equal f (Some t) new (Ok x) usable is =
    tells_after (update_events f) t new (λ log. AreEqual (now log) (content_with f)) is (all_equal f usable t.log)
ends_equal f old new (Err e) usable is = tt
