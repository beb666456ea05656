-- A prepare after the checkpoint that is read: the call that was made, and what the opening finds by it.
use Rattle.std.proofs.{Common.{◌≡◌, ◌+◌, ◌<◌, ◌≤◌, ◌%◌, ◌&&◌, inr, ℕ, Bool, true, not, nat_le, nat_lt, List, [], ◌∷◌, Option, Some, None, refl, sym, ◌∙◌, ap, Result, Ok, Err, lt-ltb, le-leb}, lemmas.Option.{none-some}}
use Rattle.{df_base.specs.Causes.{Blamed}, df_disk.specs.Told.{Told}, df_theory.specs.Units.{Message}, df_rows.specs.Tables.{Table}}
use Rattle.df_layout.specs.{declared.layout.Layout.{Layout}, declared.places.Place.{Place}, declared.places.Zone.TheVariants.{WalPrepares}}
use Rattle.df_model.specs.{Commands.{ReadPrepare, ToReadPrepare}, Faults.{is_prepare_fault}, Refusals.{first_refusal}, Supply.{message_given}, declared.reading.PrepareError.{PrepareError}}
use Rattle.df_model.specs.declared.reading.PrepareError.TheVariants as prepare
use Rattle.df_session.{specs.{Answering.{ServesRead, answer_of}, Below.{State as Replica, memory}, Reading.{IsFoundBy, IsReadPrepare, prepare_found, shown_of}}, proofs.Laws.{reads_prepare}}
use Rattle.df_session.specs.declared.hearing.Fault.TheVariants as faults
use Rattle.df_table.{specs.{declared.ending.Ending.{Ending}, declared.ending.Ending.TheVariants.{Damaged}, Calls.{Comes}, Opening.{GivesCommand, LacksCommand, ReadsPrepare, TakesCommand, place_at, prepare_ending}, Statuses.{is_disk}}, proofs.{BodyTaken.{body_comes, by_body}, Joined.{one_failed, one_spent}}}

-- ---- the call

module _ (op : ℕ) (s t : Replica) (old new : Option Told) (same : new ≡ old) where
  -- the prepare is lent
  pub prepare_comes : (A : Type 0) (slot : Place) (table later : Table) (body : List ℕ) (p : Message) (r : Result A Ending) → ServesRead (ReadPrepare op) s t old (prepare_found (Ok p)) (answer_of is_prepare_fault ToReadPrepare (Ok p)) → TakesCommand slot table later body r
      → Comes (ReadPrepare op ∷ []) s t old new r
  prepare_comes A slot table later body p r serves takes =
      body_comes A (GivesCommand table later body) (LacksCommand slot table body) (ReadPrepare op)
      s t old new (ToReadPrepare (Ok p)) r (reads_prepare s t old new same op (Some (Ok p)) (Some (ToReadPrepare (Ok p))) serves) tt takes

  -- or it isn't
  pub prepare_refused : (A : Type 0) (e : PrepareError) → ((first last : ℕ) → e ≡ prepare.NotKept first last → ⊥) → ServesRead (ReadPrepare op) s t old (prepare_found (Err e)) (answer_of is_prepare_fault ToReadPrepare (Err e)) → Comes {T = A} (ReadPrepare op ∷ []) s t old new (Err (prepare_ending e))
  prepare_refused A prepare.DiskFault kept serves =
      one_failed (ReadPrepare op) s t old new faults.Disk (reads_prepare s t old new same op None None serves, tt)
  prepare_refused A (prepare.NotKept first last) kept serves = absurd (kept first last refl)
  prepare_refused A (prepare.Damaged place class) kept serves =
      one_spent (ReadPrepare op) s t old new (ToReadPrepare (Err (prepare.Damaged place class))) (Damaged place class)
      (reads_prepare s t old new same op (Some (Err class)) (Some (ToReadPrepare (Err (prepare.Damaged place class)))) serves)
      (inr (refl, (ToReadPrepare (Err (prepare.Damaged place class)), ([], refl), inr refl)))

-- ---- what is found

module _ (layout : Layout)
    (op : ℕ) (s : Replica) (told : Option Told) (t : Told) (is : told ≡ Some t) (of : s.file.layout ≡ layout) (table later : Table) where
  pub prepare_found_here : (A : Type 0) (p : Message) (body : List ℕ) (r : Result A Ending) → p.body ≡ body → IsReadPrepare op s told (Ok p) → TakesCommand (place_at WalPrepares (op % layout.slots)) table later body r → ReadsPrepare layout (shown_of s.file t.shown) (memory s) op table later r
  prepare_found_here A p body r same exact takes = let slot = place_at WalPrepares (op % layout.slots) in
      by_body A (GivesCommand table later p.body) (LacksCommand slot table p.body)
      (ReadsPrepare layout (shown_of s.file t.shown) (memory s) op table later) r (λ done is. (p, shown, is)) (λ place is. (p, shown, is))
      (rw (sym same) at takes)
    where
      shown : message_given (shown_of s.file t.shown) (memory s) (ReadPrepare op) ≡ Ok p
      shown = sym (rw is at exact.1)

  pub prepare_unfound : (A : Type 0) (e : PrepareError) → ((first last : ℕ) → e ≡ prepare.NotKept first last → ⊥) → IsReadPrepare
      op s told (Err e) → ReadsPrepare {A = A} layout (shown_of s.file t.shown) (memory s) op table later (Err (prepare_ending e))
  prepare_unfound A prepare.DiskFault kept exact = tt
  prepare_unfound A (prepare.NotKept first last) kept exact = absurd (kept first last refl)
  prepare_unfound A (prepare.Damaged place class) kept exact =
      (exact.1 ∙ ap (λ (l : Layout). place_at WalPrepares (op % l.slots)) of, sym (rw is at exact.2))

-- ---- no refusal, and whom it blames

pub kept_there : (op : ℕ) (s : Replica) (told : Option Told) (e : PrepareError)
    → s.fields.op < op → op ≤ s.head → IsReadPrepare op s told (Err e) → (first last : ℕ) → e ≡ prepare.NotKept first last → ⊥
kept_there op s told e behind within exact first last is = let kept : (nat_lt s.fields.op op && nat_le op s.head) ≡ true =
    ap (λ (b : Bool). b && nat_le op s.head) (lt-ltb _ _ behind) ∙ le-leb _ _ within in
    none-some (prepare.NotKept first last) (sym (ap (λ (b : Bool).
    first_refusal {E = PrepareError} ((not b, prepare.NotKept (s.fields.op + 1) s.head) ∷ [])) kept) ∙ rw is at exact)

pub unread_blamed : (e : PrepareError) (n now : ℕ) → ((first last : ℕ) → e ≡ prepare.NotKept first last → ⊥)
    → Blamed (is_prepare_fault e) n now → Blamed (is_disk (prepare_ending e)) n now
unread_blamed prepare.DiskFault n now kept blamed = blamed
unread_blamed (prepare.NotKept first last) n now kept blamed = absurd (kept first last refl)
unread_blamed (prepare.Damaged place class) n now kept blamed = blamed
