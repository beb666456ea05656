-- The referenced blocks stand in order of address: what a step checks, and what is left to be checked after it.
use Rattle.{std.proofs.Common.{◌≡◌, ℕ, ◌+◌, List, [], ◌∷◌, length, Option, refl, sym, ◌∙◌, ap, arith}, df_base.specs.Image.{Image}}
use Rattle.{df_disk.specs.Told.{Told}, df_layout.specs.declared.damage.Finding.{Finding}}
use Rattle.df_model.{specs.{Blocks.{reference_in}, Memory.{referenced_of}, Reading.{with_finding}, declared.answers.Scrubbed.{Scrubbed}, declared.answers.Scrubbed.TheVariants.{Checked, TourEnd}, declared.answers.Verdict.{Verdict}, declared.answers.Verdict.TheVariants.{Sound, Failing}}, proofs.Laws.{Rise, above, entries_rise, is_next}}
use Rattle.df_session.specs.Below.{IsStep, IsVerdict, ScrubState, after_scrub_step, left_in, with_check, failing_among, State as Replica, grid_with, memory}

-- ---- the referenced blocks stand in order of address

-- the referenced blocks of a replica, and those that this tour has yet to check
abbrev pub referenced : Replica → List (ℕ × ℕ)
referenced r = referenced_of (memory r)

abbrev pub left_of : Replica → ScrubState → List (ℕ × ℕ)
left_of r s = left_in (grid_with r.file r.boot r.blocks) s

-- a step over the blocks of a replica
abbrev pub IsStepOf : Replica → (s t : ScrubState) → Option Told → Scrubbed → Type 0
IsStepOf r s t told x = IsStep (grid_with r.file r.boot r.blocks) s t told x

-- those of these blocks that fail over an image
abbrev pub failing_of : Replica → Image → List (ℕ × ℕ) → List Finding
failing_of r image xs = failing_among (grid_with r.file r.boot r.blocks) image xs

abbrev pub IsVerdictOf : Replica → Option Told → List (ℕ × ℕ) → Verdict → Type 0
IsVerdictOf r told xs v = IsVerdict (grid_with r.file r.boot r.blocks) told xs v

pub referenced_rise : (r : Replica) → Rise 1 (1 + r.file.layout.blocks) (referenced r)
referenced_rise r = entries_rise (reference_in r.blocks) 1 r.file.layout.blocks (1 + r.file.layout.blocks) (omega arith)

-- ---- a step

-- a block was checked: it is the first that was left, and the others are left after it
pub record IsChecked (r : Replica) (told : Option Told) (s t : ScrubState) (a : ℕ) (v : Verdict) : Type 0 where
  pub x : ℕ × ℕ
  pub more : List (ℕ × ℕ)
  pub address : a ≡ x.0
  pub left : left_of r s ≡ x ∷ more
  pub after : t ≡ with_check s a v
  pub rest : left_of r t ≡ more
  pub verdict : IsVerdictOf r told (x ∷ more) v

check_last : (s : ScrubState) (a : ℕ) (v : Verdict) → (with_check s a v).tour.last ≡ a
check_last s a Sound = refl
check_last s a (Failing class) = refl

pub check_counts : (s : ScrubState) (a : ℕ) (v : Verdict) → (with_check s a v).tour.checked ≡ s.tour.checked + 1
check_counts s a Sound = refl
check_counts s a (Failing class) = refl

pub check_fails : (s : ScrubState) (a : ℕ) (v : Verdict) → (with_check s a v).tour.failing ≡ s.tour.failing + length (with_finding a v [])
check_fails s a Sound = omega arith
check_fails s a (Failing class) = omega arith

was_checked : (r : Replica) (told : Option Told) (s t : ScrubState) (a : ℕ) (v : Verdict) (xs : List (ℕ × ℕ))
    → left_of r s ≡ xs → IsVerdictOf r told xs v → after_scrub_step s v xs ≡ (t, Checked a v) → IsChecked r told s t a v
was_checked r told s t a v [] left verdict goes =
    absurd (let answer : TourEnd s.tour.checked s.tour.failing ≡ Checked a v = ap (λ (p : ScrubState × Scrubbed). p.1) goes in cc)
was_checked r told s t a v (x ∷ more) left verdict goes =
    let after : with_check s x.0 v ≡ t = ap (λ (p : ScrubState × Scrubbed). p.0) goes in
    let answer : Checked x.0 v ≡ Checked a v = ap (λ (p : ScrubState × Scrubbed). p.1) goes in let same : a ≡ x.0 = cc in record {
      x = x;
      more = more;
      address = same;
      left = left;
      after = sym after ∙ ap (λ (n : ℕ). with_check s n v) (sym same);
      rest = ap (λ (u : ScrubState). left_of r u) (sym after) ∙ ap (λ (n : ℕ). above n (referenced r)) (check_last s x.0 v)
          ∙ (is_next s.tour.last 1 (1 + r.file.layout.blocks) (referenced r) x more (referenced_rise r) left).behind;
      verdict = verdict;
    }

pub checked : (r : Replica) (told : Option Told) (s t : ScrubState) (a : ℕ) (v : Verdict)
    → IsStepOf r s t told (Checked a v) → IsChecked r told s t a v
checked r told s t a v step = was_checked r told s t a v (left_of r s) refl step.verdict step.goes

-- at the end of the tour nothing is left, and its counts are told
pub record IsEnded (r : Replica) (s : ScrubState) (checked failing : ℕ) : Type 0 where
  pub left : left_of r s ≡ []
  pub counts : checked ≡ s.tour.checked
  pub fails : failing ≡ s.tour.failing

was_ended : (r : Replica) (s t : ScrubState) (v : Verdict) (n f : ℕ) (xs : List (ℕ × ℕ))
    → left_of r s ≡ xs → after_scrub_step s v xs ≡ (t, TourEnd n f) → IsEnded r s n f
was_ended r s t v n f [] left goes =
    let answer : TourEnd s.tour.checked s.tour.failing ≡ TourEnd n f = ap (λ (p : ScrubState × Scrubbed). p.1) goes in
    record { left = left; counts = cc; fails = cc }
was_ended r s t v n f (x ∷ more) left goes =
    absurd (let answer : Checked x.0 v ≡ TourEnd n f = ap (λ (p : ScrubState × Scrubbed). p.1) goes in cc)

pub ended : (r : Replica) (told : Option Told) (s t : ScrubState) (n f : ℕ) → IsStepOf r s t told (TourEnd n f) → IsEnded r s n f
ended r told s t n f step = was_ended r s t Sound n f (left_of r s) refl step.goes
