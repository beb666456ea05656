-- The test of the target's first sectors: each shows zeros alone, or which is the first that doesn't.
use Rattle.std.{proofs.{Common.{◌≡◌, inl, inr, ℕ, zero, suc, ◌+◌, ◌<◌, ◌≤◌, Bool, true, false, not, if◌then◌else◌, List, map, Option, Some, None, Err, ◌∙◌, ap, arith}, lemmas.Bool.{cases_eq}}, specs.List.{range_with_len}}
use Rattle.{df_base.specs.Image.{Image}, df_disk.{specs.Told.{Told}, proofs.Laws.{nothing_is_part}}, df_format.specs.Copies.{is_blank_copy}}
use Rattle.{df_layout.specs.declared.layout.Layout.{Layout}, df_opening.specs.Formatting.{IsFirstWritten, RefusesCluster, TellsBlank}}
use Rattle.df_model.specs.{declared.errors.FormatError.{FormatError}, Refusals.{first_refusal}}
use Rattle.df_model.specs.declared.errors.FormatError.TheVariants as formats
use Rattle.df_copy.specs.{declared.ending.Ending.{Ending, TheVariants.{NotBlank}}, Copying.{BeginsTarget, OverTold}, Statuses.{blank_ending}, Targets.{ring_events}, Tests.{blank_tests}}

module _ (blank : ℕ → Bool) where
  abbrev blanks : ℕ → ℕ → List (Bool × Ending)
  blanks a n = map (λ i. (not (blank i), NotBlank i)) (range_with_len a n)

  first_written : (a n k : ℕ)
      → a ≤ k → k < a + n → ((i : ℕ) → a ≤ i → i < k → blank i ≡ true) → blank k ≡ false → first_refusal (blanks a n) ≡ Some (NotBlank k)
  first_written a zero k from inside before written = absurd (omega (arith, from, inside))
  first_written a (suc n) k from inside before written = elim (cases_eq a k) [
    | inl here ↦ ap (λ (b : Bool). if not b then Some (NotBlank a) else first_refusal (blanks (a + 1) n)) (ap blank here ∙ written)
        ∙ ap (λ (i : ℕ). Some (NotBlank i)) here
    | inr other ↦ ap (λ (b : Bool).
        if not b then Some (NotBlank a) else first_refusal (blanks (a + 1) n)) (before a (omega arith) (omega (arith, from, other)))
        ∙ first_written (a + 1) n k (omega (arith, from, other)) (omega (arith, inside)) (λ i above below.
        before i (omega (arith, above)) below) written
  ]

one_written : (image : Image) (copy : ℕ) → IsFirstWritten image copy → first_refusal (blank_tests image) ≡ Some (NotBlank copy)
one_written image copy is =
    first_written (λ n. is_blank_copy (image n)) 0 4 copy (omega arith) is.inside (λ i from below. is.before i below) is.written

-- ---- what the test answers

module _ (T : Type 0) (layout : Layout) (cluster : ℕ) where
  tested_written : (old : Option Told) (copy : ℕ) → TellsBlank {T = T} old (Err (formats.NotBlank copy))
      → OverTold old (λ image. first_refusal (blank_tests image) ≡ Some (NotBlank copy))
  tested_written None copy tells = tt
  tested_written (Some t) copy tells = one_written t.shown copy tells

  -- the target isn't begun
  pub not_begun : (old new : Option Told) (e : FormatError) → RefusesCluster {T = T} 1 (Err e)
      → TellsBlank {T = T} old (Err e) → new ≡ old → BeginsTarget {T = T} layout cluster old new (Err (blank_ending e))
  not_begun old new (formats.NotBlank copy) of tells same = (same, tested_written old copy tells)
  not_begun old new formats.DiskFault of tells same = nothing_is_part (ring_events layout cluster) old new same
  not_begun old new formats.ClusterZero of tells same = absurd (omega (arith, of))
