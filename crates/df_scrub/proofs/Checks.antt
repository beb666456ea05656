-- A step checks the first block that is left, and so does each machine over the grid.
use Rattle.std.{proofs.Common.{◌≡◌, ℕ, ◌+◌, ◌<◌, nat_lt, List, [], ◌∷◌, ◌++◌, Option, Some, None, Result, Ok, Err, refl, sym, ◌∙◌, ap, subst, arith}, specs.{Prelude.{slice_get}, List.{filter}}}
use Rattle.{df_disk.specs.Told.{Told}, df_layout.specs.declared.damage.{Class.{Class}, Finding.{Finding}}}
use Rattle.{df_format.specs.declared.reference.Reference.{Reference}, df_theory.specs.Units.{Block, Layout}}
use Rattle.df_grid.specs.{Below.{layout_of, number_of}, Grid.{GridState, HasAddress, referenced_of}, Reads.{Tests, class_in, shown_of}, Table.{pair_in}}
use Rattle.df_model.{specs.{Work.{Tour, Work, first_tour}, Memory.{Memory}, Blocks.{Blocks, reference_in, referenced_in}, After.{after_check, newest, to_check}, Changing.{checked_in}, Supply.{block_at, verdict_of}, declared.answers.Scrubbed.{Scrubbed}, declared.answers.Scrubbed.TheVariants.{Checked, TourEnd}, declared.answers.Verdict.{Verdict}, declared.answers.Verdict.TheVariants.{Sound, Failing}}, proofs.Laws.{Rise, entries_rise, is_next}}
use Rattle.df_scrub.specs.{Scrubber.{IsStep, IsVerdict, ScrubState, after_scrub_step, judged, left_in, verdict_in, with_check}, Machine.{IsMachines, IsOver, with_scrub}}

pub referenced_rise : (g : GridState) → Rise 1 (1 + g.layout.blocks) (referenced_of g)
referenced_rise g = entries_rise (reference_in g.blocks) 1 g.layout.blocks (1 + g.layout.blocks) (omega arith)

-- ---- the block that is next

-- the first of a list that isn't empty
headed : (xs : List (ℕ × ℕ)) (r : Reference)
    → pair_in (Some r) ≡ slice_get xs 0 → (more : List (ℕ × ℕ)) × (xs ≡ (r.address, number_of r.checksum) ∷ more)
headed [] r is = absurd (cc)
headed (x ∷ more) r is = (more, let first : (r.address, number_of r.checksum) ≡ x = cc in sym (ap (λ (y : ℕ × ℕ). y ∷ more) first))

-- what the grid answers is the first that is left
pub is_left : (g : GridState) (s : ScrubState) (last : ℕ) (answer : Option Reference) → last ≡ s.tour.last
    → pair_in answer ≡ slice_get (filter (λ x. nat_lt last x.0) (referenced_of g)) 0 → pair_in answer ≡ slice_get (left_in g s) 0
is_left g s last answer same is = is ∙ ap (λ (n : ℕ). slice_get (filter (λ x. nat_lt n x.0) (referenced_of g)) 0) same

-- it lies in the grid, above the last one
pub next_inside : (g : GridState) (s : ScrubState) (r : Reference)
    → pair_in (Some r) ≡ slice_get (left_in g s) 0 → HasAddress g r.address × (s.tour.last < r.address)
next_inside g s r is = let found = headed (left_in g s) r is in let next =
    is_next s.tour.last 1 (1 + g.layout.blocks) (referenced_of g) (r.address, number_of r.checksum) found.0 (referenced_rise g) found.1 in
    ((next.from, omega (arith, next.below)), next.past)

-- ---- the verdict

judged_class : (r : Result Block Class) → judged (class_in r) ≡ verdict_of r
judged_class (Ok b) = refl
judged_class (Err class) = refl

tested : (g : GridState) (told : Option Told) (a c : ℕ) (more : List (ℕ × ℕ)) (wrong : Option Class)
    → Tests g.layout g.cluster told a c wrong → IsVerdict g told ((a, c) ∷ more) (judged wrong)
tested g None a c more wrong tests = tt
tested g (Some t) a c more wrong tests = ap judged tests ∙ judged_class (block_at (shown_of g.layout g.cluster t.shown) (Some c) a)

-- ---- the step

checks : (g : GridState) (s : ScrubState) (told : Option Told) (r : Reference) (wrong : Option Class)
    → pair_in (Some r) ≡ slice_get (left_in g s) 0 → Tests g.layout g.cluster told r.address (number_of r.checksum) wrong
    → IsStep g s (with_check s r.address (judged wrong)) told (Checked r.address (judged wrong))
checks g s told r wrong is tests = let found = headed (left_in g s) r is in record {
  verdict = subst (λ (xs : List (ℕ × ℕ)).
      IsVerdict g told xs (judged wrong)) (sym found.1) (tested g told r.address (number_of r.checksum) found.0 wrong tests);
  goes = ap (λ (xs : List (ℕ × ℕ)). after_scrub_step s (judged wrong) xs) found.1;
}

-- so is the noted one
pub noted : (g : GridState) (s t : ScrubState) (told : Option Told) (r : Reference) (wrong : Option Class) (answer : Scrubbed)
    → pair_in (Some r) ≡ slice_get (left_in g s) 0 → Tests g.layout g.cluster told r.address (number_of r.checksum) wrong
    → t ≡ with_check s r.address (judged wrong) → answer ≡ Checked r.address (judged wrong) → IsStep g s t told answer
noted g s t told r wrong answer is tests after answers = subst (λ (u : ScrubState). IsStep g s u told answer) (sym after)
    (subst (λ (a : Scrubbed). IsStep g s (with_check s r.address (judged wrong)) told a) (sym answers) (checks g s told r wrong is tests))

-- ---- the machine's

to_check_is : (g : GridState) (s : ScrubState) (m : Memory) → IsOver g s m → to_check m ≡ left_in g s
to_check_is g s m over = ap (λ (t : Tour). filter (λ x. nat_lt t.last x.0) (referenced_in m.layout m.blocks)) over.tour
    ∙ ap (λ (l : Layout). filter (λ x. nat_lt s.tour.last x.0) (referenced_in l m.blocks)) over.layout
    ∙ ap (λ (b : Blocks). filter (λ x. nat_lt s.tour.last x.0) (referenced_in (layout_of g.layout) b)) over.blocks

-- a machine's answer is that of its tour, and its memory that of its tour and its findings
answers_alike : (w : Work) (s : ScrubState) (v : Verdict) (xs : List (ℕ × ℕ))
    → w.tour ≡ s.tour → (after_check w v xs).1 ≡ (after_scrub_step s v xs).1
answers_alike w s v [] same = ap (λ (t : Tour). TourEnd t.checked t.failing) same
answers_alike w s v (x ∷ more) same = refl

changes_alike : (g : GridState) (s : ScrubState) (m : Memory) (v : Verdict) (xs : List (ℕ × ℕ))
    → IsOver g s m → checked_in m v xs ≡ with_scrub m (after_scrub_step s v xs).0
changes_alike g s m v [] over = ap (λ (fs : List Finding). record m { tour = first_tour; findings = fs }) over.findings
changes_alike g s m Sound (x ∷ more) over =
    ap (λ (t : Tour). record m { tour = record { last = x.0; checked = t.checked + 1; failing = t.failing } }) over.tour
    ∙ ap (λ (fs : List Finding).
    record m { tour = record { last = x.0; checked = s.tour.checked + 1; failing = s.tour.failing }; findings = fs }) over.findings
changes_alike g s m (Failing class) (x ∷ more) over =
    ap (λ (t : Tour). record m { tour = record { last = x.0; checked = t.checked + 1; failing = t.failing + 1 }; findings = newest (m.findings ++ record { address = x.0; «class» = class } ∷ []) }) over.tour
    ∙ ap (λ (fs : List Finding). record m { tour = record { last = x.0; checked = s.tour.checked + 1; failing = s.tour.failing + 1 }; findings = newest (fs ++ record { address = x.0; «class» = class } ∷ []) }) over.findings

pub machines : (g : GridState) (before after : ScrubState) (told : Option Told) (answer : Scrubbed)
    → IsStep g before after told answer → IsMachines g before after told answer
machines g before after told answer step m over = let v = verdict_in answer in let xs = to_check_is g before m over in record {
  verdict = subst (λ (ys : List (ℕ × ℕ)). IsVerdict g told ys v) (sym xs) step.verdict;
  answers = λ w same. answers_alike w before v (to_check m) (same ∙ over.tour)
      ∙ ap (λ (ys : List (ℕ × ℕ)). (after_scrub_step before v ys).1) xs ∙ ap (λ (p : ScrubState × Scrubbed). p.1) step.goes;
  memory = changes_alike g before m v (to_check m) over ∙ ap (λ (ys : List (ℕ × ℕ)). with_scrub m (after_scrub_step before v ys).0) xs
      ∙ ap (λ (p : ScrubState × Scrubbed). with_scrub m p.0) step.goes;
}
