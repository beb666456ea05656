-- The scrubber as its callers see it, and a step of its tour.
use Rattle.std.specs.{Prelude.{◌≡◌, ◌≤◌, ◌+◌, ℕ, nat_lt, List, [], ◌∷◌, ◌++◌, length, Option, Some, None}, List.{filter}}
use Rattle.df_disk.specs.Told.{Told}
use Rattle.df_layout.specs.{declared.damage.Class.{Class}, declared.damage.Finding.{Finding}}
use Rattle.df_model.specs.{Work.{Tour, first_tour}, After.{newest}, Supply.{first_check}, declared.answers.Scrubbed.{Scrubbed}, declared.answers.Scrubbed.TheVariants.{Checked, TourEnd}}
use Rattle.df_model.specs.{declared.answers.Verdict.{Verdict}, declared.answers.Verdict.TheVariants.{Sound, Failing}}
use Rattle.df_grid.specs.{Grid.{GridState, referenced_of}, Reads.{shown_of}}

-- where the tour stands, and the newest findings
pub record ScrubState : Type 0 where
  pub tour : Tour
  pub findings : List Finding

-- nothing was checked yet
abbrev pub new_scrub : ScrubState
new_scrub = record { tour = first_tour; findings = [] }

-- what holds of the parts of a scrubber: each check went to a greater address, and the ring has 64 places
pub record IsScrubber (last checked failing capacity : ℕ) (findings : List Finding) : Type 0 where
  pub rising : checked ≤ last
  pub counted : failing ≤ checked
  pub places : capacity ≡ 64
  pub few : length findings ≤ 64

-- ---- what is checked

-- what this tour has yet to check, from the least address on, each with its checksum
abbrev pub left_in : GridState → ScrubState → List (ℕ × ℕ)
left_in g s = filter (λ x. nat_lt s.tour.last x.0) (referenced_of g)

-- what was found of the block that was checked, if one was
abbrev pub verdict_in : Scrubbed → Verdict
verdict_in (Checked a verdict) = verdict
verdict_in (TourEnd checked failing) = Sound

-- the verdict is that on the first of these blocks over what the disk shows, where it tells that
abbrev pub IsVerdict : GridState → Option Told → List (ℕ × ℕ) → Verdict → Type 0
IsVerdict g None left verdict = Unit {0}
IsVerdict g (Some t) left verdict = verdict ≡ first_check (shown_of g.layout g.cluster t.shown) left

-- the verdict on a block with which this is wrong, if anything is
abbrev pub judged : Option Class → Verdict
judged None = Sound
judged (Some class) = Failing class

-- ---- a step

-- the block at this address was checked: a finding goes last into the ring
abbrev pub with_check : ScrubState → ℕ → Verdict → ScrubState
with_check s a Sound = record s { tour = record { last = a; checked = s.tour.checked + 1; failing = s.tour.failing } }
with_check s a (Failing class) = record {
  tour = record { last = a; checked = s.tour.checked + 1; failing = s.tour.failing + 1 };
  findings = newest (s.findings ++ record { address = a; «class» = class } ∷ []);
}

-- the first block that is left is checked; where none is, the tour ends and the next one begins
abbrev pub after_scrub_step : ScrubState → Verdict → List (ℕ × ℕ) → ScrubState × Scrubbed
after_scrub_step s verdict [] = (record s { tour = first_tour }, TourEnd s.tour.checked s.tour.failing)
after_scrub_step s verdict (x ∷ more) = (with_check s x.0 verdict, Checked x.0 verdict)

-- a step: what it finds, what it leaves and what it answers
pub record IsStep (g : GridState) (before after : ScrubState) (told : Option Told) (answer : Scrubbed) : Type 0 where
  pub verdict : IsVerdict g told (left_in g before) (verdict_in answer)
  pub goes : after_scrub_step before (verdict_in answer) (left_in g before) ≡ (after, answer)
