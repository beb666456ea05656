-- What a whole tour lists: exactly the referenced blocks that fail, in order of address.
use Rattle.std.specs.Prelude.{◌≡◌, ℕ, List, ◌++◌, Option, Some, None}
use Rattle.df_base.specs.Image.{Image}
use Rattle.df_disk.specs.Told.{Told}
use Rattle.df_layout.specs.declared.damage.Finding.{Finding}
use Rattle.df_model.specs.Reading.{failing}
use Rattle.df_grid.specs.{Grid.{GridState, referenced_of}, Reads.{shown_of}}
use Rattle.df_scrub.specs.Scrubber.{ScrubState, left_in}

-- the failing ones among these blocks over an image, each with the class of what is shown
abbrev pub failing_among : GridState → Image → List (ℕ × ℕ) → List Finding
failing_among g image blocks = failing (shown_of g.layout g.cluster image) blocks

-- the failing ones among all that are referenced
abbrev pub failing_in : GridState → Image → List Finding
failing_in g image = failing_among g image (referenced_of g)

-- they are listed, where the disk tells what it shows
abbrev pub ListsFailing : GridState → Option Told → List Finding → Type 0
ListsFailing g None report = Unit {0}
ListsFailing g (Some t) report = report ≡ failing_in g t.shown

-- they are listed but for those that are left to be checked
abbrev pub ListsSoFar : GridState → Option Told → ScrubState → List Finding → Type 0
ListsSoFar g None s report = Unit {0}
ListsSoFar g (Some t) s report = failing_in g t.shown ≡ report ++ failing_among g t.shown (left_in g s)
