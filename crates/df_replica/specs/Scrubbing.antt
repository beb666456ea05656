-- The calls of the scrubber: a step of its tour, a whole tour, and what it found last. They leave all else as it was.
use Rattle.std.specs.Prelude.{◌≡◌, ◌++◌, List, Option, Some, None, Result, Ok, Err}
use Rattle.df_base.specs.{Image.{Image}, declared.Failed.{Failed}}
use Rattle.df_disk.specs.Told.{Told}
use Rattle.df_layout.specs.declared.damage.Finding.{Finding}
use Rattle.df_model.specs.{After.{newest, to_check}, Memory.{referenced_of}, Reading.{IsTour}, Sense.{IsWork}, Supply.{Codec, first_check}, Work.{Work, first_tour}}
use Rattle.df_model.specs.{declared.answers.Scrubbed.{Scrubbed}, declared.answers.Verdict.{Verdict}}
use Rattle.df_opening.specs.Below.{IsStep, ScrubState, Represents, State, grid_with, memory, shape, spelling}
use Rattle.df_replica.specs.{Reading.{shown_of}, Stopping.{stopped}}

-- ---- a step

-- what a check finds over an image: the verdict on the first block that this tour has yet to check
abbrev pub check_found : State → Image → Verdict
check_found s image = first_check (shown_of s.file image) (to_check (memory s))

-- this is found, where the disk tells what it shows
abbrev pub IsCheckFound : State → Option Told → Verdict → Type 0
IsCheckFound s None verdict = Unit {0}
IsCheckFound s (Some t) verdict = verdict ≡ check_found s t.shown

-- the scrubber of a state, and the state with another one
abbrev pub scrub_of : State → ScrubState
scrub_of s = record { tour = s.tour; findings = s.findings }

abbrev pub with_scrub : State → ScrubState → State
with_scrub s scrub = record s { tour = scrub.tour; findings = scrub.findings }

-- what a step answers, with the state after it: the scrubber's step over the grid, and nothing else moved; after a fault the replica isn't live, and that alone changed
abbrev pub IsScrub : (s t : State) → Option Told → Result Scrubbed Failed → Type 0
IsScrub s t told (Ok answer) = (t ≡ with_scrub s (scrub_of t)) × IsStep (grid_with s.file s.boot s.blocks) (scrub_of s) (scrub_of t) told answer
IsScrub s t told (Err e) = t ≡ stopped s

-- ---- a whole tour

-- the state after a tour that listed these: the next one begins, and they went last into the ring
abbrev pub toured : State → List Finding → State
toured s list = record s { tour = first_tour; findings = newest (s.findings ++ list) }

-- what a tour leaves; after a fault the replica isn't live, and beside that the scrubber alone may have moved
abbrev pub LeavesTour : {A : Type 0} → (A → List Finding) → (s t : State) → Result A Failed → Type 0
LeavesTour items s t (Ok list) = t ≡ toured s (items list)
LeavesTour items s t (Err e) = t ≡ stopped (record s { tour = t.tour; findings = t.findings })

-- a state of the machine with its tour at the start, and after the tour
abbrev pub at_start : Work → Work
at_start w = record w { tour = first_tour }

abbrev pub work_toured : Work → List Finding → Work
work_toured w list = record w { tour = first_tour; findings = newest (w.findings ++ list) }

-- the machine's tour over an image, from each of its states that the replica stands for: as many checks as blocks are referenced, and the end
abbrev pub IsMachineTour : State → Image → Type 0
IsMachineTour s image = (codec : Codec) (w : Work) → IsWork (shape s.file) (spelling s.file) w → Represents s w → IsTour (shape s.file) codec (shown_of s.file image) (at_start w) (referenced_of (memory s))

abbrev pub TellsTour : State → Option Told → Type 0
TellsTour s None = Unit {0}
TellsTour s (Some t) = IsMachineTour s t.shown
