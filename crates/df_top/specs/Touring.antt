-- What the functions of a tour say of their steps.
use Rattle.std.specs.Prelude.{◌≡◌, ◌⊎◌, ℕ, List, [], Option, Ok, length}
use Rattle.df_base.specs.Streams.{Appends, AppendsPart}
use Rattle.df_disk.specs.Told.{Told}
use Rattle.df_inspect.specs.Reports.{failing_texts}
use Rattle.df_layout.specs.declared.damage.Finding.{Finding}
use Rattle.df_model.specs.{Reading.{with_finding}, declared.answers.Scrubbed.{Scrubbed}, declared.answers.Scrubbed.TheVariants.{Checked, TourEnd}}
use Rattle.df_script_model.specs.Texts.{scrubbed_text}
use Rattle.df_session.specs.{Below.{State as Replica}, Scrubbing.{IsScrub}}
use Rattle.df_top.specs.{Scrubs.{tour_status}, declared.status.Status.{Status}, declared.status.Status.TheVariants.{DiskFault, Done, Found, WriteFault}, Outside.{Turn}}
use Rattle.df_program.specs.declared.turn.Turn.TheVariants.{Ends, GoesOn}

-- what a step prints: the block, where it fails, or how many there are
abbrev pub step_text : Scrubbed → List ℕ
step_text (Checked a verdict) = failing_texts (with_finding a verdict [])
step_text (TourEnd checked failing) = scrubbed_text (TourEnd checked failing)

-- what becomes of the tour by it
abbrev pub step_turn : Scrubbed → Turn
step_turn (Checked a verdict) = GoesOn
step_turn (TourEnd checked failing) = Ends (tour_status failing)

-- it is printed, or a front of it is there where the sink failed
abbrev pub TellsStep : Scrubbed → (old new : Option (List ℕ)) → Turn → Type 0
TellsStep x old new turn = ((turn ≡ step_turn x) × Appends old new (step_text x)) ⊎ ((turn ≡ Ends WriteFault) × AppendsPart old new (step_text x))

-- a step of the scrubber was taken and told; or the disk failed in it, and the tour is where it was
abbrev pub TakesStep : (s t : Replica) → Option Told → (old new : Option (List ℕ)) → Turn → Type 0
TakesStep s t told old new turn = ((x : Scrubbed) × IsScrub s t told (Ok x) × TellsStep x old new turn) ⊎ ((turn ≡ Ends DiskFault) × (new ≡ old) × (t.tour ≡ s.tour))

-- a tour has found this many failing blocks, and each of them has its line
abbrev pub TellsTourFound : ℕ → (old new : Option (List ℕ)) → Type 0
TellsTourFound found old new = (listed : List Finding) × (length listed ≡ found) × Appends old new (failing_texts listed)

-- a tour ends with no other status
abbrev pub EndsTour : Status → Type 0
EndsTour Done = Unit {0}
EndsTour Found = Unit {0}
EndsTour DiskFault = Unit {0}
EndsTour WriteFault = Unit {0}
EndsTour status = ⊥
