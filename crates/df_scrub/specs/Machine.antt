-- A step of the scrubber in the words of the machine.
use Rattle.std.specs.Prelude.{◌≡◌, Option}
use Rattle.df_disk.specs.Told.{Told}
use Rattle.df_grid.specs.{Below.{layout_of}, Grid.{GridState}}
use Rattle.df_model.specs.{Work.{Work}, Memory.{Memory}, After.{after_check, to_check}, Changing.{checked_in}, declared.answers.Scrubbed.{Scrubbed}}
use Rattle.df_scrub.specs.Scrubber.{IsVerdict, ScrubState, verdict_in}

-- what a machine has in memory over this grid, where its tour and its findings are the scrubber's
pub record IsOver (g : GridState) (s : ScrubState) (m : Memory) : Type 0 where
  pub layout : m.layout ≡ layout_of g.layout
  pub blocks : m.blocks ≡ g.blocks
  pub tour : m.tour ≡ s.tour
  pub findings : m.findings ≡ s.findings

-- the same memory with another tour and other findings
abbrev pub with_scrub : Memory → ScrubState → Memory
with_scrub m s = record m { tour = s.tour; findings = s.findings }

-- a machine's step with this memory: the verdict that the disk supplies, the answer of each state with that tour, and what is in memory afterwards
pub record IsMachineStep (g : GridState) (after : ScrubState) (told : Option Told) (answer : Scrubbed) (m : Memory) : Type 0 where
  pub verdict : IsVerdict g told (to_check m) (verdict_in answer)
  pub answers : (w : Work) → w.tour ≡ m.tour → (after_check w (verdict_in answer) (to_check m)).1 ≡ answer
  pub memory : checked_in m (verdict_in answer) (to_check m) ≡ with_scrub m after

-- so it is of each machine over the grid
abbrev pub IsMachines : GridState → (before after : ScrubState) → Option Told → Scrubbed → Type 0
IsMachines g before after told answer = (m : Memory) → IsOver g before m → IsMachineStep g after told answer m
