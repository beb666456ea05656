-- What holds of a generated run at each moment, so that its numbers stay in range and its rounds end.
use Rattle.std.specs.Prelude.{◌≡◌, ◌≤◌, ◌<◌, ◌+◌, ◌-◌, ◌*◌, ◌^◌, ℕ, Bool, true, false, cond, length}
use Rattle.df_workload.specs.{declared.counts.Counts.{Counts}, declared.outcome.Outcome.{Outcome}, declared.outcome.Outcome.TheVariants.{Refused}, declared.state.Point.{Point}}
use Rattle.df_workload.specs.{declared.state.Point.TheVariants.{Appending, Replying, Stepping, Writing, Releasing, Beginning, Ending}, declared.state.State.{State}}

-- the most commands that a round may still ask for, at this point of round k
abbrev pub left_at : (round : ℕ) → Point → ℕ
left_at round Appending = 9
left_at round (Replying op) = 5 + (round - op)
left_at round Stepping = 4
left_at round Writing = 3
left_at round Releasing = 2
left_at round Beginning = 1
left_at round Ending = 0

-- the most commands that are still asked for before all rounds are over
abbrev pub left : State → ℕ
left s = 12 * (s.count - s.round) + left_at s.round s.point

-- all rounds are over
abbrev pub is_at_end : Point → Bool
is_at_end Ending = true
is_at_end point = false

-- how many commands were counted
abbrev pub counted_commands : Counts → ℕ
counted_commands c = c.appended + c.replied + c.wrote + c.released + c.checkpoints + c.refused

abbrev pub flag : Bool → ℕ
flag running = cond running 1 0

-- what holds where at most this many commands of a round are to come
pub record IsWithinRound (to_come : ℕ) (s : State) : Type 0 where
  pub number : s.number < 2 ^ 31
  pub some : 1 ≤ s.clients
  pub four : s.clients ≤ 4
  pub million : s.count ≤ 1000000
  pub first : 1 ≤ s.round
  pub last : s.round ≤ s.count
  pub counted : counted_commands s.counts + flag s.running + 12 * (s.count - s.round) + to_come ≤ 12 * s.count
  pub bytes : s.counts.bytes ≤ 2047 * s.counts.appended

-- what a point has beside
abbrev pub HasPoint : Point → State → Type 0
HasPoint Releasing s = length s.held ≡ 9
HasPoint (Replying op) s = (op ≤ s.round) × (length s.held ≤ 8)
HasPoint Ending s = (s.round ≡ s.count) × (length s.held ≤ 8)
HasPoint point s = length s.held ≤ 8

pub record IsSoundState (s : State) : Type 0 where
  pub within : IsWithinRound (left_at s.round s.point) s
  pub point : HasPoint s.point s

-- what a state may be told: at the end there is an answer only while a checkpoint runs, whose step is not refused
abbrev pub MayBeTold : Point → Outcome → State → Type 0
MayBeTold Ending outcome s = (s.running ≡ true) × (outcome ≡ Refused → ⊥)
MayBeTold point outcome s = Unit {0}
