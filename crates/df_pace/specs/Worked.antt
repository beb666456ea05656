-- Worked scripts on files that were just made, with work beside them.
use Rattle.std.specs.Prelude.{◌≡◌, ◌<◌, ◌+◌, ◌-◌, ◌/◌, ◌%◌, ℕ, zero, suc, List, [], ◌∷◌, ◌++◌, codes, drop}
use Rattle.df_theory.specs.View.{View, head, sequence}
use Rattle.df_model.specs.Commands.{Append, Begin, Command, Flush, Release, Reply, Stage}
use Rattle.df_script_model.specs.{Sessions.{blank, equal_blocks, first_work, plain, small}, Texts.{line_of, numbered}}
use Rattle.df_pace.specs.{declared.pace.Pace.{Pace}, Loop.{ended, paced, start}}

abbrev pub pace_of : (scrub every steps : ℕ) → Pace
pace_of scrub every steps = record { scrub = scrub; every = every; steps = steps }

-- what a script prints beside work of this pace
abbrev pub prints : 0 < 7 → 0 < 32 → Pace → List Command → List (List ℕ)
prints named some pace cs = let sh = small named some in paced sh (plain sh) pace (start blank (first_work sh)) cs

-- and the view that it ends with
abbrev pub ends : 0 < 7 → 0 < 32 → Pace → List Command → View
ends named some pace cs = let sh = small named some in (ended sh (plain sh) pace (start blank (first_work sh)) cs).work.view

pub record Counts : Type 0 where
  pub sequence : ℕ
  pub checkpoint_op : ℕ
  pub head : ℕ
  pub replies : ℕ

abbrev pub counts_of : View → Counts
counts_of v = record { sequence = sequence v; checkpoint_op = v.checkpoint.content.op; head = head v; replies = v.replies }

-- ---- a long script

-- n requests of four clients in turn, from the one with this op on, each with its reply
abbrev pub requests_from : (op n : ℕ) → List Command
requests_from op zero = []
requests_from op (suc n) = Append ((op - 1) % 4 + 1) ((op - 1) / 4 + 1) (0 ∷ []) ∷ Reply op (0 ∷ []) ∷ requests_from (op + 1) n

abbrev pub answers_from : (op n : ℕ) → List (List ℕ)
answers_from op zero = []
answers_from op (suc n) = line_of (numbered (codes "appended") op) ∷ line_of (numbered (codes "replied") op) ∷ answers_from (op + 1) n

-- with a checkpoint every 20 appends, one step of it after each line and three of the scrubber, a ring of 32 slots is never full
abbrev pub LongSession : Type 0
LongSession =
    (named : 0 < 7) (some : 0 < 32)
    → (prints named some (pace_of 3 20 1) (requests_from 1 40) ≡ answers_from 1 40)
    × (counts_of (ends named some (pace_of 3 20 1) (requests_from 1 40)) ≡ record { sequence = 3; checkpoint_op = 40; head = 40; replies = 40 })

-- with no work it is
abbrev pub FullRing : Type 0
FullRing = (named : 0 < 7) (some : 0 < 32) → drop 64 (prints named some (pace_of 0 0 0) (requests_from 1 33)) ≡ codes "refused WalFull op 33 checkpoint_op 0\n" ∷ codes "refused NothingPending head 32\n" ∷ []

-- ---- when a begin is due

-- a begin that is refused, here for want of a block, is due again after the next line
abbrev pub RefusedBegin : Type 0
RefusedBegin =
    (named : 0 < 7) (some : 0 < 32)
    → let lines = equal_blocks [] 64 ++ (Append 1 1 [] ∷ []) in
    (counts_of (ends named some (pace_of 0 1 2) lines) ≡ record { sequence = 1; checkpoint_op = 0; head = 1; replies = 0 })
    × (counts_of (ends named some (pace_of 0 1 2) (lines ++ Release 64 ∷ [])) ≡ record { sequence = 2; checkpoint_op = 1; head = 1; replies = 0 })

-- the loop does the steps of a checkpoint that the script began by itself, which is no begin of the loop: the appends before it count on
abbrev pub OwnCheckpoint : Type 0
OwnCheckpoint =
    (named : 0 < 7) (some : 0 < 32)
    → let lines = Append 1 1 [] ∷ Begin [] ∷ Reply 1 [] ∷ [] in
    (counts_of (ends named some (pace_of 0 2 2) lines) ≡ record { sequence = 2; checkpoint_op = 1; head = 1; replies = 1 })
    × (counts_of (ends named some (pace_of 0 2 2) (lines ++ Append 1 2 [] ∷ [])) ≡ record { sequence = 3; checkpoint_op = 2; head = 2; replies = 1 })

-- a flush counts as many as it appends, and what is staged doesn't count
abbrev pub GroupsCount : Type 0
GroupsCount =
    (named : 0 < 7) (some : 0 < 32)
    → let lines = Stage 1 1 [] ∷ Stage 2 1 [] ∷ Stage 3 1 [] ∷ [] in
    (counts_of (ends named some (pace_of 0 3 2) lines) ≡ record { sequence = 1; checkpoint_op = 0; head = 0; replies = 0 })
    × (counts_of (ends named some (pace_of 0 3 2) (lines ++ Flush ∷ [])) ≡ record { sequence = 2; checkpoint_op = 3; head = 3; replies = 0 })
    × (counts_of (ends named some (pace_of 0 4 2) (lines ++ Flush ∷ [])) ≡ record { sequence = 1; checkpoint_op = 0; head = 3; replies = 0 })
