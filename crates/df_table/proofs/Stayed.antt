-- What a command makes of the view: no other one than an append or a checkpoint's last step changes its checkpoint or its tail.
use Rattle.std.proofs.Common.{◌≡◌, ◌≤◌, ◌-◌, ℕ, zero, suc, List, [], ◌∷◌, length, drop, Option, Some, None, refl, arith}
use Rattle.df_model.{specs.{After.{outcome, with_live, with_running, with_verdict, begun}, Change.{Appends, Change, Checks, Ends, One, Staged, Writes}, Commands.{Advance, Append, Begin, Command, Flush, Given, Release, ToBegin, ToRelease, ToWriteBlock, WriteBlock, supplied_sum, supplied_verdict}, Making.{needed_of, next_address}, Memory.{Memory, memory_of}, Refusals.{begin_refusals, block_refusals, first_refusal, release_refusals}, Work.{Work}, declared.errors.BeginError.{BeginError}, declared.errors.BlockError.{BlockError}, declared.errors.NotLive.{NotLive}, declared.answers.Verdict.{Verdict}, declared.answers.Verdict.TheVariants.{Failing, Sound}}, proofs.Laws.{one_thing_law}}
use Rattle.{df_session.specs.{Below.{DataFile, shape, spelling}, Serving.{next}}, df_theory.specs.{Units.{Message}, View.{View, head}}}
use Rattle.df_table.specs.Turns.{IsAccepted}

-- ---- the view stays

pub record Stays (w u : Work) : Type 0 where
  pub checkpoint : u.view.checkpoint ≡ w.view.checkpoint
  pub tail : u.view.tail ≡ w.view.tail

-- neither an append nor a step
abbrev pub IsPlain : Command → Type 0
IsPlain (Append client request body) = ⊥
IsPlain Flush = ⊥
IsPlain Advance = ⊥
IsPlain command = Unit {0}

module _ (file : DataFile) (w : Work) (given : Given) where
  checked : (a : ℕ) (v : Verdict) → Stays w (with_verdict w a v)
  checked a Sound = record { checkpoint = refl; tail = refl }
  checked a (Failing class) = record { checkpoint = refl; tail = refl }

  abbrev m : Memory
  m = memory_of (shape file) (spelling file) w

  changed_stays : (c : Command) (u : Work) → IsPlain c → Change (shape file) (spelling file) w given c u → Stays w u
  changed_stays c u plain (Appends _ ps (One client request body none staged)) = absurd plain
  changed_stays c u plain (Appends _ ps (Staged none)) = absurd plain
  changed_stays c u plain (Writes r a more running left) = absurd plain
  changed_stays c u plain (Ends r running left) = absurd plain
  changed_stays c u plain (Checks x more list) = checked x.0 (supplied_verdict given)
  changed_stays c u plain change = record { checkpoint = refl; tail = refl }

  pub plain_stays : (c : Command) → IsPlain c → Stays w (next file w given c).0
  plain_stays c plain = changed_stays c (next file w given c).0 plain (one_thing_law (shape file) (spelling file) w given c)

  -- ---- what was accepted was done

  pub released : (address : ℕ)
      → IsAccepted (next file w given (Release address)).1 → (next file w given (Release address)).0 ≡ with_live w address None
  released address accepted = go (first_refusal (release_refusals m address)) accepted
    where
      go : (o : Option NotLive) → IsAccepted (ToRelease (outcome {A = Unit {0}} o w (with_live w address None) tt).1)
          → (outcome {A = Unit {0}} o w (with_live w address None) tt).0 ≡ with_live w address None
      go None fine = refl
      go (Some e) refused = absurd refused

  pub wrote : (body : List ℕ) → IsAccepted (next file w given (WriteBlock 1 body)).1 → (first_refusal (block_refusals m 1 body) ≡ None)
      × ((next file w given (WriteBlock 1 body)).0 ≡ with_live w (next_address m) (Some (supplied_sum given)))
  wrote body accepted = go (first_refusal (block_refusals m 1 body)) refl accepted
    where
      go : (o : Option BlockError) → first_refusal (block_refusals m 1 body) ≡ o → IsAccepted (ToWriteBlock
          (outcome {A = ℕ × ℕ} o w (with_live w (next_address m) (Some (supplied_sum given))) (next_address m, supplied_sum given)).1)
          → (first_refusal (block_refusals m 1 body) ≡ None) × ((outcome {A = ℕ × ℕ} o w (with_live w (next_address m)
          (Some (supplied_sum given))) (next_address m, supplied_sum given)).0 ≡ with_live w (next_address m) (Some (supplied_sum given)))
      go None is fine = (is, refl)
      go (Some e) is refused = absurd refused

  pub began : (root : List ℕ) → IsAccepted (next file w given (Begin root)).1
      → (next file w given (Begin root)).0 ≡ with_running w (Some (begun (shape file) (spelling file) w root))
  began root accepted = go (first_refusal (begin_refusals m (needed_of (spelling file) m root) root)) accepted
    where
      go : (o : Option BeginError) → IsAccepted
          (ToBegin (outcome o w (with_running w (Some (begun (shape file) (spelling file) w root))) (needed_of (spelling file) m root)).1)
          → (outcome o w (with_running w (Some (begun (shape file) (spelling file) w root))) (needed_of (spelling file) m root)).0
          ≡ with_running w (Some (begun (shape file) (spelling file) w root))
      go None fine = refl
      go (Some e) refused = absurd refused

-- ---- a step

dropped : (A : Type 0) (xs : List A) (n : ℕ) → length xs ≤ n → drop n xs ≡ []
dropped A [] zero all = refl
dropped A [] (suc n) all = refl
dropped A (x ∷ xs) zero all = absurd (omega (arith, all))
dropped A (x ∷ xs) (suc n) all = dropped A xs n (omega (arith, all))

-- after the last step, where all of the tail was captured, none of it is left
pub none_left : (op : ℕ) (v : View) → op ≡ head v → drop (op - v.checkpoint.content.op) v.tail ≡ []
none_left op v is = dropped Message v.tail (op - v.checkpoint.content.op) (omega (arith, is))
