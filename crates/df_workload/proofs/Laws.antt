-- What crates above may cite: before the end a run may be told any outcome; its flag follows the commands and answers; and runs are joined.
use Rattle.std.proofs.Common.{◌≡◌, Bool, true, false, if◌then◌else◌, List, [], ◌∷◌, ◌++◌, Some, None, refl, ◌∙◌, ap, subst}
use Rattle.df_model.specs.Commands.{Advance, Answer, Command}
pub use Rattle.df_workload.proofs.Running.{runs_so, asks_end}
use Rattle.df_workload.specs.{Asking.{asks, asks_at}, Following.{Follows}, Hearing.{heard, stepped, told, told_at}, Sound.{MayBeTold, is_at_end}, declared.outcome.Outcome.{Outcome}, declared.outcome.Outcome.TheVariants.{Refused}, declared.state.Point.{Point}, declared.state.Point.TheVariants.{Appending, Replying, Stepping, Writing, Releasing, Beginning, Ending}, declared.state.State.{State}}

pub may_go_on : (p : Point) (o : Outcome) (s : State) → is_at_end p ≡ false → MayBeTold p o s
may_go_on Appending o s is = tt
may_go_on (Replying op) o s is = tt
may_go_on Stepping o s is = tt
may_go_on Writing o s is = tt
may_go_on Releasing o s is = tt
may_go_on Beginning o s is = tt
may_go_on Ending o s is = absurd (cc)

-- ---- joined

pub follows_more : (s mid end : State) (cs ds : List Command) (xs ys : List Answer)
    → Follows s cs xs mid → Follows mid ds ys end → Follows s (cs ++ ds) (xs ++ ys) end
follows_more s mid end [] ds [] ys one two = subst (λ (t : State). Follows t ds ys end) one two
follows_more s mid end [] ds (x ∷ xs) ys one two = absurd one
follows_more s mid end (c ∷ cs) ds [] ys one two = absurd one
follows_more s mid end (c ∷ cs) ds (x ∷ xs) ys one two = (one.0, follows_more (heard x s) mid end cs ds xs ys one.1 two)

-- ---- what is asked for

-- before the end there is a next command
pub asks_some : (p : Point) (s : State) → is_at_end p ≡ false → (c : Command) × (asks_at p s ≡ Some c)
asks_some Appending s is = (_, refl)
asks_some (Replying op) s is = (_, refl)
asks_some Stepping s is = (_, refl)
asks_some Writing s is = (_, refl)
asks_some Releasing s is = (_, refl)
asks_some Beginning s is = (_, refl)
asks_some Ending s is = absurd (cc)

-- at the end it is a step while a checkpoint runs, and then there is none
pub ends_by_step : (s : State) → s.point ≡ Ending → s.running ≡ true → asks s ≡ Some Advance
ends_by_step s ending runs = ap (λ (p : Point). asks_at p s) ending ∙ ap (λ (b : Bool). if b then Some Advance else None) runs

stepped_point : (o : Outcome) (s : State) → (stepped o s).point ≡ s.point
stepped_point Refused s = refl
stepped_point o s = refl

-- a step there leads no further
pub still_ending : (o : Outcome) (s : State) → s.point ≡ Ending → (told o s).point ≡ Ending
still_ending o s ending = ap (λ (p : Point). (told_at p o s).point) ending ∙ (stepped_point o s ∙ ending)

-- and may be told whatever isn't a refusal
pub may_end : (o : Outcome) (s : State) → s.point ≡ Ending → s.running ≡ true → (o ≡ Refused → ⊥) → MayBeTold s.point o s
may_end o s ending runs done = rw ending (runs, done)
