-- A front of device calls: which steps it is, and which log it leaves.
use Rattle.std.proofs.Common.{◌≡◌, List, [], ◌∷◌, Option, Some, None, refl, ◌∙◌, ap, ℕ, Bool, ◌||◌, inl, inr, true, false}
use Rattle.{df_base.specs.{Image.{covers}, Log.{Event, Stop, Sync, Write}}, df_disk.specs.{Told.{Told}, Adds.{AddsPart, after_all}}}
use Rattle.df_theory.specs.{Device.{AreSteps, Format}, Runs.{Puts, Step, Syncs}, Units.{AnyUnit, Place, Units, or_else}}
use Rattle.df_opening.{specs.Sparing.{writes_to}, proofs.StepShows.{some_stays, unit_after}}
use Rattle.df_disk.specs.Told as told

-- it is a front of the steps, and puts nothing where these put nothing
pub record FrontSteps (f : Format) (part : List Event) (whole : List Step) : Type 0 where
  pub steps : List Step
  pub are : AreSteps f part steps
  pub aside : (place : Place) (o : Option AnyUnit) → unit_after whole place None ≡ None → unit_after steps place o ≡ o

-- none of them
pub no_front : (f : Format) (whole : List Step) → FrontSteps f [] whole
no_front f whole = record { steps = []; are = tt; aside = λ place o none. refl }

-- where steps put nothing, neither does the first of them, nor do those after it
pub put_nothing : (put : Units) (ss : List Step) (place : Place)
    → unit_after ((Puts put) ∷ ss) place None ≡ None → (put place ≡ None) × (unit_after ss place None ≡ None)
put_nothing put ss place none = by (put place) refl none
  where
    by : (o : Option AnyUnit)
        → put place ≡ o → unit_after ss place (or_else o None) ≡ None → (put place ≡ None) × (unit_after ss place None ≡ None)
    by None is none = (is, none)
    by (Some x) is none = absurd (some_stays ss place x none)

nothing_put : (ss : List Step) (place : Place) (o : Option AnyUnit) → unit_after ss place None ≡ None → unit_after ss place o ≡ o
nothing_put [] place o none = refl
nothing_put ((Puts put) ∷ ss) place o none = let parts = put_nothing put ss place none in
    ap (λ (p : Option AnyUnit). unit_after ss place (or_else p o)) parts.0 ∙ nothing_put ss place o parts.1
nothing_put (Syncs ∷ ss) place o none = nothing_put ss place o none

-- all of them
pub all_front : (f : Format) (es : List Event) (ss : List Step) → AreSteps f es ss → FrontSteps f es ss
all_front f es ss are = record { steps = ss; are = are; aside = nothing_put ss }

module _ (f : Format) (es part : List Event) (rest : (ss : List Step) → AreSteps f es ss → FrontSteps f part ss) where
  -- a call more
  pub one_more : (e : Event) (ss : List Step) → AreSteps f (e ∷ es) ss → FrontSteps f (e ∷ part) ss
  one_more (Write at bytes) ((Puts put) ∷ ss) are = let more = rest ss are.1 in record {
    steps = Puts put ∷ more.steps;
    are = (are.0, more.are);
    aside = λ place o none. let parts = put_nothing put ss place none in
        ap (λ (p : Option AnyUnit). unit_after more.steps place (or_else p o)) parts.0 ∙ more.aside place o parts.1;
  }
  one_more (Write at bytes) [] are = absurd are
  one_more (Write at bytes) (Syncs ∷ ss) are = absurd are
  one_more Sync (Syncs ∷ ss) are = let more = rest ss are in
      record { steps = Syncs ∷ more.steps; are = more.are; aside = λ place o none. more.aside place o none }
  one_more Sync [] are = absurd are
  one_more Sync ((Puts put) ∷ ss) are = absurd are
  one_more (Stop changes) ss are = absurd are

-- ---- told of any log

-- a front of the events, told of any log
pub record Front (events : List Event) (old new : Option Told) : Type 0 where
  pub part : List Event
  pub is : new ≡ after_all part old
  pub again : (base : Option Told) → AddsPart events base (after_all part base)
  pub dry : (sector : ℕ) → writes_to events sector ≡ false → writes_to part sector ≡ false
  pub steps : (f : Format) (ss : List Step) → AreSteps f events ss → FrontSteps f part ss

none_added : (events : List Event) (base : Option Told) → AddsPart events base base
none_added [] base = refl
none_added (e ∷ es) base = inl refl

both_dry : (x y z : Bool) → (y ≡ false → z ≡ false) → (x || y) ≡ false → (x || z) ≡ false
both_dry true y z on dry = dry
both_dry false y z on dry = on dry

dry_on : (e : Event) (es part : List Event) (sector : ℕ) → (writes_to es sector ≡ false → writes_to part sector ≡ false)
    → writes_to (e ∷ es) sector ≡ false → writes_to (e ∷ part) sector ≡ false
dry_on (Write at bytes) es part sector on dry = both_dry (covers at bytes sector) (writes_to es sector) (writes_to part sector) on dry
dry_on Sync es part sector on dry = on dry
dry_on (Stop changes) es part sector on dry = on dry

pub front_of : (events : List Event) (old new : Option Told) → AddsPart events old new → Front events old new
front_of [] old new is = record { part = []; is = is; again = none_added []; dry = λ sector dry. refl; steps = λ f ss are. no_front f ss }
front_of (e ∷ es) old new (inl is) =
    record { part = []; is = is; again = none_added (e ∷ es); dry = λ sector dry. refl; steps = λ f ss are. no_front f ss }
front_of (e ∷ es) old new (inr more) = let rest = front_of es (told.after e old) new more in record {
  part = e ∷ rest.part;
  is = rest.is;
  again = λ base. inr (rest.again (told.after e base));
  dry = λ sector dry. dry_on e es rest.part sector (rest.dry sector) dry;
  steps = λ f ss are. one_more f es rest.part (rest.steps f) e ss are;
}
