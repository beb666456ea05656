-- What was written stays written as a log goes on, and what one of its writes brings is written.
use Rattle.std.proofs.{Common.{◌≡◌, ◌⊎◌, ℕ, inl, inr, List, [], ◌∷◌, Option, Some, ◌∙◌, ap}, lemmas.Bool.{cond-true}}
use Rattle.df_base.{specs.{Image.{blank}, Log.{Event, Log, Stop, Sync, Write, add}, Moments.{adds}}, proofs.Laws.{blank_is_image}}
use Rattle.df_opening.specs.Below.{IsWritten}
use Rattle.df_theory.specs.{Device.{AreSteps, Format, IsPut, stands, units_log}, Runs.{Puts, Step, Syncs}, Units.{AnyUnit, Place, Units, is_some, or_else}}

-- ---- what a write brings

-- one of the steps puts this unit there
abbrev pub PutsIn : List Step → Place → AnyUnit → Type 0
PutsIn [] place x = ⊥
PutsIn ((Puts put) ∷ steps) place x = (put place ≡ Some x) ⊎ PutsIn steps place x
PutsIn (Syncs ∷ steps) place x = PutsIn steps place x

-- it stands whole in one of the writes
abbrev pub StandsIn : Format → List Event → Place → AnyUnit → Type 0
StandsIn f [] place x = ⊥
StandsIn f ((Write at bytes) ∷ events) place x = (stands f at bytes place ≡ Some x) ⊎ StandsIn f events place x
StandsIn f (Sync ∷ events) place x = StandsIn f events place x
StandsIn f ((Stop changes) ∷ events) place x = StandsIn f events place x

put_stands : (f : Format) (at : ℕ) (bytes : List ℕ) (put : Units) (place : Place) (x : AnyUnit)
    → IsPut f at bytes put → put place ≡ Some x → stands f at bytes place ≡ Some x
put_stands f at bytes put place x is here = cond-true (f.touches at bytes place) _ _ (is.touches place ∙ ap is_some here)
    ∙ is.shows blank place blank_is_image ∙ ap (λ (o : Option AnyUnit). or_else o (f.unit_at blank place)) here

pub steps_stand : (f : Format) (events : List Event) (steps : List Step) (place : Place) (x : AnyUnit)
    → AreSteps f events steps → PutsIn steps place x → StandsIn f events place x
steps_stand f [] [] place x are puts = puts
steps_stand f ((Write at bytes) ∷ es) ((Puts put) ∷ ss) place x are (inl here) = inl (put_stands f at bytes put place x are.0 here)
steps_stand f ((Write at bytes) ∷ es) ((Puts put) ∷ ss) place x are (inr later) = inr (steps_stand f es ss place x are.1 later)
steps_stand f (Sync ∷ es) (Syncs ∷ ss) place x are puts = steps_stand f es ss place x are puts
steps_stand f [] (s ∷ ss) place x are puts = absurd are
steps_stand f ((Write at bytes) ∷ es) [] place x are puts = absurd are
steps_stand f ((Write at bytes) ∷ es) (Syncs ∷ ss) place x are puts = absurd are
steps_stand f (Sync ∷ es) [] place x are puts = absurd are
steps_stand f (Sync ∷ es) ((Puts put) ∷ ss) place x are puts = absurd are
steps_stand f ((Stop changes) ∷ es) ss place x are puts = absurd are

-- ---- what was written

one_on : (f : Format) (e : Event) (log : Log) (place : Place) (x : AnyUnit)
    → IsWritten (units_log f log) place x → IsWritten (units_log f (add e log)) place x
one_on f (Write at bytes) log place x is = inr is
one_on f Sync log place x is = inr is
one_on f (Stop changes) log place x is = inr is

-- after these events, too
pub stays_written : (f : Format) (events : List Event) (log : Log) (place : Place) (x : AnyUnit)
    → IsWritten (units_log f log) place x → IsWritten (units_log f (adds events log)) place x
stays_written f [] log place x is = is
stays_written f (e ∷ es) log place x is = stays_written f es (add e log) place x (one_on f e log place x is)

pub brought_is_written : (f : Format) (events : List Event) (log : Log) (place : Place) (x : AnyUnit)
    → StandsIn f events place x → IsWritten (units_log f (adds events log)) place x
brought_is_written f [] log place x none = absurd none
brought_is_written f ((Write at bytes) ∷ es) log place x (inl here) =
    stays_written f es (add (Write at bytes) log) place x (inl (inr (inl here)))
brought_is_written f ((Write at bytes) ∷ es) log place x (inr later) = brought_is_written f es (add (Write at bytes) log) place x later
brought_is_written f (Sync ∷ es) log place x later = brought_is_written f es (add Sync log) place x later
brought_is_written f ((Stop changes) ∷ es) log place x later = brought_is_written f es (add (Stop changes) log) place x later
