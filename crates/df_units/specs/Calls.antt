-- A call whose events are steps of the theory has at each of its moments what the steps have, also where the disk fails midway and
-- only a part of the events was added, from the first on.
use Rattle.std.specs.Prelude.{◌≡◌, List, Some}
use Rattle.df_base.specs.{Log.{Event, IsLog}, Moments.{EachMoment}}
use Rattle.df_disk.specs.{Told.{Told}, Adds.{AddsPart, after_all}}
use Rattle.df_theory.specs.{Shape.{Shape}, View.{View}, Grown.{IsSafe}, Rests.{IsGoodLog}, Runs.{AtEach, Command, Step, after_steps}}
use Rattle.df_theory.specs.{Device.{AreSteps, Format, IsFormat, IsGoodDisk, IsGoodWholeDisk, IsSafeDisk, units_log}, TidyLaws.{KeepsStanding}}

-- a call on a disk's log that adds these events, or a part of them, and they are these steps
pub record IsCall (f : Format) (es : List Event) (ss : List Step) (before after : Told) : Type 0 where
  pub log : IsLog before.log
  pub steps : AreSteps f es ss
  pub adds : AddsPart es (Some before) (Some after)

-- where the steps are good, one view before them and one after, each moment of the call is good
abbrev pub CallIsGood : Type 0
CallIsGood =
    (f : Format) (sh : Shape) (v u : View) (es : List Event) (ss : List Step) (before after : Told) → IsFormat f → IsCall f es ss before after
    → AtEach (IsGoodLog sh v u) (units_log f before.log) ss → EachMoment before.log after.log (IsGoodDisk f sh v u)

-- and so are the units at each, so that a stop at any of them can be gone on from
abbrev pub CallIsGoodByUnits : Type 0
CallIsGoodByUnits =
    (f : Format) (sh : Shape) (v u : View) (es : List Event) (ss : List Step) (before after : Told) → IsCall f es ss before after
    → AtEach (IsGoodLog sh v u) (units_log f before.log) ss → EachMoment before.log after.log (λ log. IsGoodLog sh v u (units_log f log))

-- where the steps are safe, as those of a making, each moment of the call is safe
abbrev pub CallIsSafe : Type 0
CallIsSafe =
    (f : Format) (sh : Shape) (es : List Event) (ss : List Step) (before after : Told) → IsFormat f → IsCall f es ss before after
    → AtEach (IsSafe sh) (units_log f before.log) ss → EachMoment before.log after.log (IsSafeDisk f sh)

-- where the steps keep the referenced blocks standing, each moment of the call does
abbrev pub CallIsWhole : Type 0
CallIsWhole =
    (f : Format) (sh : Shape) (v : View) (c : Command) (es : List Event) (before after : Told) → IsFormat f → IsCall f es c.steps before after
    → KeepsStanding sh (units_log f before.log) v c → EachMoment before.log after.log (IsGoodWholeDisk f sh v c.view)

-- a call that adds all its events ends where its steps do
abbrev pub CallEnds : Type 0
CallEnds =
    (f : Format) (es : List Event) (ss : List Step) (before after : Told) → IsLog before.log → AreSteps f es ss
    → Some after ≡ after_all es (Some before) → units_log f after.log ≡ after_steps ss (units_log f before.log)
