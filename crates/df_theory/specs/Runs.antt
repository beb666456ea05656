-- Runs of writes and syncs, and what holds at each moment of them.
use Rattle.std.specs.Prelude.{◌⊎◌, List, [], ◌∷◌, ◌++◌}
use Rattle.df_theory.specs.{Units.{Units}, Shape.{Shape}, View.{View}, Holds.{Held}, UnitLog.{Synced, UnitLog, add, wrote}, Chance.{EachLeft}, Grown.{IsSafe}, Rests.{IsGoodLog, RestsOn}}

-- what a program asks of the disk
pub data Step : Type 0 where
  Puts : (put : Units) → Step
  Syncs : Step

abbrev pub after_step : Step → UnitLog → UnitLog
after_step (Puts put) log = wrote put log
after_step Syncs log = add Synced log

-- the log after these steps
abbrev pub after_steps : List Step → UnitLog → UnitLog
after_steps [] log = log
after_steps (s ∷ ss) log = after_steps ss (after_step s log)

-- a fact of the log at each moment of these steps, the first and the last included
abbrev pub AtEach : (UnitLog → Type 0) → UnitLog → List Step → Type 0
AtEach P log [] = P log
AtEach P log (s ∷ ss) = P log × AtEach P (after_step s log) ss

-- a command that a program carries out: its steps, and the view that it leads to
pub record Command : Type 0 where
  pub steps : List Step
  pub view : View

-- the command leads from a view to its own: a stop at any moment leaves one of the two, and at the end nothing that is loose matters
pub record Leads (sh : Shape) (log : UnitLog) (v : View) (c : Command) : Type 0 where
  pub moments : AtEach (IsGoodLog sh v c.view) log c.steps
  pub rests : RestsOn sh (after_steps c.steps log) c.view

-- one command after the other, each of which leads on
abbrev pub LeadOn : Shape → UnitLog → View → List Command → Type 0
LeadOn sh log v [] = Unit {0}
LeadOn sh log v (c ∷ cs) = Leads sh log v c × LeadOn sh (after_steps c.steps log) c.view cs

abbrev pub steps_of : List Command → List Step
steps_of [] = []
steps_of (c ∷ cs) = c.steps ++ steps_of cs

-- the view after all of them
abbrev pub view_after : View → List Command → View
view_after v [] = v
view_after v (c ∷ cs) = view_after c.view cs

-- the image holds the view after some of them, from the first on
abbrev pub HoldsPart : Shape → Units → View → List Command → Type 0
HoldsPart sh image v [] = Held sh image v
HoldsPart sh image v (c ∷ cs) = Held sh image v ⊎ HoldsPart sh image c.view cs

-- a moment of such a run: the log is safe, and each image left has the view after a part of the commands
pub record IsPartWay (sh : Shape) (v : View) (cs : List Command) (log : UnitLog) : Type 0 where
  pub safe : IsSafe sh log
  pub left : EachLeft log (λ image. HoldsPart sh image v cs)
