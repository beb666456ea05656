-- The promise of the honest half, over places: stop anywhere, and the next open finds the state after the commands that were answered, or after one more. And where a session begins.
use Rattle.std.specs.Prelude.{◌⊎◌, List, [], ◌∷◌}
use Rattle.df_theory.specs.{Units.{Units}, Shape.{Shape}, View.{View}, UnitLog.{Stopped, Synced, UnitLog, add, now}, Chance.{EachLeft}, Grown.{Grown}, Rests.{RestsOn}}
use Rattle.df_theory.specs.{Found.{AreOfPlaces, IsClean, IsFound}, Runs.{AtEach, Command, LeadOn, after_steps}}

-- an open of this image finds this state, and the log with the stop that left it rests on it: the next session goes on from there
pub record Survives (sh : Shape) (log : UnitLog) (image : Units) (w : View) : Type 0 where
  pub found : IsFound sh image w
  pub rests : RestsOn sh (add (Stopped image) log) w

-- at each moment of each command whatever a stop leaves survives, with the view after all earlier commands or with the one after this command too
abbrev pub SurvivesEach : Shape → UnitLog → View → List Command → Type 0
SurvivesEach sh log v [] = EachLeft log (λ image. Survives sh log image v)
SurvivesEach sh log v (c ∷ cs) = AtEach (λ l. EachLeft l (λ image. Survives sh l image v ⊎ Survives sh l image c.view)) log c.steps × SurvivesEach sh (after_steps c.steps log) c.view cs

abbrev pub HeadlineLaw : Type 0
HeadlineLaw = (sh : Shape) (log : UnitLog) (v : View) (cs : List Command) → RestsOn sh log v → LeadOn sh log v cs → SurvivesEach sh log v cs

-- the barrier of an open: a safe log whose image is found to have a state rests on it after a sync
abbrev pub BarrierLaw : Type 0
BarrierLaw = (sh : Shape) (log : UnitLog) (v : View) → Grown sh (add Synced log) → IsFound sh (now log) v → RestsOn sh (add Synced log) v

-- any image that is found to have a state, whatever was done to it, restarts a log, where its copies are clean
abbrev pub CleanStartLaw : Type 0
CleanStartLaw = (sh : Shape) (image : Units) (v : View) → AreOfPlaces sh image → IsFound sh image v → IsClean image v → RestsOn sh (record { start = image; events = [] }) v
