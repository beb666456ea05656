-- What is kept of a file after the barrier of an open, whatever is done with it.
use Rattle.std.specs.Prelude.{◌≡◌, List, [], ◌∷◌, ◌++◌, Option, Some, None}
use Rattle.df_base.specs.{Log.{Event, Sync}, Moments.{EachMoment, Extends}}
use Rattle.df_disk.specs.Told.{IsHonest, Told, did}
use Rattle.df_theory.specs.{Device.{units_log}, TidyLaws.{IsTidy}}
use Rattle.df_model.specs.Work.{Work, kept}
use Rattle.df_replica.specs.{Below.{DataFile, shape, told_after}, Leaving.{AreSettled}, Serving.{Grade, format}}
use Rattle.df_replica.specs.Session.{Act, Exchange, IsMidway, LeavesEither, LeavesView, acts_in, answers_in, answers_of, work_after}
use Rattle.df_session.specs.Links.{list_of}

-- what a base tells after the barrier of an open and its mending, and after what was done then
abbrev pub over : (mending added : List Event) → (base : Told) → Option Told
over mending added base = Some (told_after added (told_after mending (did Sync base)))

-- whatever a stop leaves at the end has all the acts that were answered; one more only where the disk failed in it
abbrev pub LeavesAll : DataFile → Grade → Work → List Act → Option Act → Told → Type 0
LeavesAll file g w acts None n = LeavesView file g (work_after file w acts) (Some n)
LeavesAll file g w acts (Some a) n = LeavesEither file g (work_after file w acts) (work_after file w (acts ++ a ∷ [])) (Some n)

-- where the disk didn't fail nothing of the file is loose but blocks of the grid, and nothing of it is left to mend
abbrev pub EndsTidy : DataFile → Work → List Act → Option Act → Told → Type 0
EndsTidy file w acts None n = IsTidy (shape file) (units_log (format file) n.log) (kept (work_after file w acts))
EndsTidy file w acts (Some a) n = Unit {0}

-- From the barrier on, where the machine began with this state: at each moment the log is safe, and whatever a stop leaves has the view after some of the
-- acts, from the first on. At the end it has all that were answered, and no sector is loose of a block that the checkpoint after them references, or of its trailer:
-- no stop changes one of these, sound or hurt.
pub record KeepsFile (file : DataFile) (g : Grade) (w : Work) (t : Told) (exchanges : List Exchange) (failed : Option Act) (told : Option Told) : Type 0 where
  pub after : Told
  pub is : told ≡ Some after
  pub honest : IsHonest after
  pub barrier : Extends after.log (did Sync t).log
  pub moments : EachMoment (did Sync t).log after.log (IsMidway file g w (acts_in exchanges ++ list_of failed))
  pub left : LeavesAll file g w (acts_in exchanges) failed after
  pub tidy : EndsTidy file w (acts_in exchanges) failed after
  pub settled : AreSettled file after.log (work_after file w (acts_in exchanges))
  pub answered : answers_in exchanges ≡ answers_of file w (acts_in exchanges)
