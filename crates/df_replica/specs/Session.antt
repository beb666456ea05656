-- Calls one after the other, from one state of the machine on: what they answered, what is kept after them, and what a stop at any moment leaves.
use Rattle.std.specs.Prelude.{◌≡◌, ◌⊎◌, true, List, [], ◌∷◌, ◌++◌, Option, Some, None}
use Rattle.df_base.specs.{Image.{Image}, Log.{Event, IsLeft, Log}, Moments.{EachMoment, Extends, adds}}
use Rattle.df_disk.specs.{Told.{Told}, Adds.{after_all}}
use Rattle.df_theory.specs.{Units.{Units}, Shape.{Shape}, View.{View}, Holds.{Held, Stands}, Device.{IsSafeDisk, NoChanceOf}}
use Rattle.df_model.specs.{Commands.{Answer}, Views.{SomeKeeps}, Work.{Work, kept}}
use Rattle.df_model.specs.Runs as machine
pub use Rattle.df_model.specs.Runs.{Act, Exchange, act_in, acts_in, answer_in, answers_in, command_in}
use Rattle.df_opening.specs.Below.{DataFile, State, shape, spelling}
use Rattle.df_replica.specs.{Leaving.{AreSettled}, Serving.{Firm, Grade, IsCall, Keeps, Whole, format, next}, WrittenFor.{WritesOn}}

-- the state after these acts
abbrev pub work_after : DataFile → Work → List Act → Work
work_after file w acts = machine.work_after (shape file) (spelling file) w acts

-- the machine's answers to them
abbrev pub answers_of : DataFile → Work → List Act → List Answer
answers_of file w acts = machine.run_answers (shape file) (spelling file) w acts

-- the image has a view that keeps this one; of a whole file with each block that it references
abbrev pub HoldsFor : Grade → Shape → Units → View → Type 0
HoldsFor Firm sh image v = SomeKeeps v (Held sh image)
HoldsFor Whole sh image v = SomeKeeps v (λ u. Held sh image u × Stands image u)

-- the image has the view of this state
abbrev pub HasView : DataFile → Grade → Work → Image → Type 0
HasView file g w image = HoldsFor g (shape file) ((format file).unit_at image) (kept w)

-- the image has the view after some of the acts, from the first on
abbrev pub HoldsSome : DataFile → Grade → Work → List Act → Image → Type 0
HoldsSome file g w [] image = HasView file g w image
HoldsSome file g w (a ∷ acts) image = HasView file g w image ⊎ HoldsSome file g (next file w a.given a.command).0 acts image

-- a moment: the log is safe, and each image that a stop may leave, under no chance, has the view after some of the acts
pub record IsMidway (file : DataFile) (g : Grade) (w : Work) (acts : List Act) (log : Log) : Type 0 where
  pub safe : IsSafeDisk (format file) (shape file) log
  pub left : (image : Image) → IsLeft log image → NoChanceOf (format file) log image → HoldsSome file g w acts image

abbrev pub EachIsMidway : DataFile → Grade → Work → List Act → (first new : Option Told) → Type 0
EachIsMidway file g w acts (Some t) (Some n) = Extends n.log t.log × EachMoment t.log n.log (IsMidway file g w acts)
EachIsMidway file g w acts None None = Unit {0}
EachIsMidway file g w acts first new = ⊥

-- whatever a stop leaves now, under no chance, has the view of this state
abbrev pub LeavesView : DataFile → Grade → Work → Option Told → Type 0
LeavesView file g w None = Unit {0}
LeavesView file g w (Some t) = (image : Image) → IsLeft t.log image → NoChanceOf (format file) t.log image → HasView file g w image

-- or that of one of two
abbrev pub LeavesEither : DataFile → Grade → (w u : Work) → Option Told → Type 0
LeavesEither file g w u None = Unit {0}
LeavesEither file g w u (Some t) = (image : Image) → IsLeft t.log image → NoChanceOf (format file) t.log image → HasView file g w image ⊎ HasView file g u image

-- From one state of a replica to another these calls were served, and added these events: from each state of the machine that the first stood for, the answers are the
-- machine's and the second stands for the state after them; and over each log by which the file was kept, it is, and each moment since is midway. Whatever the disk
-- shows: where no block of the durable checkpoint was loose, none is, and where all was written that the first state of the machine has, all was that the last one has
pub record IsServed (s0 s : State) (told0 told : Option Told) (exchanges : List Exchange) (events : List Event) : Type 0 where
  pub file : s.file ≡ s0.file
  pub live : s.live ≡ true
  pub told_is : told ≡ after_all events told0
  pub answered : (g : Grade) (w : Work) → Keeps g s0 w None → (answers_in exchanges ≡ answers_of s0.file w (acts_in exchanges)) × Keeps g s (work_after s0.file w (acts_in exchanges)) None
  pub kept_on : (g : Grade) (w : Work) (base : Option Told) → Keeps g s0 w base → EachIsMidway s0.file g w (acts_in exchanges) base (after_all events base) × Keeps g s (work_after s0.file w (acts_in exchanges)) (after_all events base)
  pub settles : (w : Work) (log : Log) → Keeps Firm s0 w None → AreSettled s0.file log w → AreSettled s0.file (adds events log) (work_after s0.file w (acts_in exchanges))
  pub written : (w : Work) → Keeps Firm s0 w None → WritesOn s0.file told0 told w (work_after s0.file w (acts_in exchanges))

-- the call after them ended in a fault: each moment is midway in the acts and this one, and what a stop leaves now has the view after the acts or after one more, never less
pub record IsStopped (s0 : State) (told0 told : Option Told) (acts : List Act) (act : Act) (events : List Event) : Type 0 where
  pub told_is : told ≡ after_all events told0
  pub moments : (g : Grade) (w : Work) (base : Option Told) → Keeps g s0 w base → EachIsMidway s0.file g w (acts ++ act ∷ []) base (after_all events base)
  pub left : (g : Grade) (w : Work) (base : Option Told) → Keeps g s0 w base → LeavesEither s0.file g (work_after s0.file w acts) (work_after s0.file w (acts ++ act ∷ [])) (after_all events base)

-- ---- the laws

-- at first nothing is served
abbrev pub NothingIsServed : Type 0
NothingIsServed = (s : State) (told : Option Told) → s.live ≡ true → IsServed s s told told [] []

-- a call that answered is served, too
abbrev pub OneMoreIsServed : Type 0
OneMoreIsServed =
    (s0 s t : State) (told0 told new : Option Told) (exchanges : List Exchange) (events : List Event) (x : Exchange) → IsServed s0 s told0 told exchanges events
    → (call : IsCall x.act.given x.act.command s t told new (Some x.answer)) → IsServed s0 t told0 new (exchanges ++ x ∷ []) (events ++ call.events)

-- one that ended in a fault stops them
abbrev pub FaultStopsThem : Type 0
FaultStopsThem =
    (s0 s t : State) (told0 told new : Option Told) (exchanges : List Exchange) (events : List Event) (act : Act) → IsServed s0 s told0 told exchanges events
    → (call : IsCall act.given act.command s t told new None) → IsStopped s0 told0 new (acts_in exchanges) act (events ++ call.events)

-- what was answered is there, by each log by which the file was kept: a stop after the acts leaves the view after all of them
abbrev pub AnsweredIsThere : Type 0
AnsweredIsThere =
    (s0 s : State) (told0 told : Option Told) (exchanges : List Exchange) (events : List Event) → IsServed s0 s told0 told exchanges events
    → (g : Grade) (w : Work) (base : Option Told) → Keeps g s0 w base → LeavesView s0.file g (work_after s0.file w (acts_in exchanges)) (after_all events base)
