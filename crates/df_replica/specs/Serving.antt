-- What each call of a replica promises, whatever the state of the machine that it stands for.
use Rattle.std.specs.Prelude.{◌≡◌, true, false, List, Option, Some, None}
use Rattle.df_base.specs.{Image.{Image, IsImage}, Log.{Event, Log}, Moments.{EachMoment, Extends, adds}}
use Rattle.df_disk.specs.{Told.{Told}, Adds.{after_all}}
use Rattle.df_theory.specs.View.{View}
use Rattle.df_units.specs.Within.{AreWithin}
use Rattle.df_model.specs.{Commands.{Answer, Command, Given, IsInput, after, supplied_sums}, Work.{Work, kept}}
use Rattle.df_opening.specs.Below.{DataFile, State, memory, shape, spelling}
use Rattle.df_replica.specs.{Leaving.{AreSettled, LeavesCopies, LeavesShown, SparesHeld, SparesOthers, image_after}, Supply.{IsSupplied}, WrittenFor.{WritesOn}}
pub use Rattle.df_opening.specs.Keeping.{Firm, Grade, IsGoodFor, IsKept, Keeps, KeptFor, StandingFor, StandsFor, Whole, format}

-- at each moment of a call, each image that a stop may leave holds one of two views
abbrev pub EachIsGood : (g : Grade) (s : State) → (v u : View) → (old new : Option Told) → Type 0
EachIsGood g s v u (Some t) (Some n) = Extends n.log t.log × EachMoment t.log n.log (IsGoodFor g (format s.file) (shape s.file) v u)
EachIsGood g s v u None None = Unit {0}
EachIsGood g s v u old new = ⊥

-- where there is an answer
abbrev pub OnSome : Option Answer → Type 0 → Type 0
OnSome None P = Unit {0}
OnSome (Some answer) P = P

-- calls may go on after an answer, and not after a fault of the disk, where there is none
abbrev pub StaysLive : Option Answer → State → Type 0
StaysLive None t = t.live ≡ false
StaysLive (Some answer) t = t.live ≡ true

-- what a call leaves: the answer is the machine's, and what is kept goes on from the state after it
abbrev pub GoesOnTo : Grade → (t : State) → Option Told → (Work × Answer) → Option Answer → Type 0
GoesOnTo g t new expected None = Unit {0}
GoesOnTo g t new expected (Some answer) = (answer ≡ expected.1) × Keeps g t expected.0 new

-- the machine's next state and answer
abbrev pub next : DataFile → Work → Given → Command → Work × Answer
next file w given command = after (shape file) (spelling file) w given command

-- Every call, with what it was rightly supplied with, from each state of the machine that the replica stands for: it answers as the machine, and adds these events to
-- the log that is told, whose writes lie within the zones of the file. Over each log by which the file was kept for that state, the told one or one restarted, each moment of them is good and what comes after is
-- kept. Whatever the disk shows: an answered call leaves shown what it makes and nothing else, headers aside, and one that wasn't answered nothing else; no call writes to a block that is held, but the running trailer's next;
-- where no block of the durable checkpoint is loose, none is after the answer; and where all was written that the state before has, all was that the one after has
pub record IsCall (given : Given) (command : Command) (s t : State) (old new : Option Told) (answer : Option Answer) : Type 0 where
  pub file : OnSome answer (t.file ≡ s.file)
  pub live : StaysLive answer t
  pub input : IsInput given command
  pub supplied : IsSupplied s old command given
  pub events : List Event
  pub told : new ≡ after_all events old
  pub within : AreWithin s.file.layout events
  pub answers : (g : Grade) (w : Work) → Keeps g s w None → GoesOnTo g t None (next s.file w given command) answer
  pub keeps : (g : Grade) (w : Work) (base : Option Told) → Keeps g s w base
      → EachIsGood g s (kept w) (kept (next s.file w given command).0) base (after_all events base) × GoesOnTo g t (after_all events base) (next s.file w given command) answer
  pub leaves : OnSome answer ((image : Image) → IsImage image → LeavesShown s.file (memory s) (supplied_sums given) command image (image_after events image))
  pub others : (image : Image) → IsImage image → SparesOthers s.file (memory s) (supplied_sums given) command image (image_after events image)
  pub copies : (w : Work) → Keeps Firm s w None → OnSome answer ((image : Image) → IsImage image → LeavesCopies s.file (memory s) (supplied_sums given) command image (image_after events image))
  pub spares : (w : Work) → Keeps Firm s w None → SparesHeld s.file command w events
  pub settles : (w : Work) (log : Log) → Keeps Firm s w None → AreSettled s.file log w → OnSome answer (AreSettled s.file (adds events log) (next s.file w given command).0)
  pub written : (w : Work) → Keeps Firm s w None → OnSome answer (WritesOn s.file old new w (next s.file w given command).0)
