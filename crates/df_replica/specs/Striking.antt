-- Calls one after the other over a disk of which sectors may be struck between any two of them.
use Rattle.std.specs.Prelude.{◌≡◌, List, [], ◌∷◌, Some, None}
use Rattle.df_base.specs.Log.{Log}
use Rattle.df_disk.specs.Told.{Told}
use Rattle.df_model.specs.{Commands.{Answer, Command, Given}, Work.{Work}}
use Rattle.df_opening.specs.Below.{State}
use Rattle.df_replica.specs.{Lending.{GivesOwn}, Serving.{Firm, IsCall, Keeps, next}, WrittenFor.{IsWrittenFor}}

-- a call that was answered: the command, what it was supplied with, and what the disk told before it
pub record Called : Type 0 where
  pub command : Command
  pub given : Given
  pub before : Told
  pub answer : Answer

-- from one state of a replica to another these calls were made; between two of them the log stays, and what is shown may become any image
abbrev pub AreCalled : State → Log → List Called → State → Log → Type 0
AreCalled s log [] t later = (t ≡ s) × (later ≡ log)
AreCalled s log (c ∷ cs) t later = (c.before.log ≡ log) × (u : State) × (n : Told) × IsCall c.given c.command s u (Some c.before) (Some n) (Some c.answer) × AreCalled u n.log cs t later

-- each read among them that is Ok gives what is its own in the state of the machine that the calls before it lead to
abbrev pub EachGivesOwn : (s : State) → (log : Log) → Work → (calls : List Called) → (t : State) → (later : Log) → AreCalled s log calls t later → Type 0
EachGivesOwn s log w [] t later are = Unit {0}
EachGivesOwn s log w (c ∷ cs) t later are = GivesOwn s (Some c.before) w c.command c.answer × EachGivesOwn are.1 are.2.log (next s.file w c.given c.command).0 cs t later are.4

-- so it is from each state on of which all was written
abbrev pub StruckReadsAreOwn : Type 0
StruckReadsAreOwn =
    (s t : State) (w : Work) (log later : Log) (calls : List Called) → Keeps Firm s w None → IsWrittenFor s.file log w → (are : AreCalled s log calls t later)
    → EachGivesOwn s log w calls t later are
