-- The calls of the program: how one ends it, and what a part of the program made of them.
use Rattle.std.specs.Prelude.{List, [], ◌∷◌, ◌++◌, Option, Some, None, Err}
use Rattle.df_disk.specs.Told.{Told}
use Rattle.df_model.specs.Commands.{Answer, Command, ToAppend, ToReadPrepare, ToReply}
use Rattle.df_session.specs.{Below.{State as Replica}, Links.{Makes}, Session.{Act, Exchange}}
use Rattle.df_notes.specs.{declared.ended.Ended.{Ended}, declared.ended.Ended.TheVariants.{DiskFault, Refused}}

-- an append, a reply or a read is refused
abbrev pub IsRefused : Answer → Type 0
IsRefused (ToAppend (Err e)) = Unit {0}
IsRefused (ToReply (Err e)) = Unit {0}
IsRefused (ToReadPrepare (Err e)) = Unit {0}
IsRefused answer = ⊥

-- the call that this command asks for ends the program: the disk failed in it, or it is refused
pub data EndsIn (command : Command) (s t : Replica) (old new : Option Told) : Ended → Type 0 where
  Fails : Makes command s t old new None → EndsIn command s t old new DiskFault
  IsRefusal : (answer : Answer) → IsRefused answer → Makes command s t old new (Some answer) → EndsIn command s t old new Refused

-- ---- what was made

-- these calls were answered, and after them one was not, if there is one
pub record Made : Type 0 where
  pub exchanges : List Exchange
  pub failed : Option Act

-- a call and its answer
abbrev pub exchange : {command : Command} {s t : Replica} {old new : Option Told} (answer : Answer) → Makes command s t old new (Some answer) → Exchange
exchange answer makes = record { act = makes.act; answer = answer }

abbrev pub made_in : {command : Command} {s t : Replica} {old new : Option Told} {ended : Ended} → EndsIn command s t old new ended → Made
made_in (Fails makes) = record { exchanges = []; failed = Some makes.act }
made_in (IsRefusal answer is makes) = record { exchanges = exchange answer makes ∷ []; failed = None }

-- all of these were answered
abbrev pub answered : List Exchange → Made
answered exchanges = record { exchanges = exchanges; failed = None }

-- these, and then others
abbrev pub then_made : List Exchange → Made → Made
then_made exchanges made = record { exchanges = exchanges ++ made.exchanges; failed = made.failed }
