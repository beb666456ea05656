-- Calls of a replica one after the other: what was made of a list of commands, and what it added to the log.
use Rattle.std.specs.Prelude.{◌≡◌, List, [], ◌∷◌, ◌++◌, Option, Some, None}
use Rattle.df_base.specs.Log.{Event}
use Rattle.df_disk.specs.Told.{Told}
use Rattle.df_model.specs.Commands.{Answer, Command}
use Rattle.df_replica.specs.{Below.{State as Replica}, Serving.{IsCall}, Session.{Act, Exchange}}
use Rattle.df_session.specs.Own.{AddsOwn}

-- one call: what it was supplied with is right, and what the disk tells changed by its own device calls alone
pub record Calls (a : Act) (s t : Replica) (old new : Option Told) (answer : Option Answer) : Type 0 where
  pub call : IsCall a.given a.command s t old new answer
  pub own : AddsOwn a.command s old new answer

-- from one state to another these calls were made, one after the other, and each was answered
pub data AreCalls : (s : Replica) (old : Option Told) (exchanges : List Exchange) (t : Replica) (new : Option Told) → Type 0 where
  NoCalls : {s : Replica} {old : Option Told} → AreCalls s old [] s old
  More : {x : Exchange} {xs : List Exchange} {s t : Replica} {old new : Option Told} (u : Replica) (mid : Option Told) → Calls x.act s u old mid (Some x.answer) → AreCalls u mid xs t new → AreCalls s old (x ∷ xs) t new

-- the events that they added
abbrev pub call_events : {s : Replica} {old : Option Told} {exchanges : List Exchange} {t : Replica} {new : Option Told} → AreCalls s old exchanges t new → List Event
call_events NoCalls = []
call_events (More u mid call rest) = call.call.events ++ call_events rest

-- the act that was not answered, if there is one
abbrev pub list_of : Option Act → List Act
list_of None = []
list_of (Some a) = a ∷ []

-- the calls were made, and the last one was not answered, if there is one
abbrev pub EndsCalls : (s t : Replica) → (old new : Option Told) → List Exchange → (failed : Option Act) → Type 0
EndsCalls s t old new exchanges None = AreCalls s old exchanges t new
EndsCalls s t old new exchanges (Some a) = (u : Replica) × (mid : Option Told) × AreCalls s old exchanges u mid × Calls a u t mid new None

-- what all of them added
abbrev pub events_to : (s t : Replica) → (old new : Option Told) → (exchanges : List Exchange) → (failed : Option Act) → EndsCalls s t old new exchanges failed → List Event
events_to s t old new exchanges None calls = call_events calls
events_to s t old new exchanges (Some a) calls = call_events calls.2 ++ calls.3.call.events

-- ---- one command

-- the call that a command asks for
pub record Makes (command : Command) (s t : Replica) (old new : Option Told) (answer : Option Answer) : Type 0 where
  pub act : Act
  pub is : act.command ≡ command
  pub calls : Calls act s t old new answer

-- ---- all of a session

-- these calls were made and answered, one after the other, and after them one was not, if there is one
pub record CallsMade : Type 0 where
  pub from : Replica
  pub to : Replica
  pub old : Option Told
  pub new : Option Told
  pub exchanges : List Exchange
  pub failed : Option Act
  pub calls : EndsCalls from to old new exchanges failed

-- all that they added to the log
abbrev pub events_made : CallsMade → List Event
events_made c = events_to c.from c.to c.old c.new c.exchanges c.failed c.calls
