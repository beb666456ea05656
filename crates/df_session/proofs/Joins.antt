-- A call that was made is one of a list, and lists of calls are joined.
use Rattle.{std.proofs.Common.{List, [], ◌∷◌, ◌++◌, Option, inl, inr, refl}, df_base.specs.Log.{Event}}
use Rattle.df_disk.specs.Told as told
use Rattle.{df_disk.specs.{Told.{Told}, Adds.{AddsPart}}, df_model.specs.Commands.{Answer, Command, Given}}
use Rattle.df_replica.specs.{Below.{State as Replica}, Answering.{Serves}, Opened.{ToldBy}, Session.{Exchange}, Supply.{IsSupplied}}
use Rattle.df_session.specs.{Links.{AreCalls, Makes, More, NoCalls}, Own.{AddsOwn}}

-- what was told changed by a part of the events
pub part_told : (es : List Event) (old new : Option Told) → AddsPart es old new → ToldBy old new
part_told [] old new is = ([], is)
part_told (e ∷ es) old new (inl same) = ([], same)
part_told (e ∷ es) old new (inr more) = let rest = part_told es (told.after e old) new more in (e ∷ rest.0, rest.1)

pub made : (command : Command) (given : Given) (s t : Replica) (old new : Option Told) (answer : Option Answer) →
    IsSupplied s old command given → Serves command s t old new answer → AddsOwn command s old new answer → Makes command s t old new answer
made command given s t old new answer supplied serves own = record {
  act = record { command = command; given = given };
  is = refl;
  calls = record { call = serves given supplied; own = own };
}

pub calls_join : (s t u : Replica) (old mid new : Option Told) (xs ys : List Exchange)
    → AreCalls s old xs t mid → AreCalls t mid ys u new → AreCalls s old (xs ++ ys) u new
calls_join s t u old mid new [] ys NoCalls others = others
calls_join s t u old mid new (x ∷ xs) ys (More v between call rest) others =
    More v between call (calls_join v t u between mid new xs ys rest others)
