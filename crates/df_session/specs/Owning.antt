-- What the reads of a session give: what is their own.
use Rattle.std.specs.Prelude.{List, [], ◌∷◌, Option, Some, None}
use Rattle.df_disk.specs.Told.{Told}
use Rattle.df_model.specs.Work.{Work}
use Rattle.df_replica.specs.{Below.{State as Replica}, Lending.{GivesOwn}, Serving.{next}, Session.{Act, Exchange}}
use Rattle.df_session.specs.Links.{AreCalls, CallsMade, EndsCalls, More}

-- each of these calls that is a read and Ok gives what is its own, over whatever is shown to it without chance, in the state of the machine that the calls before it lead to
abbrev pub GiveOwn : (s : Replica) → (old : Option Told) → Work → (exchanges : List Exchange) → {t : Replica} {new : Option Told} → AreCalls s old exchanges t new → Type 0
GiveOwn s old w [] calls = Unit {0}
GiveOwn s old w (x ∷ xs) (More u mid call rest) = GivesOwn s old w x.act.command x.answer × GiveOwn u mid (next s.file w x.act.given x.act.command).0 xs rest

-- and each that was answered, where the last one was not
abbrev pub AllGiveOwn : (s t : Replica) → (old new : Option Told) → Work → (exchanges : List Exchange) → (failed : Option Act) → EndsCalls s t old new exchanges failed → Type 0
AllGiveOwn s t old new w exchanges None ends = GiveOwn s old w exchanges ends
AllGiveOwn s t old new w exchanges (Some a) ends = GiveOwn s old w exchanges ends.2

-- so does each of these calls, from this state of the machine on
abbrev pub ReadsOwn : CallsMade → Work → Type 0
ReadsOwn c w = AllGiveOwn c.from c.to c.old c.new w c.exchanges c.failed c.calls
