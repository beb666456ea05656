-- What a session does with blocks that are held: no call writes a sector of one, but a step those of the running trailer's next.
use Rattle.std.specs.Prelude.{List, [], ◌∷◌, Option, Some, None}
use Rattle.df_disk.specs.Told.{Told}
use Rattle.df_model.specs.Work.{Work}
use Rattle.df_replica.specs.{Below.{DataFile, State as Replica}, Leaving.{SparesHeld}, Serving.{next}, Session.{Act, Exchange, acts_in, work_after}}
use Rattle.df_session.specs.Links.{AreCalls, CallsMade, EndsCalls, More}

-- each of these calls, by the events that it added, spares each block that was held before it, but the running trailer's next
abbrev pub SpareHeld : DataFile → Work → (exchanges : List Exchange) → {s : Replica} {old : Option Told} {t : Replica} {new : Option Told} → AreCalls s old exchanges t new → Type 0
SpareHeld file w [] calls = Unit {0}
SpareHeld file w (x ∷ xs) (More u mid call rest) = SparesHeld file x.act.command w call.call.events × SpareHeld file (next file w x.act.given x.act.command).0 xs rest

-- and so does the one after them that was not answered
abbrev pub AllSpareHeld : DataFile → (s t : Replica) → (old new : Option Told) → Work → (exchanges : List Exchange) → (failed : Option Act) → EndsCalls s t old new exchanges failed → Type 0
AllSpareHeld file s t old new w exchanges None ends = SpareHeld file w exchanges ends
AllSpareHeld file s t old new w exchanges (Some a) ends = SpareHeld file w exchanges ends.2 × SparesHeld file a.command (work_after file w (acts_in exchanges)) ends.3.call.events

-- so does each call of a session, from this state of the machine on
abbrev pub SparesBlocks : DataFile → Work → CallsMade → Type 0
SparesBlocks file w c = AllSpareHeld file c.from c.to c.old c.new w c.exchanges c.failed c.calls
