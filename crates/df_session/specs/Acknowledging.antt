-- What was answered of a session by a moment of it, and that from then on it is there.
use Rattle.std.specs.Prelude.{ℕ, zero, suc, List, ◌++◌, take, drop, Option, Some, None}
use Rattle.df_base.specs.{Log.{Log}, Moments.{Extends}}
use Rattle.df_disk.specs.{Told.{Told}, Adds.{after_all}}
use Rattle.df_model.specs.Work.{Work}
use Rattle.df_replica.specs.{Below.{DataFile, State as Replica}, Serving.{Grade}, Session.{Act, Exchange, IsMidway, acts_in, work_after}}
use Rattle.df_session.specs.Links.{AreCalls, CallsMade, NoCalls, More, EndsCalls, events_made, list_of}

-- ---- what was answered by a moment, of the told log or of another base

-- the log goes on from what the disk told then
abbrev pub IsSince : Option Told → Log → Type 0
IsSince None log = ⊥
IsSince (Some t) log = Extends log t.log

-- and what the disk tells later goes on from it
abbrev pub IsUntil : Option Told → Log → Type 0
IsUntil None log = ⊥
IsUntil (Some n) log = Extends n.log log

-- the first k of these calls had returned by then: the log goes on from the base with what they added
abbrev pub HadReturned : ℕ → Option Told → Log → {s : Replica} {old : Option Told} {exchanges : List Exchange} {t : Replica} {new : Option Told} → AreCalls s old exchanges t new → Type 0
HadReturned zero base log calls = IsSince base log
HadReturned (suc k) base log NoCalls = ⊥
HadReturned (suc k) base log (More u mid call rest) = HadReturned k (after_all call.call.events base) log rest

abbrev pub HadAnswers : ℕ → Option Told → Log → (s t : Replica) (old new : Option Told) (exchanges : List Exchange) (failed : Option Act) → EndsCalls s t old new exchanges failed → Type 0
HadAnswers k base log s t old new exchanges None calls = HadReturned k base log calls
HadAnswers k base log s t old new exchanges (Some a) calls = HadReturned k base log calls.2

-- The first k calls of a session were answered by then, that is they had returned, by the log that began with this base. The program prints the line of an answer only
-- after that, so what was printed by a moment was answered by then.
abbrev pub WereAnswered : ℕ → Option Told → Log → CallsMade → Type 0
WereAnswered k base log c = HadAnswers k base log c.from c.to c.old c.new c.exchanges c.failed c.calls

-- At each moment of a session the log is safe, and whatever a stop leaves has the view after all calls that were answered by then, and perhaps some of those
-- after them, from the first of these on.
abbrev pub KeepsAnswered : DataFile → Grade → Work → Option Told → CallsMade → Type 0
KeepsAnswered file g w base c = (k : ℕ) (log : Log) → WereAnswered k base log c → IsUntil (after_all (events_made c) base) log → IsMidway file g (work_after file w (acts_in (take k c.exchanges))) (acts_in (drop k c.exchanges) ++ list_of c.failed) log
