-- A run over a file that was opened: the reply that waits, the notes, and what is printed at the end; and all its calls.
use Rattle.std.specs.Prelude.{◌≡◌, ℕ, List, ◌++◌, Option, Result, Ok, Err}
use Rattle.df_disk.specs.Told.{Told}
use Rattle.df_session.specs.{Below.{State as Replica}, Links.{CallsMade}}
use Rattle.df_notes.specs.{Calling.{Made, made_in, then_made}, Keeping.{CatchesUp, HasCaughtUp, KeepsNotes, caught_exchanges, kept_exchanges, made_keeping, moment}, Showing.{ShowsNotes, made_showing}}
use Rattle.df_notes.specs.declared.ended.Ended.{Ended}

-- what a run has around it: what the disk tells, and what the sink has taken
pub record Outside : Type 0 where
  pub told : Option Told
  pub written : Option (List ℕ)

abbrev pub around : Option Told → Option (List ℕ) → Outside
around told written = record { told = told; written = written }

-- What waits is replied to, the notes are kept, and then all that stand there are printed; the first of these that fails ends it.
pub data ServesNotes (notes : List (List ℕ)) (s : Replica) (old new : Outside) : Result (Unit {0}) Ended → Type 0 where
  NotCaughtUp : (last : Replica) (ended : Ended) → CatchesUp s last old.told new.told (Err ended) → new.written ≡ old.written → ServesNotes notes s old new (Err ended)
  NotKept : (r : Replica) (mid : Option Told) → HasCaughtUp s r old.told mid → (last : Replica) (ended : Ended) → KeepsNotes notes (moment r mid old.written) (moment last new.told new.written) (Err ended) → ServesNotes notes s old new (Err ended)
  WereKept : (r : Replica) (mid : Option Told) → HasCaughtUp s r old.told mid → (u : Replica) (written : Option (List ℕ)) → KeepsNotes notes (moment r mid old.written) (moment u new.told written) (Ok tt)
      → (last : Replica) (result : Result (Unit {0}) Ended) → ShowsNotes u last new.told written new.written result → ServesNotes notes s old new result

-- ---- all its calls, in order

abbrev pub made_serving : {notes : List (List ℕ)} {s : Replica} {old new : Outside} {result : Result (Unit {0}) Ended} → ServesNotes notes s old new result → Made
made_serving (NotCaughtUp last ended catches same) = made_in catches.1
made_serving (NotKept r mid caught last ended keeps) = then_made (caught_exchanges caught) (made_keeping keeps)
made_serving {new = new} (WereKept r mid caught u written keeps last result shows) = then_made (caught_exchanges caught ++ kept_exchanges keeps) (made_showing u last new.told written new.written result shows)

-- these are all the calls of a run: of appends, replies and reads alone
pub record AreCallsOf {notes : List (List ℕ)} {s : Replica} {old new : Outside} {result : Result (Unit {0}) Ended} (serves : ServesNotes notes s old new result) (c : CallsMade) : Type 0 where
  pub from : c.from ≡ s
  pub old_is : c.old ≡ old.told
  pub new_is : c.new ≡ new.told
  pub exchanges : c.exchanges ≡ (made_serving serves).exchanges
  pub failed : c.failed ≡ (made_serving serves).failed
