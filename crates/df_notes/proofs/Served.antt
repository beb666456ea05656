-- All calls of a run over a file that was opened, one after the other.
use Rattle.std.{proofs.{Common.{◌≡◌, ℕ, Bool, true, false, List, [], ◌∷◌, ◌++◌, Option, Some, None, Result, Ok, Err, refl, sym, ap, subst}, lemmas.Bool.{false≢true}}, specs.Prelude.{IfErr}}
use Rattle.{df_disk.specs.Told.{Told}, df_model.specs.Commands.{Answer, Command}}
use Rattle.df_session.{specs.{Below.{State as Replica}, Links.{AreCalls, EndsCalls, Makes, More, NoCalls}, Session.{Act, Exchange}}, proofs.Laws.{calls_join}}
use Rattle.df_notes.{specs.{Calling.{EndsIn, Fails, IsRefusal, exchange, made_in}, Ending.{IsOfRun}, Keeping.{AreKept, Begun, HasCaughtUp, InAppend, InLine, InReply, Kept, KeepsNotes, KeepsSome, Moment, NoneWaits, NoteFails, Replied, append_exchange, caught_exchanges, kept_exchanges, made_failing, made_keeping, moment}, Serving.{NotCaughtUp, NotKept, Outside, ServesNotes, WereKept, around, made_serving}, Showing.{AreNotesShown, InPrint, InRead, NoteHides, Shown, ShowsNotes, made_hiding, made_showing, read_exchange, shown_exchanges}, declared.ended.Ended.{Ended}}, proofs.Blame.{ends_of_run}}
use Rattle.df_notes.specs.Showing as show

-- ---- one call, and calls after others

one_call : {command : Command} {s t : Replica} {old new : Option Told} (answer : Answer) (makes : Makes command s t old new (Some answer))
    → AreCalls s old (exchange answer makes ∷ []) t new
one_call {t = t} {new = new} answer makes = More t new makes.calls NoCalls

ends_join : (s u t : Replica) (old mid new : Option Told) (xs ys : List Exchange) (failed : Option Act)
    → AreCalls s old xs u mid → EndsCalls u t mid new ys failed → EndsCalls s t old new (xs ++ ys) failed
ends_join s u t old mid new xs ys None calls ends = calls_join s u t old mid new xs ys calls ends
ends_join s u t old mid new xs ys (Some a) calls ends = (ends.0, ends.1, calls_join s u ends.0 old mid ends.1 xs ys calls ends.2, ends.3)

last_call : (command : Command) (s t : Replica) (old new : Option Told) (ended : Ended) (ends : EndsIn command s t old new ended)
    → EndsCalls s t old new (made_in ends).exchanges (made_in ends).failed
last_call command s t old new ended (Fails makes) = (s, old, NoCalls, makes.calls)
last_call command s t old new ended (IsRefusal answer is makes) = one_call answer makes

-- ---- the op that waits, and the notes

caught_calls : (s t : Replica) (old new : Option Told) (caught : HasCaughtUp s t old new) → AreCalls s old (caught_exchanges caught) t new
caught_calls s t old new (NoneWaits past is same) =
    subst (λ (r : Replica). AreCalls s old [] r new) (sym is) (subst (λ (o : Option Told). AreCalls s old [] s o) (sym same) NoCalls)
caught_calls s t old new (Replied waits replied) = one_call _ replied.1

kept_calls : (m n : Moment) (notes : List (List ℕ)) (kept : AreKept m notes n) → AreCalls m.replica m.told (kept_exchanges kept) n.replica n.told
kept_calls m n notes Begun = NoCalls
kept_calls m n notes (Kept before note mid last kept is) = calls_join m.replica mid.replica n.replica m.told mid.told
    n.told (kept_exchanges kept) _ (kept_calls m mid before kept) (More is.between is.mid is.appended.1.calls (one_call _ is.replied.1))

failed_calls : (note : List ℕ) (m n : Moment) (ended : Ended) (fails : NoteFails note m n ended)
    → EndsCalls m.replica n.replica m.told n.told (made_failing fails).exchanges (made_failing fails).failed
failed_calls note m n ended (InAppend ends same) = last_call _ m.replica n.replica m.told n.told ended ends.1
failed_calls note m n ended (InReply receipt between mid appended ends same) =
    ends_join m.replica between n.replica m.told mid n.told (append_exchange receipt appended
    ∷ []) (made_in ends).exchanges (made_in ends).failed (one_call _ appended.1) (last_call _ between n.replica mid n.told ended ends)
failed_calls note m n ended (InLine receipt between mid appended replied part is) = More between mid appended.1.calls (one_call _ replied.1)

some_calls : (notes : List (List ℕ)) (m n : Moment) (ended : Ended) (some : KeepsSome notes m n ended)
    → EndsCalls m.replica n.replica m.told n.told (made_keeping some).exchanges (made_keeping some).failed
some_calls notes m n ended some = ends_join m.replica some.last.replica
    n.replica m.told some.last.told n.told (kept_exchanges some.calls) (made_failing some.fails).exchanges (made_failing some.fails).failed
    (kept_calls m some.last some.kept some.calls) (failed_calls some.note some.last n ended some.fails)

-- ---- what is printed at the end

shown_calls : (s : Replica) (told : Option Told) (old new : Option (List ℕ)) (count : ℕ) (shown : AreNotesShown s told old count new)
    → AreCalls s told (shown_exchanges shown) s told
shown_calls s told old new count show.Begun = NoCalls
shown_calls s told old new count (Shown before op mid last shown at is) =
    calls_join s s s told told told (shown_exchanges shown) _ (shown_calls s told old mid before shown) (one_call _ is.is.call)

hidden_calls : (op : ℕ) (s t : Replica) (told : Option Told) (old new : Option (List ℕ)) (ended : Ended)
    (hides : NoteHides op s t told old new ended) → EndsCalls s t told told (made_hiding hides).exchanges (made_hiding hides).failed
hidden_calls op s t told old new ended (InRead ends same) = last_call _ s t told told ended ends
hidden_calls op s t told old new ended (InPrint is part rests ends) =
    subst (λ (r : Replica). AreCalls s told (read_exchange is ∷ []) r told) (sym rests) (one_call _ is.call)

showing_calls : (s t : Replica)
    (told : Option Told) (old new : Option (List ℕ)) (result : Result (Unit {0}) Ended) (shows : ShowsNotes s t told old new result)
    → EndsCalls s t told told (made_showing s t told old new result shows).exchanges (made_showing s t told old new result shows).failed
showing_calls s t told old new (Ok done) shows =
    subst (λ (r : Replica). AreCalls s told (shown_exchanges shows.0) r told) (sym shows.1) (shown_calls s told old new _ shows.0)
showing_calls s t told old new (Err ended) shows =
    ends_join s s t told told told (shown_exchanges shows.shown) (made_hiding shows.hides).exchanges (made_hiding shows.hides).failed
    (shown_calls s told old shows.mid shows.count shows.shown) (hidden_calls _ s t told shows.mid new ended shows.hides)

-- ---- all of them

pub record AllCalls (notes : List (List ℕ)) (s : Replica) (old new : Outside) (result : Result (Unit {0}) Ended) (serves : ServesNotes notes s old new result) : Type 0 where
  pub to : Replica
  pub calls : EndsCalls s to old.told new.told (made_serving serves).exchanges (made_serving serves).failed

pub all_calls : (notes : List (List ℕ)) (s : Replica) (old new : Outside)
    (result : Result (Unit {0}) Ended) (serves : ServesNotes notes s old new result) → AllCalls notes s old new result serves
all_calls notes s old new result (NotCaughtUp last ended catches same) =
    record { to = last; calls = last_call _ s last old.told new.told ended catches.1 }
all_calls notes s old new result (NotKept r mid caught last ended keeps) = record {
  to = last;
  calls = ends_join s r last old.told mid new.told (caught_exchanges caught)
      (made_keeping keeps).exchanges (made_keeping keeps).failed (caught_calls s r old.told mid caught) (some_calls notes _ _ ended keeps);
}
all_calls notes s old new result (WereKept r mid caught u written keeps last ends shows) =
    let shown = made_showing u last new.told written new.written ends shows in record {
      to = last;
      calls = ends_join s u last old.told new.told new.told (caught_exchanges caught ++ kept_exchanges keeps) shown.exchanges shown.failed
          (calls_join s r u old.told mid new.told (caught_exchanges caught) (kept_exchanges keeps) (caught_calls s r old.told mid caught)
          (kept_calls _ _ notes keeps)) (showing_calls u last new.told written new.written ends shows);
    }

-- ---- how it ends

abbrev is_ok : Result (Unit {0}) Ended → Bool
is_ok (Ok done) = true
is_ok (Err ended) = false

abbrev error_of : Ended → Result (Unit {0}) Ended → Ended
error_of otherwise (Ok done) = otherwise
error_of otherwise (Err ended) = ended

failing_of_run : (note : List ℕ) (m n : Moment) (ended : Ended) → NoteFails note m n ended → IsOfRun ended
failing_of_run note m n ended (InAppend ends same) = ends_of_run _ m.replica n.replica m.told n.told ended ends.1
failing_of_run note m n ended (InReply receipt between mid appended ends same) = ends_of_run _ between n.replica mid n.told ended ends
failing_of_run note m n ended (InLine receipt between mid appended replied part is) = subst IsOfRun (sym is) tt

hiding_of_run : (op : ℕ) (s t : Replica) (told : Option Told) (old new : Option (List ℕ)) (ended : Ended)
    → NoteHides op s t told old new ended → IsOfRun ended
hiding_of_run op s t told old new ended (InRead ends same) = ends_of_run _ s t told told ended ends
hiding_of_run op s t told old new ended (InPrint is part rests ends) = subst IsOfRun (sym ends) tt

showing_of_run : (s t : Replica) (told : Option Told) (old new : Option (List ℕ)) (result : Result (Unit {0}) Ended) (ended : Ended)
    → result ≡ Err ended → ShowsNotes s t told old new result → IsOfRun ended
showing_of_run s t told old new (Ok done) ended is shows = absurd (false≢true (sym (ap is_ok is)))
showing_of_run s t told old new (Err e) ended is shows =
    subst IsOfRun (ap (error_of ended) is) (hiding_of_run _ s t told shows.mid new e shows.hides)

serving_is : (notes : List (List ℕ)) (s : Replica) (old new : Outside) (result : Result (Unit {0}) Ended) (ended : Ended)
    → result ≡ Err ended → ServesNotes notes s old new result → IsOfRun ended
serving_is notes s old new result ended is (NotCaughtUp last e catches same) =
    subst IsOfRun (ap (error_of ended) is) (ends_of_run _ s last old.told new.told e catches.1)
serving_is notes s old new result ended is (NotKept r mid caught last e keeps) =
    subst IsOfRun (ap (error_of ended) is) (failing_of_run keeps.note keeps.last _ e keeps.fails)
serving_is notes s old new result ended is (WereKept r mid caught u written keeps last ends shows) =
    showing_of_run u last new.told written new.written ends ended is shows

pub serving_of_run : (notes : List (List ℕ)) (s : Replica) (old new : Outside) (result : Result (Unit {0}) Ended)
    → ServesNotes notes s old new result → (ended : Ended) → result ≡ Err ended → IsOfRun ended
serving_of_run notes s old new result serves ended is = serving_is notes s old new result ended is serves

-- ---- what is printed last, where the disk tells what it told before

pub were_kept : (notes : List (List ℕ)) (s : Replica) (old : Outside) (r : Replica) (mid : Option Told)
    → HasCaughtUp s r old.told mid → (u : Replica) (told later : Option Told) (written new : Option (List ℕ))
    → later ≡ told → KeepsNotes notes (moment r mid old.written) (moment u told written) (Ok tt)
    → (last : Replica) (result : Result (Unit {0}) Ended)
    → ShowsNotes u last told written new result → ServesNotes notes s old (around later new) result
were_kept notes s old r mid caught u told later written new same keeps last result shows = subst (λ (o : Option Told).
    ServesNotes notes s old (around o new) result) (sym same) (WereKept r mid caught u written keeps last result shows)

-- an error of a run is one of these
pub if_of_run : (result : Result (Unit {0}) Ended) → ((ended : Ended) → result ≡ Err ended → IsOfRun ended) → IfErr result IsOfRun
if_of_run (Ok done) is = tt
if_of_run (Err ended) is = is ended refl

pub error_of_run : (result : Result (Unit {0}) Ended) (ended : Ended) → IfErr result IsOfRun → result ≡ Err ended → IsOfRun ended
error_of_run result ended is same = subst (λ (r : Result (Unit {0}) Ended). IfErr r IsOfRun) same is
