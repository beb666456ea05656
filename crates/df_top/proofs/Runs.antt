-- A generated run over a replica: its calls are joined, and what they leave of a file.
use Rattle.std.{proofs.{Common.{◌≡◌, ◌<◌, ◌+◌, ℕ, Bool, true, List, [], ◌∷◌, ◌++◌, length, map, Option, Some, None, refl, sym, ◌∙◌, ap, subst, Result, Ok, Err, IsErr, IsErrAnd, inl, inr, arith}, lemmas.List.{map-append}, lemmas.Result.{err_from_is_err_and}}, specs.Prelude.{OnOk}}
use Rattle.{df_disk.specs.Told.{Told}, df_model.specs.Commands.{Advance, Answer, Command}, df_script_model.specs.Texts.{damaged_text}}
use Rattle.df_session.{specs.{Session.{Exchange, acts_in, answer_in, answers_in, command_in}, Below.{State as Replica}, Endings.{EndsBy}, Links.{More, NoCalls}, declared.hearing.Fault.{Fault}, declared.hearing.Fault.TheVariants.{Disk, Damaged}}, proofs.Laws.{calls_join}}
use Rattle.df_workload.{specs.{Asking.{asks, command_asked}, declared.asked.Asked.{Asked}, Following.{Follows}, Hearing.{runs_after, told}, Sound.{flag}, declared.outcome.Outcome.{Outcome}, declared.outcome.Outcome.TheVariants.{Refused, Accepted, Wrote, Finished}, declared.state.State.{State as Run}}, proofs.Laws.{follows_more, runs_so}}
use Rattle.df_top.{specs.{Works.{Comes, Fails, HearsOf, IsRunning, PrintsRun, StepsOn, StillRuns, Worked, Works, WritesReport, steps_left}, declared.status.Status.{Status}}, proofs.Answered.{damaged_line}}

-- ---- joined

-- the commands of both
asked_by_both : (xs ys : List Exchange) → map command_in (acts_in (xs ++ ys)) ≡ map command_in (acts_in xs) ++ map command_in (acts_in ys)
asked_by_both [] ys = refl
asked_by_both (x ∷ xs) ys = ap (λ (l : List Command). x.act.command ∷ l) (asked_by_both xs ys)

pub works_none : (run : Run) (s : Replica) (told : Option Told) → Works run s told run s told
works_none run s told = record { exchanges = []; calls = NoCalls; follows = refl }

module _ (begun : Run) (s : Replica) (old : Option Told) (mid : Run)
    (u : Replica) (between : Option Told) (run : Run) (t : Replica) (new : Option Told) (one : Works begun s old mid u between) where
  pub works_more : Works mid u between run t new → Works begun s old run t new
  works_more two = record {
    exchanges = one.exchanges ++ two.exchanges;
    calls = calls_join s u t old between new one.exchanges two.exchanges one.calls two.calls;
    follows = rw (sym (asked_by_both one.exchanges two.exchanges)) at (rw (sym (map-append answer_in one.exchanges two.exchanges)) at
        (follows_more begun mid run (map command_in (acts_in one.exchanges))
        (map command_in (acts_in two.exchanges)) (answers_in one.exchanges) (answers_in two.exchanges) one.follows two.follows));
  }

module _ (begun : Run) (s : Replica) (old : Option Told) (mid : Run)
    (u : Replica) (between : Option Told) (run : Run) (t : Replica) (new : Option Told) (one : Works begun s old mid u between) where
  fails_more : (fault : Fault) → Fails mid u between run t new fault → Fails begun s old run t new fault
  fails_more fault f = record {
    replica = f.replica;
    told = f.told;
    works = works_more begun s old mid u between run f.replica f.told one f.works;
    act = f.act;
    call = f.call;
    asked = f.asked;
    ends = f.ends;
  }

  pub comes_more : {T : Type 0} (r : Result T Fault) → Comes mid u between run t new r → Comes begun s old run t new r
  comes_more (Ok x) two = works_more begun s old mid u between run t new one two
  comes_more (Err fault) f = fails_more fault f

-- ---- one call

module _ (run : Run) (s t : Replica) (old new : Option Told) (command : Command) (is : asks run ≡ Some command) where
  pub made_works : (o : Outcome) → HearsOf command s t old new (Ok o) → Works run s old (told o run) t new
  made_works o made = record {
    exchanges = record { act = made.1.act; answer = made.0 } ∷ [];
    calls = More t new made.1.calls NoCalls;
    follows = (is ∙ ap (λ (c : Command). Option.Some c) (sym made.1.is), ap (λ (o : Outcome). told o run) made.2);
  }

  pub made_live : (o : Outcome) → HearsOf command s t old new (Ok o) → t.live ≡ true
  made_live o made = made.1.calls.call.live

  pub made_runs : (o : Outcome)
      → StillRuns command s t (Ok o) → (run.running ≡ true → IsRunning s) → (told o run).running ≡ true → IsRunning t
  made_runs o runs had set = runs run.running had (sym (runs_so run.point o run command is) ∙ set)

  pub made_fails : (T : Type 0) (fault : Fault) → HearsOf command s t old new (Err fault) → Comes {T = T} run s old run t new (Err fault)
  made_fails T fault made = record {
    replica = s;
    told = old;
    works = works_none run s old;
    act = made.0.act;
    call = made.0.calls;
    asked = is ∙ ap (λ (c : Command). Option.Some c) (sym made.0.is);
    ends = rw (sym made.0.is) at made.1;
  }

-- ---- the last steps

pub not_refused : (s t : Replica) (o : Outcome) → StepsOn s t (Ok o) → IsRunning s → o ≡ Refused → ⊥
not_refused s t o steps runs is = subst (λ (q : Outcome). StepsOn s t (Ok q)) is steps runs

fewer_flag : (o : Outcome) (run : Run) (s t : Replica) → StepsOn s t (Ok o) → IsRunning s
    → run.running ≡ true → length t.blocks.left + flag (runs_after Advance o run.running) < length s.blocks.left + flag run.running
fewer_flag Refused run s t steps runs set = absurd (steps runs)
fewer_flag (Wrote a) run s t steps runs set = absurd steps
fewer_flag Accepted run s t steps runs set = omega (arith, steps)
fewer_flag Finished run s t steps runs set = let one : flag run.running ≡ 1 = ap flag set in
    let none : length t.blocks.left ≡ 0 = ap (λ (l : List ℕ). length l) steps in omega (arith, one, none)

pub fewer_steps : (o : Outcome) (run : Run) (s t : Replica)
    → asks run ≡ Some Advance → StepsOn s t (Ok o) → IsRunning s → run.running ≡ true → steps_left (told o run) t < steps_left run s
fewer_steps o run s t is steps runs set = subst (λ (b : Bool).
    length t.blocks.left + flag b < steps_left run s) (sym (runs_so run.point o run Advance is)) (fewer_flag o run s t steps runs set)

-- ---- the end

pub record EndsRun (begun : Run) (s : Replica) (old : Option Told) (run : Run) (t : Replica) (new : Option Told) (written took : Option (List ℕ)) (status : Status) : Type 0 where
  pub worked : Worked begun s old run t new
  pub writes : WritesReport run t new worked.failed written took status

module _ (begun : Run) (s : Replica) (old : Option Told) (run : Run) (t : Replica) (new : Option Told) where
  abbrev whole : Works begun s old run t new → asks run ≡ None → Worked begun s old run t new
  whole works over = record { exchanges = works.exchanges; failed = None; calls = works.calls; follows = works.follows; asked = over }

  abbrev cut : {fault : Fault} → Fails begun s old run t new fault → Worked begun s old run t new
  cut f = record {
    exchanges = f.works.exchanges;
    failed = Some f.act;
    calls = (f.replica, f.told, f.works.calls, f.call);
    follows = f.works.follows;
    asked = f.asked;
  }

  module _ (written took : Option (List ℕ)) (status : Status) where
    abbrev Ends : Type 0
    Ends = EndsRun begun s old run t new written took status

    pub ends_run : {T : Type 0} (r : Result T Fault)
        → Comes begun s old run t new r → OnOk r (asks run ≡ None) → PrintsRun run t r written took status → Ends
    ends_run (Ok x) works over (inl printed) = record { worked = whole works over; writes = rw printed.0 printed.1 }
    ends_run (Ok x) works over (inr printed) = record { worked = whole works over; writes = rw printed.0 printed.1 }
    ends_run (Err Disk) f over printed = record { worked = cut f; writes = rw printed.0 printed.1 }
    ends_run (Err (Damaged place class)) f over (inl printed) = record { worked = cut f; writes = rw printed.0 (damaged_text place class, damaged_line f.act.command new place class f.ends, printed.1) }
    ends_run (Err (Damaged place class)) f over (inr printed) = record { worked = cut f; writes = rw printed.0 (damaged_text place class, damaged_line f.act.command new place class f.ends, printed.1) }

-- what is asked for is one command
one_asked : (run : Run) (a b : Command) → asks run ≡ Some a → asks run ≡ Some b → a ≡ b
one_asked run a b one other = cc (one, other)

-- it is what was matched
pub asks_so : (run : Run) (a b : Asked) → asks run ≡ Some (command_asked run a) → a ≡ b → asks run ≡ Some (command_asked run b)
asks_so run a b is same = subst (λ (x : Asked). asks run ≡ Some (command_asked run x)) same is

-- so what holds of the command that was made holds of the one that is asked for
pub as_asked : (P : Command → Type 0) (run : Run) (made asked : Command)
    → asks run ≡ Some asked → made ≡ asked → P made → (c : Command) → asks run ≡ Some c → P c
as_asked P run made asked is same holds c so = subst P (same ∙ one_asked run asked c is so) holds

-- ---- a fault that is handed on

pub handed_on : {T : Type 0} (P : Result T Fault → Type 0) (r : Result T Fault) (fault : Fault)
    → IsErr r × IsErrAnd r (λ e. e ≡ fault) → P (Err fault) → P r
handed_on {T} P r fault is holds = let p = err_from_is_err_and r is.1 in let same : r ≡ Err fault = p.1 ∙ ap (λ (e : Fault). Err e) p.2 in
    subst P (sym same) holds
