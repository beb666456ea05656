-- What was answered of a session is there from then on, by each log that is told of the disk.
use Rattle.std.{proofs.{Common.{◌≡◌, ℕ, zero, suc, true, List, [], ◌∷◌, ◌++◌, Option, Some, None, refl, sym, ◌∙◌, ap, subst}, lemmas.List.{append-nil}}, specs.Prelude.{take, drop}}
use Rattle.{df_base.specs.{Log.{Event, Log}, Moments.{Extends}}, df_model.specs.Work.{Work}}
use Rattle.df_disk.{specs.{Told.{Told}, Adds.{after_all}}, proofs.Laws.{after_append}}
use Rattle.df_replica.{specs.{Below.{DataFile, State as Replica}, Serving.{Grade, Keeps, next}, Session.{Act, EachIsMidway, Exchange, IsMidway, acts_in, work_after}}, proofs.Laws.{fault_stops_them}}
use Rattle.df_session.{specs.{Links.{AreCalls, Calls, CallsMade, EndsCalls, More, NoCalls, call_events, events_to, list_of}, Acknowledging.{HadAnswers, HadReturned, IsUntil, KeepsAnswered}}, proofs.Kept.{all_served}}

module _ (file : DataFile) (g : Grade) where
  -- where a replica stands after the first k of these calls, the calls that it makes from there, and what the base tells then
  record Behind (k : ℕ) (w : Work) (xs : List Exchange) (t : Replica) (new last : Option Told) (log : Log) : Type 0 where
    pub replica : Replica
    pub old : Option Told
    pub told : Told
    pub same : replica.file ≡ file
    pub live : replica.live ≡ true
    pub keeps : Keeps g replica (work_after file w (acts_in (take k xs))) (Some told)
    pub calls : AreCalls replica old (drop k xs) t new
    pub ends : last ≡ after_all (call_events calls) (Some told)
    pub since : Extends log told.log

  behind : (k : ℕ) (w : Work) (s : Replica) (old base : Option Told) (xs : List Exchange) (t : Replica) (new : Option Told) (log : Log)
      → s.file ≡ file → s.live ≡ true → Keeps g s w base → (calls : AreCalls s old xs t new)
      → HadReturned k base log calls → Behind k w xs t new (after_all (call_events calls) base) log
  behind zero w s old None xs t new log same live keeps calls since = absurd since
  behind zero w s old (Some told) xs t new log same live keeps calls since =
      record { replica = s; old = old; told = told; same = same; live = live; keeps = keeps; calls = calls; ends = refl; since = since }
  behind (suc k) w s old base [] t new log same live keeps NoCalls since = absurd since
  behind (suc k) w s old base (x ∷ xs) t new log same live keeps (More u mid call rest) since = let es = call.call.events in
      let then = rw same at (call.call.keeps g w base keeps).1.1 in let later = behind k (next file w x.act.given x.act.command).0
      u mid (after_all es base) xs t new log (call.call.file ∙ same) call.call.live then rest since in
      let ends = after_append es (call_events rest) base ∙ later.ends in
      record { replica = later.replica; old = later.old; told = later.told; same = later.same; live = later.live; keeps = later.keeps; calls = later.calls; ends = ends; since = later.since }

  -- a moment of some calls
  at_moment : (r : Replica) (w : Work) (acts : List Act) (told : Told) (new : Option Told) (log : Log)
      → r.file ≡ file → EachIsMidway r.file g w acts (Some told) new → Extends log told.log → IsUntil new log → IsMidway file g w acts log
  at_moment r w acts told None log same each since until = absurd until
  at_moment r w acts told (Some n) log same each since until =
      subst (λ (f : DataFile). IsMidway f g w acts log) same (each.1 log (record { since = since; until = until }))

  module _ (k : ℕ) (w : Work) (xs : List Exchange) (t : Replica) (new last : Option Told) (log : Log) (b : Behind k w xs t new last log) where
    abbrev events : List Event
    events = call_events b.calls

    -- where each of them was answered
    midway_answered : IsUntil last log → IsMidway file g (work_after file w (acts_in (take k xs))) (acts_in (drop k xs) ++ []) log
    midway_answered until = let served = all_served b.replica t b.old new (drop k xs) b.live b.calls in
        subst (λ (l : List Act). IsMidway file g (work_after file w (acts_in (take k xs))) l log) (sym (append-nil (acts_in (drop k xs))))
        (at_moment b.replica (work_after file w (acts_in (take k xs))) (acts_in (drop k xs)) b.told (after_all events (Some b.told))
        log b.same (served.kept_on g (work_after file w (acts_in (take k xs))) (Some b.told) b.keeps).0 b.since (rw b.ends at until))

    -- where the disk failed in one more
    midway_failed : (a : Act) (u : Replica) (end : Option Told) → (call : Calls a t u new end None) → IsUntil (after_all
        call.call.events last) log → IsMidway file g (work_after file w (acts_in (take k xs))) (acts_in (drop k xs) ++ a ∷ []) log
    midway_failed a u end call until = let served = all_served b.replica t b.old new (drop k xs) b.live b.calls in
        let stopped = fault_stops_them b.replica t u b.old new end (drop k xs) events a served call.call in
        at_moment b.replica (work_after file w (acts_in (take k xs))) (acts_in (drop k xs) ++ a ∷ []) b.told (after_all (events ++ call.call.events) (Some b.told)) log b.same (stopped.moments g (work_after file w (acts_in (take k xs))) (Some b.told) b.keeps) b.since
        (rw (ap (after_all call.call.events) b.ends ∙ sym (after_append events call.call.events (Some b.told))) at until)

  midway : (w : Work) (s t : Replica) (old new base : Option Told) (xs : List Exchange) (failed : Option Act)
      → s.file ≡ file → s.live ≡ true → Keeps g s w base → (calls : EndsCalls s t old new xs failed) → (k : ℕ) (log : Log)
      → HadAnswers k base log s t old new xs failed calls → IsUntil (after_all (events_to s t old new xs failed calls) base) log
      → IsMidway file g (work_after file w (acts_in (take k xs))) (acts_in (drop k xs) ++ list_of failed) log
  midway w s t old new base xs None same live keeps calls k log had until =
      midway_answered k w xs t new (after_all (call_events calls) base) log (behind k w s old base xs t new log same live keeps calls had) until
  midway w s t old new base xs (Some a) same live keeps calls k log had until = let es = call_events calls.2 in midway_failed k w
      xs calls.0 calls.1 (after_all es base) log (behind k w s old base xs calls.0 calls.1 log same live keeps calls.2 had) a t new calls.3
      (rw (after_append es calls.3.call.events base) at until)

pub keeps_answered : (file : DataFile) (g : Grade) (w : Work) (base : Option Told) (c : CallsMade)
    → c.from.file ≡ file → c.from.live ≡ true → Keeps g c.from w base → KeepsAnswered file g w base c
keeps_answered file g w base c same live keeps k log had until =
    midway file g w c.from c.to c.old c.new base c.exchanges c.failed same live keeps c.calls k log had until
