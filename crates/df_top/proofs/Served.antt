-- A file that was opened is served, and one that wasn't is refused.
use Rattle.std.proofs.{Common.{◌≡◌, inl, inr, ℕ, Bool, true, List, Option, Some, None, refl, sym, ◌∙◌, ap, subst, Err}, lemmas.Option.{none-some}}
use Rattle.{df_base.specs.{Image.{IsImage}, Log.{Sync}}, df_disk.{specs.Told.{Told, after, did}, proofs.Laws.{goes_told}}}
use Rattle.{df_layout.specs.declared.layout.Layout.{Layout}, df_model.specs.declared.errors.OpenError.{OpenError}}
use Rattle.df_lines.{specs.{Room.{IsFresh, line_bound}, Text.{Reading, unread}}, proofs.Laws.{unread_none}}
use Rattle.df_model.specs.declared.errors.OpenError.TheVariants as opens
use Rattle.df_session.{specs.{Begun.{begun_work}, Below.{State as Replica, IsOpened}, Opened.{MendsAll, StopsOpening, ToldBy}, Surveying.{TellsSurvey}, Found.{FoundFile}, Links.{CallsMade}, Laws.{CallsKeep}, Session.{Act}}, proofs.Laws.{begun_here, calls_keep, ends_told}}
use Rattle.{df_upgrade.specs.Below.{TellsSurveyAs}, df_pace.specs.{Beats.{started}, declared.pace.Pace.{Pace}}}
use Rattle.df_program.proofs.Laws.{open_fault}
use Rattle.df_top.{specs.{Acknowledging.{script_calls}, Opening.{FailsToFind, RefusesFileAs, StopsBefore}, Outside.{IsThrough, Outside}, Refusing.{PrintsOpenError}, Mode.{Executes}, Run.{ComesTo, Does, ServesScript, start}, Lines.{Failing, Turned, act_of, exchanges_in}, Session.{Ended, EndsWith, SessionState, state}, declared.mode.Mode.{Mode}, declared.mode.Mode.TheVariants.{Run, Paced}, declared.session.Session.{Session}, declared.status.Status.{Status}, declared.status.Status.TheVariants.{Done, Script, Words, Refused, Memory, DiskFault, ReadFault, WriteFault, Found}}, proofs.Resulted.{opened_prints}}

-- ---- a session that was just opened

begins_so : (told : Option Told) (old : Outside) (s : Session) (bound : ℕ) → IsFresh bound s.lines → s.count ≡ 0
    → s.beat ≡ started s.replica.head → state (record { told = told; left = old.left; written = old.written }) s ≡ start told old s.replica
begins_so told old s bound fresh none idle = λ i. record {
  outside = record { told = told; left = old.left; written = old.written };
  text = (ap (λ (r : Reading). unread r.held old.left) fresh.reading ∙ unread_none old.left) i;
  budget = (ap (λ (r : Reading). r.budget) fresh.reading) i;
  lines = none i;
  replica = s.replica;
  beat = idle i;
}

pub from_start : (pace : Pace) (told : Option Told) (old : Outside) (s : Session) (layout : Layout) (last : SessionState) (status : Status)
    → IsFresh (line_bound layout) s.lines → s.count ≡ 0 → s.beat ≡ started s.replica.head
    → Ended pace s.lines.reading.bound (state (record { told = told; left = old.left; written = old.written }) s) last status
    → Ended pace (line_bound layout) (start told old s.replica) last status
from_start pace told old s layout last status fresh none idle ended =
    subst (λ (n : ℕ). Ended pace n (start told old s.replica) last status) (ap (λ (r : Reading). r.bound) fresh.reading)
    (rw (begins_so told old s (line_bound layout) fresh none idle) at ended)

-- ---- a file that was opened

-- what was found is of the rooms' layout
pub opened_there : (layout : Layout) (t : Told) (s : Replica) (mended : Option Told)
    → IsImage t.shown → s.file.layout ≡ layout → (over : MendsAll t s mended) → IsOpened layout t.shown over.found
opened_there layout t s mended whole of over =
    subst (λ (l : Layout). IsOpened l t.shown over.found) (sym (ap (λ (r : Replica). r.file.layout) over.raised) ∙ of) (over.opened whole)

abbrev pub opened_file : (layout : Layout) (t : Told) (s : Replica) (mended : Option Told)
    → IsImage t.shown → s.file.layout ≡ layout → MendsAll t s mended → FoundFile layout t
opened_file layout t s mended whole of over = record { found = over.found; is_opened = opened_there layout t s mended whole of over; replica = s; begun = inr over.raised; mended = mended; mending = over.mending }

-- ---- a disk that tells what it shows

-- no session ends there by a step that is damaged
refused_never : (n : ℕ) (old new : Outside) (turns : List Turned) (failed : Option Act) (cut : Bool) (u : Told)
    → new.told ≡ Some u → EndsWith n old new turns failed cut Refused → ⊥
refused_never n old new turns None cut u is ends = ends
refused_never n old new turns (Some a) cut u is ends = none-some u (sym ends.2.step.untold ∙ is)

-- where nothing failed each call was answered, and the sink took all
through_whole : (n : ℕ) (old new : Outside) (turns : List Turned) (failing : Option Failing) (cut : Bool) (status : Status)
    → EndsWith n old new turns (act_of failing) cut status → IsThrough status → (failing ≡ None) × (status ≡ WriteFault → ⊥)
through_whole n old new turns None cut Done ends is = (refl, λ no. cc)
through_whole n old new turns None cut Script ends is = (refl, λ no. cc)
through_whole n old new turns (Some f) cut Done ends is = absurd ends
through_whole n old new turns (Some f) cut Script ends is = absurd ends
through_whole n old new turns failing cut case ends is = absurd is

-- ---- it is served

module _ (pace : Pace) (layout : Layout) (t : Told) (old new : Outside) (status : Status) (s : Replica) (mended : Option Told)
    (whole : IsImage t.shown) (told : old.told ≡ Some t) (live : s.live ≡ true) (of : s.file.layout ≡ layout) (over : MendsAll t s mended)
    (last : SessionState) (last_is : last.outside ≡ new) (ended : Ended pace (line_bound layout) (start mended old s) last status) where
  abbrev found : FoundFile layout t
  found = opened_file layout t s mended whole of over

  abbrev made : CallsMade
  made = script_calls ended

  last_told : last.outside.told ≡ new.told
  last_told = ap (λ (o : Outside). o.told) last_is

  abbrev synced : ToldBy (Some (did Sync t)) mended
  synced = (over.mending.events, over.mending.told)

  -- the disk goes on telling what it shows
  tells_on : (u : Told) × (last.outside.told ≡ Some u)
  tells_on = let goes = goes_told (did Sync t) mended synced in
      let by_calls = ends_told s last.replica mended last.outside.told (exchanges_in ended.turns) (act_of ended.failing) made.calls in
      let more = goes_told goes.0 last.outside.told (rw goes.1 at by_calls) in (more.0, more.1)

  undamaged : status ≡ Refused → ⊥
  undamaged is = let origin : SessionState = start mended old s in
      refused_never origin.lines origin.outside last.outside ended.turns (act_of ended.failing) ended.cut tells_on.0 tells_on.1
      (rw is at ended.written)

  calls : CallsKeep t found.replica found.mended found.mending (script_calls ended)
  calls = calls_keep t s mended over last.replica last.outside.told (exchanges_in ended.turns) (act_of ended.failing) made.calls whole live

  abbrev origin : SessionState
  origin = start mended old s

  serves_here : ServesScript pace layout t found old new status
  serves_here = record {
    last = last;
    last_is = last_is;
    session = ended;
    result = λ view shown there agree. opened_prints pace s t mended over whole (begun_work s.file t.shown view)
        (begun_here t s mended over view whole there) last.replica last.outside.told shown agree ended.turns ended.failing status
        (through_whole origin.lines origin.outside last.outside ended.turns ended.failing ended.cut status ended.written) ended.calls;
    adds = sym last_told ∙ calls.adds;
    calls = calls;
    undamaged = undamaged;
  }

  pub serves : (found : FoundFile layout t) × ServesScript pace layout t found old new status
  serves = (found, serves_here)

-- ---- it isn't

pub refuses : (version : ℕ) (layout : Layout) (t : Told) (old new : Outside) (status : Status) (e : OpenError) → (e ≡ opens.DiskFault → ⊥) → IsImage t.shown → old.told ≡ Some t → TellsSurveyAs version layout old.told (Err e) → new.left ≡ old.left → new.told ≡ after Sync old.told
    → PrintsOpenError e old.written new.written status → RefusesFileAs version layout t old new status
refuses version layout t old new status e other whole told answer unread barrier prints = record {
  error = e;
  is = record { why = (rw told at answer) whole; other = other };
  refusal = record { prints = prints.other other; unread = unread };
  barrier = barrier ∙ ap (after Sync) told;
}

pub fails : (mode : Mode) (layout : Layout) (t : Told) (old new : Outside) (status : Status) (e : OpenError) → e ≡ opens.DiskFault → StopsBefore mode layout t new.told → new.left ≡ old.left → PrintsOpenError e old.written new.written status → FailsToFind mode layout t old new status
fails mode layout t old new status e is stops unread prints =
    record { fault = (prints.failing is).0; silent = record { written = (prints.failing is).1; unread = unread }; disk = stops }

-- so no word is carried out
pub not_opened : (mode : Mode) (layout : Layout) (t : Told) (old new : Outside) (status : Status) (e : OpenError) → IsImage t.shown → old.told ≡ Some t → TellsSurvey layout old.told (Err e) → new.left ≡ old.left → ((e ≡ opens.DiskFault → ⊥) → new.told ≡ after Sync old.told)
    → (IsImage t.shown → e ≡ opens.DiskFault → StopsBefore mode layout t new.told)
    → PrintsOpenError e old.written new.written status → ComesTo mode layout t old new status
not_opened mode layout t old new status e whole told answer unread barrier stops prints = elim (open_fault e) [
  | inl is ↦ inr (inl (fails mode layout t old new status e is (stops whole is) unread prints))
  | inr other ↦ inl (refuses 2 layout t old new status e other.0 whole told answer unread (barrier other.0) prints)
]

-- ---- a word that executes a script

-- it serves it
pub executed : (mode : Mode) (pace : Pace) → Executes mode pace → (layout : Layout) (t : Told) (old new : Outside) (status : Status)
    → (found : FoundFile layout t) × ServesScript pace layout t found old new status → Does mode layout t old new status
executed Run pace is layout t old new status served = (tt, inr (inr (served.0, rw (← is) served.1)))
executed (Paced given) pace is layout t old new status served = (tt, inr (inr (served.0, rw (← is) served.1)))
executed mode pace is layout t old new status served = absurd is

-- or the file isn't opened
pub not_executed : (mode : Mode) (pace : Pace) → Executes mode pace
    → (layout : Layout) (t : Told) (old new : Outside) (status : Status) (e : OpenError) → IsImage t.shown → old.told ≡ Some t
    → TellsSurvey layout old.told (Err e) → new.left ≡ old.left → ((e ≡ opens.DiskFault → ⊥) → new.told ≡ after Sync old.told)
    → (IsImage t.shown → e ≡ opens.DiskFault → StopsOpening layout t new.told)
    → PrintsOpenError e old.written new.written status → Does mode layout t old new status
not_executed Run pace is layout t old new status e whole told answer unread barrier stops prints =
    (tt, not_opened Run layout t old new status e whole told answer unread barrier stops prints)
not_executed (Paced given) pace is layout t old new status e whole told answer unread barrier stops prints =
    (tt, not_opened (Paced given) layout t old new status e whole told answer unread barrier stops prints)
not_executed mode pace is layout t old new status e whole told answer unread barrier stops prints = absurd is
