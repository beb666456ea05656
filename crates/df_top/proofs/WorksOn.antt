-- A file that was opened, and on which a generated run was carried out: what is answered and kept, and who is to blame.
use Rattle.std.proofs.{Common.{◌≡◌, inl, inr, ℕ, true, List, Option, Some, None, refl, sym, ◌∙◌, subst, Result, Ok, Err}, lemmas.Option.{none-some}}
use Rattle.{df_base.specs.{Causes.{IsBlamed}, Image.{IsImage}, Log.{Sync}}, df_disk.{specs.Told.{Told, did}, proofs.Laws.{goes_told}}}
use Rattle.df_inspect.specs.{Prints.{Prints}, Reports.{workload_text}, declared.counts.Workload.{Workload}}
use Rattle.df_layout.specs.{declared.damage.Class.{Class}, declared.places.Place.{Place}, declared.layout.Layout.{Layout}}
use Rattle.{df_script_model.specs.Texts.{damaged_text}, df_workload.specs.{Rounds.{start}, declared.state.State.{State as Run}}}
use Rattle.df_session.{specs.{Below.{State as Replica}, Opened.{MendsAll, ToldBy}, Session.{Act}, Endings.{is_disk_fault}, Found.{FoundFile}, Laws.{CallsKeep}, declared.hearing.Fault.{Fault}, declared.hearing.Fault.TheVariants.{Disk, Damaged}}, proofs.Laws.{calls_keep, ends_told}}
use Rattle.df_top.{specs.{Acknowledging.{run_calls}, Outside.{Blames, HasCauses, Outside, PrintsLine, status_or}, Refusing.{PrintsFault}, Working.{WorksThrough}, Works.{PrintsRun, WritesReport, workload_of}, declared.status.Status.{Status}, declared.status.Status.TheVariants.{Done, Words, Refused, WriteFault, Memory}}, proofs.{Causes.{calm_done, calm_refused, failed_causes, line_causes, never_printed}, Runs.{EndsRun}, Served.{opened_file}}}

-- ---- what is printed

-- the report of a run that came to its end
pub prints_done : {T : Type 0} (run : Run) (t : Replica) (worked : Result T Fault)
    (x : T) (report : Workload) (old new : Option (List ℕ)) (status : Status) → worked ≡ Ok x → report ≡ workload_of run t
    → PrintsLine (workload_text report) Done old new status → PrintsRun run t worked old new status
prints_done run t worked x report old new status is same prints =
    subst (λ (w : Result _ Fault). PrintsRun run t w old new status) (sym is) (rw same at prints)

-- ---- causes

-- a run that ended so ends with no fault of another
pub run_causes : {T : Type 0} (run : Run) (t : Replica) (r : Result T Fault) (disk disk_now source sink sink_now : ℕ)
    (old new : Option (List ℕ)) (status : Status) → PrintsRun run t r old new status → IsBlamed is_disk_fault disk disk_now r
    → Blames WriteFault sink sink_now status
    → HasCauses (record { disk = disk; source = source; sink = sink }) (record { disk = disk_now; source = source; sink = sink_now }) status
run_causes run t (Ok x) disk disk_now source sink sink_now old new status printed same blame =
    line_causes disk disk_now source sink sink_now old new status (workload_text (workload_of run t)) Done calm_done same printed blame
run_causes run t (Err (Damaged place class)) disk disk_now source sink sink_now old new status printed same blame =
    line_causes disk disk_now source sink sink_now old new status (damaged_text place class) Refused calm_refused same printed blame
run_causes run t (Err Disk) disk disk_now source sink sink_now old new status printed blamed blame =
    failed_causes disk disk_now source sink sink_now old new status printed.0 blamed.1 blame

pub run_never : {T : Type 0} (run : Run) (t : Replica) (r : Result T Fault) (old new : Option (List ℕ)) (status : Status)
    → PrintsRun run t r old new status → (status ≡ Memory → ⊥) × (status ≡ Words → ⊥)
run_never run t (Ok x) old new status printed = never_printed _ Done old new status calm_done printed
run_never run t (Err (Damaged place class)) old new status printed = never_printed _ Refused old new status calm_refused printed
run_never run t (Err Disk) old new status printed = (λ is. cc (printed.0, is), λ is. cc (printed.0, is))

-- ---- a disk that tells what it shows

-- no run ends there by a step that is damaged
damaged_never : (run : Run) (t : Replica) (told : Option Told) (failed : Option Act) (old new : Option (List ℕ)) (u : Told)
    → told ≡ Some u → WritesReport run t told failed old new Refused → ⊥
damaged_never run t told None old new u is writes = writes
damaged_never run t told (Some a) old new u is writes = none-some u (sym writes.1.step.untold ∙ is)

-- ---- it is carried out

module _ (seed count : ℕ) (layout : Layout) (t : Told) (old new : Outside) (status : Status) (s : Replica)
    (mended : Option Told) (image : IsImage t.shown) (told : old.told ≡ Some t) (unread : new.left ≡ old.left) (live : s.live ≡ true)
    (of : s.file.layout ≡ layout) (over : MendsAll t s mended)
    (run : Run)
    (last : Replica) (ended : EndsRun (start seed count layout.clients) s mended run last new.told old.written new.written status) where
  abbrev found : FoundFile layout t
  found = opened_file layout t s mended image of over

  abbrev synced : ToldBy (Some (did Sync t)) mended
  synced = (over.mending.events, over.mending.told)

  -- the disk goes on telling what it shows
  tells_on : (u : Told) × (new.told ≡ Some u)
  tells_on = let goes = goes_told (did Sync t) mended synced in
      let by_calls = ends_told s last mended new.told ended.worked.exchanges ended.worked.failed ended.worked.calls in
      let more = goes_told goes.0 new.told (rw goes.1 at by_calls) in (more.0, more.1)

  undamaged : status ≡ Refused → ⊥
  undamaged is = damaged_never run last new.told ended.worked.failed old.written new.written tells_on.0 tells_on.1 (rw is at ended.writes)

  calls : CallsKeep t found.replica found.mended found.mending (run_calls ended.worked)
  calls = calls_keep t s mended over last new.told ended.worked.exchanges ended.worked.failed ended.worked.calls image live

  pub works_through : (found : FoundFile layout t) × WorksThrough seed count layout t found old new status
  works_through = (found, record { unread = unread; run = run; last = last; worked = ended.worked; written = ended.writes; calls = calls; undamaged = undamaged })
