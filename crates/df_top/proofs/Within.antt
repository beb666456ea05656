-- Whatever a word adds lies within the zones of the file.
use Rattle.std.proofs.Common.{◌≡◌, ◌<◌, inl, inr, ℕ, List, [], ◌∷◌, Option, Some, None, refl, sym, ◌∙◌, ap, subst, Result, Ok, Err}
use Rattle.{df_base.specs.Log.{Sync}, df_disk.specs.Told.{Told, did}, df_layout.specs.declared.layout.Layout.{Layout}}
use Rattle.{df_theory.specs.Device.{AreSteps}, df_model.specs.{Commands.{Answer}, declared.errors.FormatError.{FormatError}}}
use Rattle.df_units.{proofs.Laws.{none_within, part_within, steps_within, then_within}, specs.{Format.{format_of}, Within.{AddsWithin, AreWithin}}}
use Rattle.df_model.specs.declared.errors.FormatError.TheVariants as formats
use Rattle.df_session.{specs.{Below.{DataFile, State as Replica}, Formatting.{AddsFormat, RefusesCluster}, Making.{making_events, making_steps}, Opened.{Mends, StopsOpening}, Serving.{IsCall}, Session.{Act, Exchange}, Found.{FoundFile}, Links.{AreCalls, EndsCalls, More, NoCalls}}, proofs.Laws.{layout_there}}
use Rattle.df_top.specs.{Acknowledging.{run_calls, script_calls}, Opening.{StopsBefore}, Outside.{Outside}, Run.{ComesTo, Does, Runs, Works}, Within.{WritesOwn}, declared.mode.Mode.{Mode}, declared.mode.Mode.TheVariants.{Format, Run, Recover, Inspect, Scrub, Workload, Upgrade, Paced}, declared.status.Status.{Status}}

-- ---- calls

module _ (file : DataFile) where
  call_within : (a : Act) (s t : Replica) (old new : Option Told) (answer : Option Answer)
      → s.file ≡ file → IsCall a.given a.command s t old new answer → AddsWithin file.layout old new
  call_within a s t old new answer same call = record { events = call.events; told = call.told; within = rw same at call.within }

  -- those of a list, each answered, and the file is the same after them
  calls_within : (s : Replica) (old : Option Told) (xs : List Exchange) (t : Replica) (new : Option Told)
      → s.file ≡ file → AreCalls s old xs t new → AddsWithin file.layout old new × (t.file ≡ file)
  calls_within s old [] t new same NoCalls = (none_within file.layout old old refl, same)
  calls_within s old (x ∷ xs) t new same (More u mid made later) = let call = made.call in
      let rest = calls_within u mid xs t new (call.file ∙ same) later in
      (then_within file.layout old mid new (call_within x.act s u old mid (Some x.answer) same call) rest.0, rest.1)

  ends_within : (s t : Replica) (old new : Option Told) (xs : List Exchange) (failed : Option Act)
      → s.file ≡ file → EndsCalls s t old new xs failed → AddsWithin file.layout old new
  ends_within s t old new xs None same calls = (calls_within s old xs t new same calls).0
  ends_within s t old new xs (Some a) same calls = let before = calls_within s old xs calls.0 calls.1 same calls.2 in
      then_within file.layout old calls.1 new before.0 (call_within a calls.0 t calls.1 new None before.1 calls.3.call)

-- ---- a word on a file

module _ (layout : Layout) (t : Told) where
  -- the barrier, and what is added after it
  behind : (new : Option Told) → AddsWithin layout (Some (did Sync t)) new → AddsWithin layout (Some t) new
  behind new more = record { events = Sync ∷ more.events; told = more.told; within = (tt, more.within) }

  pub barrier_within : (new : Option Told) → new ≡ Some (did Sync t) → AddsWithin layout (Some t) new
  barrier_within new synced = behind new (none_within layout (Some (did Sync t)) new synced)

  pub mends_within : (file : DataFile) (new : Option Told)
      → file.layout ≡ layout → Mends file (Some (did Sync t)) new → AddsWithin layout (Some t) new
  mends_within file new of mends = behind new (record { events = mends.events; told = mends.told; within = rw of at mends.within })

  stops_within : (new : Option Told) → StopsOpening layout t new → AddsWithin layout (Some t) new
  stops_within new (inl same) = none_within layout (Some t) new same
  stops_within new (inr (inl synced)) = barrier_within new synced
  stops_within new (inr (inr part)) = mends_within part.found.file new part.opened.of.layout_is part.mending

  -- a mending, and calls after it
  session_within : (file : DataFile) (mended new : Option Told)
      → file.layout ≡ layout → Mends file (Some (did Sync t)) mended → AddsWithin file.layout mended new → AddsWithin layout (Some t) new
  session_within file mended new of mends added = then_within layout (Some t) mended new (mends_within file mended of mends) (rw of at added)

  -- where the disk failed before the file was found
  before_within : (mode : Mode) (new : Option Told) → StopsBefore mode layout t new → AddsWithin layout (Some t) new
  before_within Inspect new stops = part_within layout (Sync ∷ []) (Some t) new (tt, tt) stops
  before_within case new stops = stops_within new stops

  -- what was found is mended, and nothing more
  found_within : (found : FoundFile layout t) (new : Option Told) → new ≡ found.mended → AddsWithin layout (Some t) new
  found_within found new same = mends_within found.replica.file new (layout_there layout t found) (rw (sym same) at found.mending)

  -- and calls are made on it
  calls_within_found : (found : FoundFile layout t) (to : Replica) (new : Option Told) (xs : List Exchange) (failed : Option Act)
      → EndsCalls found.replica to found.mended new xs failed → AddsWithin layout (Some t) new
  calls_within_found found to new xs failed calls = session_within found.replica.file found.mended new
      (layout_there layout t found) found.mending (ends_within found.replica.file found.replica to found.mended new xs failed refl calls)

module _ (layout : Layout) (t : Told) (old new : Outside) (status : Status) where
  works_within : (mode : Mode) (found : FoundFile layout t) → Works mode layout t found old new status → AddsWithin layout (Some t) new.told
  works_within (Format shape cluster) found works = absurd works
  works_within Upgrade found works = absurd works
  works_within Run found serves = let c = script_calls serves.session in subst (λ (o : Outside).
      AddsWithin layout (Some t) o.told) serves.last_is (calls_within_found layout t found c.to c.new c.exchanges c.failed c.calls)
  works_within (Paced pace) found serves = let c = script_calls serves.session in subst (λ (o : Outside).
      AddsWithin layout (Some t) o.told) serves.last_is (calls_within_found layout t found c.to c.new c.exchanges c.failed c.calls)
  works_within Recover found recovers = found_within layout t found new.told recovers.told
  works_within Inspect found inspects = barrier_within layout t new.told inspects.barrier
  works_within Scrub found scrubs = found_within layout t found new.told (scrubs.told ∙ sym scrubs.is_mended)
  works_within (Workload seed count) found works = let c = run_calls works.worked in
      calls_within_found layout t found c.to c.new c.exchanges c.failed c.calls

  comes_within : (mode : Mode) → ComesTo mode layout t old new status → AddsWithin layout (Some t) new.told
  comes_within mode (inl refuses) = barrier_within layout t new.told refuses.barrier
  comes_within mode (inr (inl fails)) = before_within layout t mode new.told fails.disk
  comes_within mode (inr (inr works)) = works_within mode works.0 works.1

  pub does_within : (mode : Mode) → Does mode layout t old new status → AddsWithin layout (Some t) new.told
  does_within mode does = comes_within mode does.1

-- in rooms of its own
pub runs_within : (mode : Mode) (old new : Outside) (status : Status) → Runs mode old new status → WritesOwn old.told new.told
runs_within mode old new status runs t told whole = elim (runs t told whole) [
  | inl nothing ↦ inl (nothing.without.same ∙ told)
  | inr other ↦ elim other [
    | inl refuses ↦ inl (refuses.same ∙ told)
    | inr own ↦ inr (own.layout, own.shown, does_within own.layout t old new status mode own.serves)
  ]
]

-- ---- a making

pub making_within : {T : Type 0} → (layout : Layout) (cluster : ℕ) (old new : Option Told) (result : Result T FormatError)
    → RefusesCluster cluster result → AddsFormat (making_events layout cluster) old new result
    → (0 < cluster → AreSteps (format_of layout cluster) (making_events layout cluster) (making_steps layout cluster))
    → AddsWithin layout old new
making_within layout cluster old new (Ok x) named all steps =
    record { events = making_events layout cluster; told = all; within = steps_within layout cluster (making_events layout cluster) (making_steps layout cluster) (steps named) }
making_within layout cluster old new (Err formats.DiskFault) named part steps = part_within layout (making_events layout cluster)
    old new (steps_within layout cluster (making_events layout cluster) (making_steps layout cluster) (steps named)) part.0
making_within layout cluster old new (Err formats.ClusterZero) none same steps = none_within layout old new same
making_within layout cluster old new (Err (formats.NotBlank copy)) named same steps = none_within layout old new same
