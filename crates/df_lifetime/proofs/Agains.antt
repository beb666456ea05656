-- A life with damage is lived: what each of its opens finds was had since the last one that raised its boot.
use Rattle.std.proofs.{Common.{◌≡◌, inl, inr, ℕ, List, [], ◌∷◌, Some, refl, sym, ◌∙◌, subst}, lemmas.Option.{same_Some}}
use Rattle.{df_base.specs.{Image.{Image, changed}, Log.{AreLoose, Log, Stop, Sync, add}, Moments.{Extends}}, df_model.specs.Work.{Work}}
use Rattle.df_base.specs.Log as logs
use Rattle.{df_disk.specs.{Adds.{AddsPart}, Told.{IsHonest, Told, did}}, df_layout.specs.declared.layout.Layout.{Layout}}
use Rattle.df_theory.{specs.{Device.{IsSafeDisk, NoChanceOf, units_log}, Holds.{Held}, Rests.{RestsOn}, View.{View}}, proofs.Laws.{disk_stop_law, rests_safe, safe_disk_law}}
use Rattle.{df_history.specs.OpenLaws.{BeginsHistory}, df_units.{specs.Bytes.{unit_at}, proofs.Laws.{is_format}}}
use Rattle.df_session.{specs.{Below.{DataFile, FindsSince, IsLivedDisk, IsOpened, MayReopen, State as Replica, restarted, shape, told_after}, Following.{MayOpen}, Serving.{Firm, format}, Acknowledging.{KeepsAnswered}, Anew.{begun_after}, Begun.{begun_work}, Found.{FoundFile}, Keeping.{KeepsFile, over}, Laws.{CallsKeep}, Links.{CallsMade, events_made}, Opened.{StopsOpening}, Programs.{FileRun, LooksOnly, Serves, StopsInOpen}}, proofs.Laws.{added_is_told, begun_may_open, first_goes_on, found_was_since, layout_shown, lived_layout, stopped_goes_on}}
use Rattle.df_upgrade.specs.Upgrading.{second}
use Rattle.df_top.{specs.Reopening.{IsLivedFile, LivesThrough, StaysLived}, proofs.Laws.{calls_live, stops_live}}
use Rattle.df_lifetime.{specs.{Again.{Again, EveryLifeIsLived, EveryOpenFindsSince, IsSpared, LifeBeginsAnew, RunsKeepSince, UpgradedMayBeDamaged}, Again.Again.{Halted, Hurt, Mended, Once, Opened, Reopened}, Life.{AreMade, Extent, GoesAlong, IsInOrder, ShowsFile}, Life.Life.{Taken}}, proofs.{Along.{after_along, moment_along}, HurtLives.{start_stays}, HurtSessions.{runs_keep_on}, Lives.{every_life_is_in_order, left_by}, Openings.{answers_begun, begins_begun, keeps_begun, made_honest, made_left, made_safe, made_start}}}

abbrev pub IsSound : DataFile → List Log → Told → Type 0
IsSound file older b = (file.version ≡ 2) × IsHonest b × IsLivedFile file older b.log

-- ---- after a stop

-- nothing is loose, so that another one leaves the same
stopped_file : (file : DataFile) (older : List Log) (b : Told) (changes : List (ℕ × List ℕ)) (view : View)
    → IsLivedFile file older b.log → AreLoose b.log.events changes → NoChanceOf (format file) b.log (changed changes (logs.now b.log))
    → Held (shape file) (unit_at file.layout file.cluster (changed changes (logs.now b.log))) view → (IsSafeDisk (format file) (shape file)
    (add (Stop changes) b.log) → IsLivedDisk file older (add (Stop changes) b.log)) → IsLivedFile file older (add (Stop changes) b.log)
stopped_file file older b changes view is loose chance held lived = let log : Log = add (Stop changes) b.log in
    let rests : RestsOn (shape file) (units_log (format file) log) view =
    disk_stop_law (format file) (shape file) view b.log changes is.safe loose chance held in
    let safe : IsSafeDisk (format file) (shape file) log =
    safe_disk_law (format file) (shape file) log (is_format file.layout file.cluster) (record { start = is.safe.is_log.start; events = (loose, is.safe.is_log.events) }) (rests_safe (shape file) (units_log (format file) log) view rests) in
    record {
      safe = safe;
      left = λ image gone no. (view, subst (λ (m : Image). Held (shape file) (unit_at file.layout file.cluster m) view) (λ i sector. sym (gone.kept sector refl) i) held);
      lived = lived safe;
    }

-- a file that was opened, whatever was done to its disk before: its log is safe, whatever a stop leaves has a view, and its units are of
-- earlier boots
module _ (file : DataFile) (view : View) (t m : Told) (layout : Layout) (found : FoundFile layout t) (c : CallsMade)
    (extent : Extent) (shows : ShowsFile Firm file view t.shown) (calls : CallsKeep t found.replica found.mended found.mending c)
    (made : AreMade extent (begun_after found.mending.events t) c m) where
  abbrev start : Work
  start = begun_work file t.shown view

  abbrev base : Told
  base = begun_after found.mending.events t

  keeps : KeepsFile file Firm start base c.exchanges c.failed (over [] (events_made c) base)
  keeps = keeps_begun Firm file view t layout found c shows calls

  answered : KeepsAnswered file Firm start (over [] [] base) c
  answered = answers_begun Firm file view t layout found c shows calls

  opened_history : BeginsHistory (shape file) (unit_at file.layout file.cluster m.log.start)
  opened_history = subst (λ (image : Image). BeginsHistory (shape file) (unit_at file.layout file.cluster image))
      (sym (made_start file Firm start base c keeps answered extent m made)) (begins_begun Firm file view t layout found c shows calls)

  opened_sound : (file.version ≡ 2) × IsHonest m × IsLivedFile file [] m.log
  opened_sound = let safe : IsSafeDisk (format file) (shape file) m.log = made_safe file Firm start base c keeps answered extent m made in (
    shows.version,
    made_honest file Firm start base c keeps answered extent m made,
    record {
      safe = safe;
      left = λ image gone chance.
          let has = (made_left file Firm start base c keeps answered extent t.shown m made image gone chance).has in (has.0, has.2);
      lived = first_goes_on file m.log safe opened_history;
    },
  )

abbrev IsFirst : List Log → Type 0
IsFirst [] = Unit {0}
IsFirst (log ∷ older) = ⊥

-- the first log begins a history
begins : (file : DataFile) (older : List Log) (b : Told) (shown : Image)
    → Again file older b shown → IsFirst older → BeginsHistory (shape file) (unit_at file.layout file.cluster b.log.start)
begins _ _ _ _ (Once file first b chapters life first_image) is = subst (λ (m : Image).
    BeginsHistory (shape file) (unit_at file.layout file.cluster m)) (sym (start_stays file first b chapters life)) first_image
begins _ _ _ _ (Opened file view t m layout found c extent shows calls made) is =
    opened_history file view t m layout found c extent shows calls made
begins _ _ _ _ (Hurt file older b was shown life) is = begins file older b was life is
begins _ _ _ _ (Mended file older b t o n old new status life mends to) is = begins file older b t.shown life is
begins _ _ _ _ (Reopened file older b t n p m run life spared wrote until along honest) none = absurd none
begins _ _ _ _ (Halted file older b changes life loose chance) is = begins file older b b.shown life is

halted : (file : DataFile) (older : List Log) (b : Told) (changes : List (ℕ × List ℕ)) (view : View) → IsLivedFile file older b.log
    → (IsFirst older → BeginsHistory (shape file) (unit_at file.layout file.cluster b.log.start)) → AreLoose b.log.events changes
    → NoChanceOf (format file) b.log (changed changes (logs.now b.log)) → Held (shape file) (unit_at file.layout file.cluster (changed changes (logs.now b.log))) view → IsSafeDisk (format file) (shape file) (add (Stop changes) b.log) → IsLivedDisk file older (add (Stop changes) b.log)
halted file [] b changes view is first loose chance held safe = first_goes_on file (add (Stop changes) b.log) safe (first tt)
halted file (before ∷ older) b changes view is first loose chance held safe =
    stopped_goes_on file view b.log before older changes is.safe is.lived loose chance held

-- ---- after a run

pub may_reopen : (file : DataFile) (older : List Log) (b : Told) (image : Image)
    → IsSound file older b → IsSpared file b.log older image → MayReopen file b.log older image
may_reopen file older b image is spared =
    record { version = is.0; lived = is.2.lived.synced; whole = spared.whole; chance = spared.chance; copies = spared.copies }

-- what is opened in rooms is of the file's layout
pub own_rooms : (file : DataFile) (log : Log) (older : List Log) (t : Told)
    → MayReopen file log older t.shown → (layout : Layout) (s : Replica) → IsOpened layout t.shown s → layout ≡ file.layout
own_rooms file log older t may layout s is =
    sym is.of.layout_is ∙ lived_layout file log older t.shown may s.file.layout (layout_shown layout t.shown s is)

module _ (file : DataFile) (log : Log) (older : List Log) (t n : Told) (may : MayReopen file log older t.shown) where
  abbrev Lives : Type 0
  Lives = StaysLived file log older t (Some n)

  stops_run : (layout : Layout) → StopsOpening layout t (Some n) → Lives
  stops_run layout (inl same) = inl (inl same)
  stops_run layout (inr (inl barrier)) = inl (inr barrier)
  stops_run layout (inr (inr partly)) = stops_live
      file log older t may (Some n) (rw (← (own_rooms file log older t may layout partly.found partly.opened)) (inr (inr partly)))

  served_run : (layout : Layout) (found : FoundFile layout t) (c : CallsMade) → layout ≡ file.layout
      → CallsKeep t found.replica found.mended found.mending c → c.new ≡ Some n → LivesThrough file log older t (Some n)
  served_run layout found c same = subst (λ (l : Layout). (f : FoundFile l t)
      → CallsKeep t f.replica f.mended f.mending c → c.new ≡ Some n → LivesThrough file log older t (Some n)) (sym same)
      (λ f keep to. calls_live file log older t may f c keep (Some n) (sym to ∙ keep.adds)) found

  run_stays : FileRun t n → Lives
  run_stays (LooksOnly part) = inl part
  run_stays (StopsInOpen layout stops) = stops_run layout stops
  run_stays (Serves served) = inr (served_run served.layout served.found
      served.made (own_rooms file log older t may served.layout served.found.found served.found.is_opened) served.keep served.to)

run_lives : (file : DataFile) (older : List Log) (b t n p m : Told) (run : FileRun t n)
    → IsSound file older b → IsSpared file b.log older t.shown → (AddsPart (Sync ∷ []) (Some t) (Some n) → ⊥)
    → Extends n.log p.log → GoesAlong (did Sync t) p (did Sync (restarted t)) m → IsLivedFile file (add Sync b.log ∷ older) m.log
run_lives file older b t n p m run is spared wrote until along =
    elim (run_stays file b.log older t n (may_reopen file older b t.shown is spared) run) [
      | inl synced ↦ absurd (wrote synced)
      | inr lives ↦ let end : Told = told_after lives.events (did Sync (restarted t)) in
          let told : n ≡ told_after lives.events (did Sync t) =
          same_Some n (told_after lives.events (did Sync t)) (lives.told ∙ added_is_told lives.events (did Sync t)) in
          let all : GoesAlong (did Sync t) n (did Sync (restarted t)) end =
          rw (sym told) at (after_along lives.events (did Sync t) (did Sync (restarted t)) refl) in
          lives.moments m.log (moment_along (did Sync t) p n (did Sync (restarted t)) m end all along until)
    ]

-- ---- the laws

pub every_life_is_lived : EveryLifeIsLived
every_life_is_lived _ _ _ _ (Once file first b chapters life first_image) =
    let order : IsInOrder file first chapters b = every_life_is_in_order file first b chapters life in
    let start : BeginsHistory (shape file) (unit_at file.layout file.cluster b.log.start) =
    begins file [] b b.shown (Once file first b chapters life first_image) tt in (
      order.version,
      order.honest,
      record {
        safe = order.safe;
        left = λ image gone chance. let has = order.left image gone chance in (has.0, has.2);
        lived = first_goes_on file b.log order.safe start;
      },
    )
every_life_is_lived _ _ _ _ (Opened file view t m layout found c extent shows calls made) =
    opened_sound file view t m layout found c extent shows calls made
every_life_is_lived _ _ _ _ (Hurt file older b was shown life) = every_life_is_lived file older b was life
every_life_is_lived _ _ _ _ (Mended file older b t o n old new status life mends to) = every_life_is_lived file older b t.shown life
every_life_is_lived _ _ _ _ (Reopened file older b t n p m run life spared wrote until along honest) =
    let is = every_life_is_lived file older b t.shown life in (is.0, honest, run_lives file older b t n p m run is spared wrote until along)
every_life_is_lived _ _ _ _ (Halted file older b changes life loose chance) = let is = every_life_is_lived file older b b.shown life in
    let has = is.2.left (changed changes (logs.now b.log)) (left_by b.log changes is.2.safe.is_log loose) chance in (
      is.0,
      record { shows = λ sector i. changed changes (λ s. is.1.shows s i) sector },
      stopped_file file older b changes has.0 is.2 loose chance has.1 (λ safe.
          halted file older b changes has.0 is.2 (begins file older b b.shown life) loose chance has.1 safe),
    )

pub upgraded_may_be_damaged : UpgradedMayBeDamaged
upgraded_may_be_damaged file view t new = Once (second file) new.first (restarted t) [] (Taken (second file) new.first t new.may) new.begins

pub every_open_finds_since : EveryOpenFindsSince
every_open_finds_since file older b shown s life spared is =
    found_was_since file b.log older shown s (may_reopen file older b shown (every_life_is_lived file older b shown life) spared) is

pub life_begins_anew : LifeBeginsAnew
life_begins_anew file older b t s life spared finds stands = Taken
    file finds.found t (record { version = (every_life_is_lived file older b t.shown life).0; begins = finds.begins; stands = stands })

-- ---- a session

-- it may be opened by the log that is restarted
opens_anew : (file : DataFile) (older : List Log) (b t : Told) (s : Replica)
    → Again file older b t.shown → (finds : FindsSince file b.log older t.shown s) → MayOpen file finds.found (restarted t)
opens_anew file older b t s life finds = begun_may_open file finds.found t (every_life_is_lived file older b t.shown life).0 finds.begins

pub runs_keep_since : RunsKeepSince
runs_keep_since file older b t n served life spared = let s : Replica = served.found.found in
    let same : served.layout ≡ file.layout = own_rooms file b.log older
    t (may_reopen file older b t.shown (every_life_is_lived file older b t.shown life) spared) served.layout s served.found.is_opened in
    let finds : FindsSince file b.log older t.shown s =
    every_open_finds_since file older b t.shown s life spared (rw same at served.found.is_opened) in
    record { finds = finds; keeps = λ g stands. runs_keep_on g file finds.found t n (restarted t) served refl (opens_anew file older b t s life finds) stands }
