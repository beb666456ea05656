-- What a run of any program keeps by any log by which its file may be opened: on a hurt disk by the one that is restarted at what its open found. So sessions compose there, too. And that
-- whatever life a file has had, it may be hurt.
use Rattle.std.specs.Prelude.{◌≡◌, ℕ, zero, suc, List, [], ◌++◌, take, drop, Some}
use Rattle.df_base.specs.{Image.{Image, IsImage, blank, changed}, Log.{AreLoose, Event, IsLeft, Log, Stop, Sync, add, now}, Moments.{IsMoment}}
use Rattle.df_disk.specs.Told.{IsHonest, Told, did}
use Rattle.df_layout.specs.declared.layout.Layout.{Layout}
use Rattle.df_theory.specs.{Device.{NoChanceOf}, View.{View}}
use Rattle.df_units.specs.Bytes.{unit_at}
use Rattle.df_model.specs.{Views.{SomeKeeps}, Work.{Work, kept}}
use Rattle.df_session.specs.{Below.{DataFile, FindsHad, MayBeHurt, restarted, told_after}, Following.{MayOpen}, Serving.{Grade, StandsFor, format}, Session.{Act, Exchange, acts_in, work_after}}
use Rattle.df_session.specs.{Begun.{begun_work}, Anew.{begun_after}, Found.{FoundFile}, Laws.{CallsKeep}, Links.{CallsMade, events_made, list_of}, Acknowledging.{KeepsAnswered, WereAnswered}}
use Rattle.df_session.specs.{Keeping.{KeepsFile, over}, Programs.{ServedFile}}
use Rattle.df_lifetime.specs.{Acknowledged.{AreThere}, Life.{Chapter, Life, MayHave, ShowsFile}, There.{promised_in}, Life.Life.{Begun, Ended, Made, Opened, Ran, Spared, Stopped, Taken}}

-- The next open finds the view after all of these calls, and perhaps some of the acts after them, from the first of these on: the file may be opened by
-- this log, what was answered is there, and at the higher grade so is each block that is referenced.
pub record NextFinds (file : DataFile) (g : Grade) (w : Work) (exchanges : List Exchange) (perhaps : List Act) (t : Told) : Type 0 where
  pub more : List Act
  pub rest : List Act
  pub some : perhaps ≡ more ++ rest
  pub may : SomeKeeps (kept (work_after file w (acts_in exchanges ++ more))) (λ view. MayOpen file view t)
  pub there : AreThere (kept (work_after file w (acts_in exchanges ++ more))) (promised_in w) exchanges
  pub stands : StandsFor g (unit_at file.layout file.cluster t.shown) (kept (work_after file w (acts_in exchanges ++ more)))

-- what a base tells at the end of a session
abbrev pub at_end : List Event → CallsMade → Told → Told
at_end mending c base = told_after (events_made c) (told_after mending (did Sync base))

-- this many of its calls were answered by then: none at any moment, or one and more
abbrev pub AreAnswered : ℕ → List Event → Told → Log → CallsMade → Type 0
AreAnswered zero mending base log c = Unit {0}
AreAnswered (suc k) mending base log c = WereAnswered (suc k) (over mending [] base) log c

-- What a session keeps by a base, after this mending of its open and from this state of the machine on: what is promised of a disk that may be opened. The disk shows at
-- the end what the base tells, and so the next open goes on from there, or after a stop at any moment, with all that was answered by then.
pub record KeepsOn (file : DataFile) (g : Grade) (w : Work) (base : Told) (mending : List Event) (c : CallsMade) : Type 0 where
  pub keeps : KeepsFile file g w base c.exchanges c.failed (over mending (events_made c) base)
  pub acknowledged : KeepsAnswered file g w (over mending [] base) c
  pub shows : (n : Told) → c.new ≡ Some n → (at_end mending c base).shown ≡ n.shown
  pub ended : NoChanceOf (format file) (at_end mending c base).log (now (at_end mending c base).log) → NextFinds file g w c.exchanges (list_of c.failed) (at_end mending c base)
  pub stopped : (k : ℕ) (m : Told) (changes : List (ℕ × List ℕ)) → IsMoment (did Sync base).log (at_end mending c base).log m.log → AreAnswered k mending base m.log c → IsHonest m → AreLoose m.log.events changes
      → NoChanceOf (format file) m.log (changed changes (now m.log)) → NextFinds file g w (take k c.exchanges) (acts_in (drop k c.exchanges) ++ list_of c.failed) (did (Stop changes) m)

-- So does each run of any program that found its file, whatever was done to the disk before: by each log that shows what it shows, and by which the file may be opened.
abbrev pub RunsKeepOn : Type 0
RunsKeepOn =
    (g : Grade) (file : DataFile) (view : View) (t n base : Told) (served : ServedFile t n) → base.shown ≡ t.shown → MayOpen file view base → StandsFor g (unit_at file.layout file.cluster t.shown) view
    → KeepsOn file g (begun_work file t.shown view) base served.found.mending.events served.made

-- On a hurt disk it keeps it by the log that is restarted, where its open finds the file's own checkpoint, as it does where the four copies were equal and two stand.
abbrev pub HurtRunsKeep : Type 0
HurtRunsKeep =
    (g : Grade) (file : DataFile) (view : View) (t n : Told) (served : ServedFile t n) (had : FindsHad file view t served.found.found) → (had.found.checkpoint ≡ view.checkpoint) → StandsFor g (unit_at file.layout file.cluster t.shown) had.found
    → KeepsOn file g (begun_work file t.shown had.found) (restarted t) served.found.mending.events served.made

-- Whatever was done to the disk before, and whatever its copies show: where an open answered, all that is answered after it is kept by the log that is restarted at its end. Nothing is asked of the start but that the
-- file is found, and that one checksum is one unit.
abbrev pub RunsKeepAnew : Type 0
RunsKeepAnew =
    (g : Grade) (file : DataFile) (view : View) (t n : Told) (served : ServedFile t n) → ShowsFile g file view t.shown
    → KeepsOn file g (begun_work file t.shown view) (begun_after served.found.mending.events t) [] served.made

-- And a stop within such an open leaves the view that was found, but for its boot, by the log that is restarted at its barrier: so the next open starts over.
abbrev pub StoppedOpensBegin : Type 0
StoppedOpensBegin =
    (g : Grade) (file : DataFile) (view : View) (t m : Told) (image : Image) (layout : Layout) (found : FoundFile layout t) (c : CallsMade) → ShowsFile g file view t.shown → CallsKeep t found.replica found.mended found.mending c
    → IsMoment (restarted t).log (told_after found.mending.events (restarted t)).log m.log → IsLeft m.log image → NoChanceOf (format file) m.log image → SomeKeeps view (λ next. ShowsFile g file next image)

-- ---- damage at any time of a life

-- what the disk of a life held at first: as its making began, the start of the log; or as the file was taken, or at the end of its open
abbrev pub began_with : (file : DataFile) (first : View) (t : Told) (chapters : List Chapter) → Life file first t chapters → Image
began_with _ _ _ _ (Made layout cluster t n makable made) = t.log.start
began_with _ _ _ _ (Begun layout cluster t n m result changes makable made moment honest loose chance held) = t.log.start
began_with _ _ _ _ (Taken file first t may) = t.shown
began_with _ _ _ _ (Opened file first t m layout found c extent shows calls made) = (begun_after found.mending.events t).shown
began_with _ _ _ _ (Ran file first b m t n chapters run life chance along) = began_with file first b chapters life
began_with _ _ _ _ (Ended file first b m t p n chapters run answered life chance until along honest had) = began_with file first b chapters life
began_with _ _ _ _ (Spared file first b m t p n chapters word life chance until along honest) = began_with file first b chapters life
began_with _ _ _ _ (Stopped file first b chapters changes life loose chance) = began_with file first b chapters life

-- A life that began with the empty disk may be hurt: whatever the disk shows at any time of it, no unit of it by chance, is what the promises over hurt disks speak of, with a view
-- that the file may have come to. One that began with a file that was there, as after an upgrade, began with no empty disk, and nothing is said of it here: those promises look back to what
-- the log began with, and the file of version 1 is no state of the log.
abbrev pub LifeMayBeHurt : Type 0
LifeMayBeHurt =
    (file : DataFile) (first : View) (t : Told) (chapters : List Chapter) (shown : Image) (life : Life file first t chapters) → began_with file first t chapters life ≡ blank → NoChanceOf (format file) t.log (now t.log) → IsImage shown
    → NoChanceOf (format file) (add Sync t.log) shown → (view : View) × MayHave file first chapters view × MayBeHurt file view (record { log = t.log; shown = shown })
