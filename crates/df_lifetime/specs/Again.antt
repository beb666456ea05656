-- A life with damage: before any number of opens sectors of the file may be damaged, lost or swapped, and the machine may stop at any time.
use Rattle.std.specs.Prelude.{◌≡◌, ℕ, List, [], ◌∷◌, Some}
use Rattle.df_base.specs.{declared.TheConstants.{VERSION}, Image.{Image, IsImage, changed}, Log.{AreLoose, Log, Stop, Sync, add, now}, Moments.{Extends}}
use Rattle.df_disk.specs.{Adds.{AddsPart}, Told.{IsHonest, Told, did}}
use Rattle.df_layout.specs.declared.layout.Layout.{Layout}
use Rattle.df_history.specs.{Histories.{MayHurtCopies, NoChanceOver}, OpenLaws.{BeginsHistory}}
use Rattle.df_theory.specs.{Device.{NoChanceOf}, Holds.{Stands}, View.{View}}
use Rattle.df_units.specs.Bytes.{unit_at}
use Rattle.df_session.specs.{Below.{DataFile, FindsSince, IsOpened, State as Replica, restarted, shape, units_logs}, Serving.{Firm, Grade, StandsFor, format}, Begun.{begun_work}, Anew.{begun_after}}
use Rattle.df_session.specs.{Found.{FoundFile}, Laws.{CallsKeep}, Links.{CallsMade}, Programs.{FileRun, ServedFile}}
use Rattle.df_upgrade.specs.Upgrading.{second}
use Rattle.df_top.specs.Reopening.{IsLivedFile}
use Rattle.df_mirror.specs.{Outside.{Outside}, Run.{MirrorOutcome}, declared.status.Status.{Status}}
use Rattle.df_lifetime.specs.{Hurt.{KeepsOn, began_with}, Life.{AreMade, Chapter, Extent, GoesAlong, Life, ShowsFile}, Upgraded.{IsUpgraded}, Words.{OtherWord}}

-- What a disk shows after these logs of a file, whatever was done to its sectors: no unit came about by chance, and at most two superblock copies are hurt, none where the four weren't equal.
pub record IsSpared (file : DataFile) (log : Log) (older : List Log) (image : Image) : Type 0 where
  pub whole : IsImage image
  pub chance : NoChanceOver (units_logs file (add Sync log ∷ older)) (unit_at file.layout file.cluster image)
  pub copies : MayHurtCopies (unit_at file.layout file.cluster (now log)) (unit_at file.layout file.cluster image)

-- The life of a file so far: which file it is, its logs after which each next one was begun, the newest first, what the newest of all tells, and what the disk shows.
pub data Again : DataFile → List Log → Told → (shown : Image) → Type 0 where
  -- a life without damage, on a disk that was empty at first, or held what an upgrade or a copy leaves
  Once : (file : DataFile) (first : View) (b : Told) (chapters : List Chapter) (life : Life file first b chapters) → BeginsHistory (shape file) (unit_at file.layout file.cluster (began_with file first b chapters life)) → Again file [] b b.shown
  -- or an open of it answered, whatever was done to its disk before, and calls were made on it, to their end or up to a moment
  Opened : (file : DataFile) (view : View) (t m : Told) (layout : Layout) (found : FoundFile layout t) (c : CallsMade) (extent : Extent) → ShowsFile Firm file view t.shown → CallsKeep t found.replica found.mended found.mending c
      → AreMade extent (begun_after found.mending.events t) c m → Again file [] m m.shown
  -- then sectors were damaged, lost or swapped, so that anything is shown
  Hurt : (file : DataFile) (older : List Log) (b : Told) (was shown : Image) → Again file older b was → Again file older b shown
  -- or known units that the file lacks were taken from a second one, as the program `filemirror` does it, to its end or as far as it came. No log of the file begins there, since what is shown may have no view.
  Mended : (file : DataFile) (older : List Log) (b t o n : Told) (old new : Outside) (status : Status) → Again file older b t.shown → MirrorOutcome t o old new status → new.first ≡ Some n → Again file older b n.shown
  -- or a program was run over what the disk showed, to its end or up to a moment. It wrote to the file, so its open began a log at its barrier; one that
  -- wrote nothing leaves a file as it was
  Reopened : (file : DataFile) (older : List Log) (b t n p m : Told) (run : FileRun t n) → Again file older b t.shown → IsSpared file b.log older t.shown → (AddsPart (Sync ∷ []) (Some t) (Some n) → ⊥)
      → Extends n.log p.log → GoesAlong (did Sync t) p (did Sync (restarted t)) m → IsHonest m → Again file (add Sync b.log ∷ older) m m.shown
  -- or the machine stopped, and left any bytes in the sectors that were loose, where the disk showed what its newest log told
  Halted : (file : DataFile) (older : List Log) (b : Told) (changes : List (ℕ × List ℕ)) → Again file older b b.shown → AreLoose b.log.events changes → NoChanceOf (format file) b.log (changed changes (now b.log))
      → Again file older (did (Stop changes) b) (did (Stop changes) b).shown

-- It may begin where the word `upgrade` ended, or was stopped and left the file of version 2.
abbrev pub UpgradedMayBeDamaged : Type 0
UpgradedMayBeDamaged = (file : DataFile) (view : View) (t : Told) → IsUpgraded file view t.shown → Again (second file) [] (restarted t) t.shown

-- whatever life a file has had, its log is safe now, whatever a stop leaves of what it tells has a view, and its history is lived
abbrev pub EveryLifeIsLived : Type 0
EveryLifeIsLived = (file : DataFile) (older : List Log) (b : Told) (shown : Image) → Again file older b shown → (file.version ≡ VERSION) × IsHonest b × IsLivedFile file older b.log

-- So after any number of sessions, stops, damages and mendings a state that an open finds is one that the file had since the last open that raised its boot, that one's own log included.
abbrev pub EveryOpenFindsSince : Type 0
EveryOpenFindsSince = (file : DataFile) (older : List Log) (b : Told) (shown : Image) (s : Replica) → Again file older b shown → IsSpared file b.log older shown → IsOpened file.layout shown s → FindsSince file b.log older shown s

-- The words `format` and `upgrade` leave it as it is, whatever is hurt: nothing is written to it, and it isn't synced.
abbrev pub OtherWordsLeaveIt : Type 0
OtherWordsLeaveIt = (file : DataFile) (older : List Log) (b t n : Told) → Again file older b t.shown → IsSpared file b.log older t.shown → NoChanceOf (format file) b.log (now b.log) → OtherWord t n → t ≡ n

-- And a life begins anew with what it finds, where each block stands that this references: all that is acknowledged from there on is found, as long as nothing more is hurt.
abbrev pub LifeBeginsAnew : Type 0
LifeBeginsAnew =
    (file : DataFile) (older : List Log) (b t : Told) (s : Replica) → Again file older b t.shown → IsSpared file b.log older t.shown → (finds : FindsSince file b.log older t.shown s) → Stands (unit_at file.layout file.cluster t.shown) finds.found → Life file finds.found (restarted t) []

-- Each session keeps its file from there on, by the log that is restarted at its open: the next open goes on from there with all that was answered, after its end or after a stop at any moment, as long as nothing more is hurt.
-- At the lower grade nothing more is asked of what it found; at the higher one each block stands that this references, and stays.
pub record KeepsSince (file : DataFile) (log : Log) (older : List Log) {t n : Told} (served : ServedFile t n) : Type 0 where
  pub finds : FindsSince file log older t.shown served.found.found
  pub keeps : (g : Grade) → StandsFor g (unit_at file.layout file.cluster t.shown) finds.found → KeepsOn file g (begun_work file t.shown finds.found) (restarted t) served.found.mending.events served.made

-- so does each run of any program that found its file
abbrev pub RunsKeepSince : Type 0
RunsKeepSince = (file : DataFile) (older : List Log) (b t n : Told) (served : ServedFile t n) → Again file older b t.shown → IsSpared file b.log older t.shown → KeepsSince file b.log older served
