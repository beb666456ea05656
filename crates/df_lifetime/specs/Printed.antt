-- What is printed is a function of what the disk shows at first: of `recover`, `scrub` and `workload`, as `df_top` says it of a script and of `inspect`. And whatever fails in
-- a session, what is written is a front of the text that its script has.
use Rattle.std.specs.Prelude.{◌≡◌, ◌+◌, ℕ, List, length, None, Some}
use Rattle.df_base.specs.{Image.{Image, IsImage}, Streams.{Appends, AppendsPart}}
use Rattle.df_disk.specs.Told.{Told}
use Rattle.df_inspect.specs.{Reports.{workload_text}, declared.counts.Workload.{Workload}}
use Rattle.df_layout.specs.declared.layout.Layout.{Layout}
use Rattle.df_lines.specs.{Grammar.{Said}, Room.{line_bound}, Script.{IsScript}}
use Rattle.df_theory.specs.{Found.{IsFound}, View.{View, head, sequence}}
use Rattle.df_units.specs.Bytes.{unit_at}
use Rattle.df_model.specs.{Commands.{Command}, Supply.{result}}
use Rattle.df_session.specs.{Below.{DataFile, shape}, Reading.{shown_of}, Begun.{begun_work}, Codec.{codec}, Found.{FoundFile}}
use Rattle.df_workload.specs.{Asking.{asks}, Following.{Follows}, Rounds.{start}, declared.state.State.{State as Run}}
use Rattle.df_top.specs.{Works.{workload_with}, OneText.{ShowSame, text_by}, Outside.{Outside}, Reporting.{Recovers}, Resulting.{script_text_of}, Run.{ServesScript, script_budget}}
use Rattle.df_top.specs.{Scrubs.{ScrubsFile}, Working.{WorksThrough}, declared.status.Status.{Status}, declared.status.Status.TheVariants.{Done, Found}}
use Rattle.df_pace.specs.declared.pace.Pace.{Pace}

-- ---- a word that is carried out twice

-- a word was carried out over a disk that tells what it shows
pub record Carried (Word : Told → Outside → Outside → Status → Type 0) : Type 0 where
  pub told : Told
  pub old : Outside
  pub new : Outside
  pub status : Status
  pub does : Word told old new status

-- no call of the disk or of the sink failed
abbrev pub HasEnded : Status → Type 0
HasEnded Done = Unit {0}
HasEnded Found = Unit {0}
HasEnded status = ⊥

-- it was carried out to its end over two disks that show the same
pub record Twice (layout : Layout) (Word : Told → Outside → Outside → Status → Type 0) : Type 0 where
  pub one : Carried Word
  pub other : Carried Word
  pub same : ShowSame layout one.told.shown other.told.shown
  pub ended : HasEnded one.status × HasEnded other.status

-- both times it ends with the same status and prints the same text
pub record PrintsOne {Word : Told → Outside → Outside → Status → Type 0} (one other : Carried Word) : Type 0 where
  pub status : one.status ≡ other.status
  pub text : List ℕ
  pub first : Appends one.old.written one.new.written text
  pub second : Appends other.old.written other.new.written text

-- a word is carried out on the file that was found
abbrev pub OnFile : (layout : Layout) → ((t : Told) → FoundFile layout t → Outside → Outside → Status → Type 0) → Told → Outside → Outside → Status → Type 0
OnFile layout Word t old new status = (found : FoundFile layout t) × Word t found old new status

-- so does `recover`
abbrev pub RecoverHasOneText : Type 0
RecoverHasOneText = (layout : Layout) (runs : Twice layout (OnFile layout (Recovers layout))) → PrintsOne runs.one runs.other

-- so does `scrub`: its tour is made over what the mending left, which is what was shown at first wherever a call reads
abbrev pub ScrubHasOneText : Type 0
ScrubHasOneText = (layout : Layout) (runs : Twice layout (OnFile layout (ScrubsFile layout))) → PrintsOne runs.one runs.other

-- And so does a generated run of one seed and one number of rounds, over disks that show images.
abbrev pub WorkloadHasOneText : Type 0
WorkloadHasOneText = (seed count : ℕ) (layout : Layout) (runs : Twice layout (OnFile layout (WorksThrough seed count layout))) → IsImage runs.one.told.shown → IsImage runs.other.told.shown → PrintsOne runs.one runs.other

-- ---- what a generated run prints

-- a run of this many rounds over an image in which an open finds this view: it asks, the machine answers over what is shown, and at the end nothing more is asked for
pub record IsRun (seed count : ℕ) (file : DataFile) (image : Image) (view : View) (run : Run) : Type 0 where
  pub commands : List Command
  pub follows : Follows (start seed count file.layout.clients) commands (result (shape file) (codec file) (shown_of file image) (begun_work file image view) commands) run
  pub ends : asks run ≡ None

-- there is no other
abbrev pub OneRun : Type 0
OneRun = (seed count : ℕ) (file : DataFile) (image : Image) (view : View) (run other : Run) → IsRun seed count file image view run → IsRun seed count file image view other → run ≡ other

-- what it counted, and the numbers of the file: head, replies and sequence went on by what was appended and replied, and by the checkpoints that were finished
abbrev pub workload_by : View → Run → Workload
workload_by view run = workload_with run (head view + run.counts.appended) (view.replies + run.counts.replied) (sequence view + run.counts.checkpoints)

abbrev pub run_text : View → Run → List ℕ
run_text view run = workload_text (workload_by view run)

-- a run that nothing failed in prints that, over the image that the disk shows at first
abbrev pub RunTextIsResult : Type 0
RunTextIsResult =
    (seed count : ℕ) (layout : Layout) (t : Told) (old new : Outside) (status : Status) (found : FoundFile layout t) (works : WorksThrough seed count layout t found old new status) (view : View) → IsImage t.shown
    → IsFound (shape found.replica.file) (unit_at found.replica.file.layout found.replica.file.cluster t.shown) view → HasEnded status
    → (run : Run) × IsRun seed count found.replica.file t.shown view run × (status ≡ Done) × Appends old.written new.written (run_text view run)

-- ---- a session that anything failed in

-- a session of a script, with work of this pace beside it, over a disk that tells what it shows, with the view that its open found and the lines that its text has
pub record Scripted (pace : Pace) (layout : Layout) (t : Told) (old new : Outside) (status : Status) : Type 0 where
  pub opening : FoundFile layout t
  pub serves : ServesScript pace layout t opening old new status
  pub view : View
  pub found : IsFound (shape opening.replica.file) (unit_at opening.replica.file.layout opening.replica.file.cluster t.shown) view
  pub text : List ℕ
  pub left : old.left ≡ Some text
  pub says : List Said
  pub script : IsScript (line_bound layout) script_budget text says

-- what it prints where nothing fails
abbrev pub whole_text : {pace : Pace} {layout : Layout} {t : Told} {old new : Outside} {status : Status} → Scripted pace layout t old new status → List ℕ
whole_text {pace = pace} {t = t} s = text_by s.script.ends (length s.says) (script_text_of pace s.opening.replica.file s.view t.shown s.says)

-- however the session ends, what is written is a front of that
abbrev pub FrontIsWritten : Type 0
FrontIsWritten = (pace : Pace) (layout : Layout) (t : Told) (old new : Outside) (status : Status) (s : Scripted pace layout t old new status) → AppendsPart old.written new.written (whole_text s)
