-- What `filemirror` does to a sound file: each unit that is known of it is shown, so it only looks.
use Rattle.std.specs.{Prelude.{◌≡◌, ◌⊎◌, ◌<◌, ◌≤◌, ℕ, List, [], ◌∷◌, slice_index, Some}, List.{slice_get}}
use Rattle.df_base.specs.{Image.{Image}, Log.{Sync, now}}
use Rattle.df_disk.specs.{Adds.{AddsPart}, Told.{Told}}
use Rattle.df_layout.specs.declared.layout.Layout.{Layout}
use Rattle.df_theory.specs.{Device.{NoChanceOf}, Found.{IsFound}, Units.{Session}, View.{View, sessions}}
use Rattle.df_units.specs.Bytes.{unit_at}
use Rattle.df_session.specs.{Anew.{begun_after}, Below.{DataFile, shape}, Found.{FoundFile}, Laws.{CallsKeep}, Links.{CallsMade}, Making.{MayMakeOn, file_of}, Programs.{FileRun}}
use Rattle.df_session.specs.Serving.{Whole, format}
use Rattle.df_mirror.specs.{Outside.{Outside, Tell}, Run.{RunsMirror}, declared.status.Status.{Status}}
use Rattle.df_lifetime.specs.{Hurt.{began_with}, Life.{Chapter, Life, ShowsFile}, Words.{IsQuiet}}

-- `filemirror` was run over a file whose disk told this before and that after it, with a second one, and did what it promises
pub record MirrorRun (t n : Told) : Type 0 where
  pub second : Told
  pub status : Status
  pub old : Outside
  pub new : Outside
  pub tell : Tell t second old
  pub to : new.first ≡ Some n
  pub runs : RunsMirror old new status

-- where the superblock records a reply for a session, that had its reply, or its request came after the head that the superblock records
abbrev pub RecordsReplies : View → Type 0
RecordsReplies v =
    (k : ℕ) (s : Session) → slice_get (sessions v) k ≡ Some s → 0 < slice_index v.checkpoint.content.reply_checksums k → (s.op ≤ v.replies) ⊎ (v.checkpoint.content.pin < s.op)

-- so it is in the view that an open finds in this image, if it finds one
abbrev pub ShowsRecords : DataFile → Image → Type 0
ShowsRecords file image = (v : View) → IsFound (shape file) (unit_at file.layout file.cluster image) v → RecordsReplies v

-- A disk on which a file may be made showed no file at first.
abbrev pub MadeShowsRecords : Type 0
MadeShowsRecords = (layout : Layout) (cluster : ℕ) (t : Told) (makable : MayMakeOn layout cluster t) → ShowsRecords (file_of layout cluster makable.named) t.log.start

-- So it is at the end of an open that answered, whatever the disk was before: its superblock is the one that the open wrote.
abbrev pub OpenedShowsRecords : Type 0
OpenedShowsRecords =
    (file : DataFile) (first : View) (t : Told) (layout : Layout) (found : FoundFile layout t) (c : CallsMade) → ShowsFile Whole file first t.shown → CallsKeep t found.replica found.mended found.mending c
    → ShowsRecords file (begun_after found.mending.events t).shown

-- Each run of `filemirror` over a disk that shows what the file's log tells is a run that makes no calls: nothing was done but the barrier, if that. A forged superblock may record a reply that no session
-- had, and that would be mended: so where the life began with a file that was taken, its superblock recorded none.
abbrev pub MirrorIsRun : Type 0
MirrorIsRun =
    (file : DataFile) (first : View) (b t n : Told) (chapters : List Chapter) (life : Life file first b chapters) → ShowsRecords file (began_with file first b chapters life) → NoChanceOf (format file) b.log (now b.log)
    → b.shown ≡ t.shown → MirrorRun t n → (run : FileRun t n) × IsQuiet run × AddsPart (Sync ∷ []) (Some t) (Some n)
