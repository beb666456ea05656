-- The life of a file: it is made, or taken as it is found, programs are run over it one after the other, whichever they are, each to its end or up to a moment, and the machine may stop at any time.
use Rattle.std.specs.Prelude.{◌≡◌, ◌⊎◌, ◌<◌, ℕ, zero, suc, List, [], ◌∷◌, ◌++◌, take, drop, Option, Some, None, Result, Ok}
use Rattle.df_base.specs.{declared.TheConstants.{GREATEST, VERSION}, Image.{Image, IsImage, changed}, Log.{AreLoose, Event, IsLeft, Log, Stop, Sync, now}, Moments.{Extends, IsMoment}}
use Rattle.df_disk.specs.Told.{IsHonest, Told, did}
use Rattle.df_layout.specs.declared.layout.Layout.{Layout}
use Rattle.df_theory.specs.{Device.{IsSafeDisk, NoChanceOf}, Found.{IsFound}, Holds.{Held, Stands}, View.{View, boot_of}}
use Rattle.df_units.specs.{Bytes.{unit_at}, Format.{format_of}, Making.{first_view}}
use Rattle.df_model.specs.{Views.{KeepsView}, Work.{kept}, declared.errors.FormatError.{FormatError}}
use Rattle.df_session.specs.{Below.{AreDistinctUnits, DataFile, restarted, shape, told_after}, Following.{MayOpen}, HeldBlocks.{AreInputs}, Making.{MakingLeaves, MayMakeOn, file_of}}
use Rattle.df_session.specs.{Serving.{Grade, StandsFor, Whole, format}, Session.{Act, Exchange, acts_in, answers_in, answers_of, work_after}, Begun.{begun_work}, Anew.{begun_after}, Found.{FoundFile}}
use Rattle.df_session.specs.{Keeping.{over}, Laws.{CallsKeep}, Links.{CallsMade, events_made, list_of}, Acknowledging.{WereAnswered}, Programs.{FileRun, ServedFile, calls_in_run}}
use Rattle.df_upgrade.specs.Below.{MayRestart}
use Rattle.df_lifetime.specs.Words.{OtherWord}

-- ---- what a session leaves of a file

-- a session as far as it is known: the image that it opened, the calls that were surely answered, and the acts after them of which some may have come through
pub record Chapter : Type 0 where
  pub shown : Image
  pub answered : List Exchange
  pub perhaps : List Act

-- these acts came through: all that were answered, and some of the others, from the first on
pub record CameThrough (c : Chapter) (acts : List Act) : Type 0 where
  pub more : List Act
  pub rest : List Act
  pub are : acts ≡ acts_in c.answered ++ more
  pub some : c.perhaps ≡ more ++ rest

-- the session found view v in its image, and boots were left to raise it; from the state after the boot update on the machine answered as it did, and came to view u by the acts that came through
pub record GoesBy (file : DataFile) (c : Chapter) (acts : List Act) (v u : View) : Type 0 where
  pub whole : IsImage c.shown
  pub found : IsFound (shape file) (unit_at file.layout file.cluster c.shown) v
  pub unspent : boot_of v < GREATEST
  pub inputs : AreInputs (acts_in c.answered ++ c.perhaps)
  pub answers_are : answers_in c.answered ≡ answers_of file (begun_work file c.shown v) (acts_in c.answered)
  pub came : CameThrough c acts
  pub view : KeepsView (kept (work_after file (begun_work file c.shown v) acts)) u

-- nothing was answered, and the view is as it was, but for its boot
pub record IsUntouched (c : Chapter) (v u : View) : Type 0 where
  pub none : c.answered ≡ []
  pub same : KeepsView v u

-- a session leads from one view to the next
abbrev pub LeadsTo : DataFile → Chapter → (v u : View) → Type 0
LeadsTo file c v u = IsUntouched c v u ⊎ ((acts : List Act) × GoesBy file c acts v u)

-- a view that a file may have come to after these sessions, the newest first, from the view on with which it began
abbrev pub MayHave : DataFile → (first : View) → List Chapter → View → Type 0
MayHave file first [] u = KeepsView first u
MayHave file first (c ∷ chapters) u = (v : View) × MayHave file first chapters v × LeadsTo file c v u

-- ---- what happens to a file

-- a program is run to its end, or up to a moment before which this many of its calls were answered
pub data Extent : Type 0 where
  ToItsEnd : Extent
  ToAMoment : (answered : ℕ) → Extent

-- A session over this image that made these calls. At its end all that was answered is known to be there; at a moment all that was answered by then is, and any
-- of the calls after that may be.
abbrev pub chapter_of : Extent → Image → CallsMade → Chapter
chapter_of ToItsEnd shown c = record { shown = shown; answered = c.exchanges; perhaps = list_of c.failed }
chapter_of (ToAMoment k) shown c = record { shown = shown; answered = take k c.exchanges; perhaps = acts_in (drop k c.exchanges) ++ list_of c.failed }

abbrev pub chapters_of : Extent → Image → Option CallsMade → List Chapter
chapters_of extent shown None = []
chapters_of extent shown (Some c) = chapter_of extent shown c ∷ []

-- this many of the calls were answered by then, as the disk told: none at any moment, or one and more
abbrev pub HaveAnswers : ℕ → Log → Option CallsMade → Type 0
HaveAnswers zero log calls = Unit {0}
HaveAnswers (suc k) log None = ⊥
HaveAnswers (suc k) log (Some c) = WereAnswered (suc k) c.old log c

-- the session of a run, if the file was found in it
abbrev pub sessions_in : Extent → {t n : Told} → FileRun t n → List Chapter
sessions_in extent {t = t} run = chapters_of extent t.shown (calls_in_run run)

-- The file's log goes along with the disk: both show the same, the same events come to both, the newest first, and then they show the same again. The disk may tell more than the
-- log of the file, of what was there before.
pub record GoesAlong (t n b m : Told) : Type 0 where
  pub shown : b.shown ≡ t.shown
  pub events : List Event
  pub disk : n.log.events ≡ events ++ t.log.events
  pub file : m.log.events ≡ events ++ b.log.events
  pub start : m.log.start ≡ b.log.start
  pub shows : m.shown ≡ n.shown

-- A file may be taken as it is found in this image: it is of version 2, an open finds this view, with each block that it references, and a log may be restarted there.
pub record MayTake (file : DataFile) (view : View) (image : Image) : Type 0 where
  pub version : file.version ≡ VERSION
  pub begins : MayRestart file view image
  pub stands : Stands (unit_at file.layout file.cluster image) view

-- A file of version 2 is shown: an open finds this view in the image, at the higher grade with each block that it references, and one checksum is one unit. Nothing is asked of its copies.
pub record ShowsFile (g : Grade) (file : DataFile) (view : View) (image : Image) : Type 0 where
  pub version : file.version ≡ VERSION
  pub whole : IsImage image
  pub found : IsFound (shape file) (unit_at file.layout file.cluster image) view
  pub distinct : AreDistinctUnits (unit_at file.layout file.cluster image)
  pub stands : StandsFor g (unit_at file.layout file.cluster image) view

-- What the log tells that was begun at the end of an open: after all calls that were made then, or at a moment of them before which this many were answered.
abbrev pub AreMade : Extent → (b : Told) → CallsMade → (m : Told) → Type 0
AreMade ToItsEnd b c m = m ≡ told_after (events_made c) (did Sync b)
AreMade (ToAMoment k) b c m = WereAnswered k (over [] [] b) m.log c × Extends (told_after (events_made c) (did Sync b)).log m.log × IsHonest m

-- A making, whichever program did it, on a disk on which a file may be made: the log goes on from what was told, is safe at each moment, and the disk is honest; where the file was made it has its first view.
pub record MadeOn (layout : Layout) (cluster : ℕ) (t n : Told) (makable : MayMakeOn layout cluster t) (result : Result (Unit {0}) FormatError) : Type 0 where
  pub grew : Extends n.log t.log
  pub honest : IsHonest n
  pub leaves : MakingLeaves layout cluster t makable n result

-- The life of a file so far: which file it is, with which view it began, its log since then and what that shows, and the sessions that served it, the newest first.
pub data Life : DataFile → (first : View) → Told → List Chapter → Type 0 where
  -- it was made, on a disk on which a file may be made, as on one that was never written: it is the file of this layout and cluster
  Made : (layout : Layout) (cluster : ℕ) (t n : Told) (makable : MayMakeOn layout cluster t) → MadeOn layout cluster t n makable (Ok tt) → Life (file_of layout cluster makable.named) (first_view layout cluster) n []
  -- or its making was cut off at a moment, and a stop left its first view all the same
  Begun : (layout : Layout) (cluster : ℕ) (t n m : Told) (result : Result (Unit {0}) FormatError) (changes : List (ℕ × List ℕ)) (makable : MayMakeOn layout cluster t) → MadeOn layout cluster t n makable result
      → IsMoment t.log n.log m.log → IsHonest m → AreLoose m.log.events changes → NoChanceOf (format_of layout cluster) m.log (changed changes (now m.log))
      → Held (shape (file_of layout cluster makable.named)) ((format_of layout cluster).unit_at (changed changes (now m.log))) (first_view layout cluster)
      → Life (file_of layout cluster makable.named) (first_view layout cluster) (did (Stop changes) m) []
  -- or it was there, as one is that was upgraded, or copied: its log begins with what the disk shows
  Taken : (file : DataFile) (first : View) (t : Told) → MayTake file first t.shown → Life file first (restarted t) []
  -- or it was opened, whatever was done to its disk before, and calls were made on it, to their end or up to a moment: its log begins with what the disk shows at the end of that open
  Opened : (file : DataFile) (first : View) (t m : Told) (layout : Layout) (found : FoundFile layout t) (c : CallsMade) (extent : Extent) → ShowsFile Whole file first t.shown → CallsKeep t found.replica found.mended found.mending c
      → AreMade extent (begun_after found.mending.events t) c m → Life file first m (chapter_of extent t.shown c ∷ [])
  -- then a program was run to its end, whatever its status; what was shown as it began did not come about by chance
  Ran : (file : DataFile) (first : View) (b m t n : Told) (chapters : List Chapter) (run : FileRun t n) → Life file first b chapters → NoChanceOf (format file) b.log (now b.log) → GoesAlong t n b m → Life file first m (sessions_in ToItsEnd run ++ chapters)
  -- or it was ended at a moment, before or within any call of the disk, when this many of its calls were answered, and the disk goes on telling
  -- what was done up to there
  Ended : (file : DataFile) (first : View) (b m t p n : Told) (chapters : List Chapter) (run : FileRun t n) (answered : ℕ) → Life file first b chapters → NoChanceOf (format file) b.log (now b.log) → Extends n.log p.log → GoesAlong t p b m → IsHonest m
      → HaveAnswers answered p.log (calls_in_run run) → Life file first m (sessions_in (ToAMoment answered) run ++ chapters)
  -- or the word `format` was run over it again, or the word `upgrade`, to its end, whatever its status, or up to a moment
  Spared : (file : DataFile) (first : View) (b m t p n : Told) (chapters : List Chapter) → OtherWord t n → Life file first b chapters → NoChanceOf (format file) b.log (now b.log) → Extends n.log p.log → GoesAlong t p b m → IsHonest m → Life file first m chapters
  -- or the machine stopped, after the end of a run or at the moment of which one is told, and left any bytes in the sectors that were loose
  Stopped : (file : DataFile) (first : View) (b : Told) (chapters : List Chapter) (changes : List (ℕ × List ℕ)) → Life file first b chapters → AreLoose b.log.events changes → NoChanceOf (format file) b.log (changed changes (now b.log))
      → Life file first (did (Stop changes) b) chapters

-- ---- the law

-- The file is in order: it is of version 2, the disk is honest and its log is safe, and whatever a stop leaves now, under no chance, has a view that the file may have come to, with
-- each block that it references.
pub record IsInOrder (file : DataFile) (first : View) (chapters : List Chapter) (t : Told) : Type 0 where
  pub version : file.version ≡ VERSION
  pub safe : IsSafeDisk (format file) (shape file) t.log
  pub honest : IsHonest t
  pub left : (image : Image) → IsLeft t.log image → NoChanceOf (format file) t.log image
      → (view : View) × MayHave file first chapters view × Held (shape file) ((format file).unit_at image) view × Stands ((format file).unit_at image) view

-- it may be opened, and the view that an open finds is one that it may have come to, with each block that it references
pub record MayBeOpened (file : DataFile) (first : View) (chapters : List Chapter) (t : Told) : Type 0 where
  pub view : View
  pub had : MayHave file first chapters view
  pub may : MayOpen file view t
  pub stands : Stands (unit_at file.layout file.cluster t.shown) view

-- sessions compose: whatever life a file has had, it is in order
abbrev pub EveryLifeIsInOrder : Type 0
EveryLifeIsInOrder = (file : DataFile) (first : View) (t : Told) (chapters : List Chapter) → Life file first t chapters → IsInOrder file first chapters t

-- and the next open finds what it has come to
abbrev pub EveryLifeGoesOn : Type 0
EveryLifeGoesOn = (file : DataFile) (first : View) (t : Told) (chapters : List Chapter) → Life file first t chapters → NoChanceOf (format file) t.log (now t.log) → MayBeOpened file first chapters t

-- A program that is run over a disk which shows what the file's log tells adds events to what the disk tells, so the log goes along with it; and where it is that log that the disk tells, it
-- comes to what the disk tells then.
abbrev pub EveryRunGoesAlong : Type 0
EveryRunGoesAlong =
    (file : DataFile) (first : View) (b t n : Told) (chapters : List Chapter) → Life file first b chapters → NoChanceOf (format file) b.log (now b.log) → b.shown ≡ t.shown → FileRun t n ⊎ OtherWord t n
    → (m : Told) × GoesAlong t n b m × (b ≡ t → m ≡ n)

-- A life begins at the end of any open that answered, whatever was done to the disk before, with the calls that the program made on it, if any; and its log shows what the disk shows.
abbrev pub EveryOpenBegins : Type 0
EveryOpenBegins =
    (file : DataFile) (first : View) (t n : Told) (served : ServedFile t n) → ShowsFile Whole file first t.shown
    → (m : Told) × Life file first m (chapter_of ToItsEnd t.shown served.made ∷ []) × (m.shown ≡ n.shown)

-- A session in which no call was made leaves what the file may have come to, as one of `recover`, of `scrub` or of a copy of which the file is the source.
abbrev pub IdleSessionsLeaveIt : Type 0
IdleSessionsLeaveIt = (file : DataFile) (first : View) (chapters : List Chapter) (c : Chapter) (view : View) → c.answered ≡ [] → c.perhaps ≡ [] → MayHave file first (c ∷ chapters) view → MayHave file first chapters view
