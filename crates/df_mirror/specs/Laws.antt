-- What a list of mends leaves true of the first file, whatever it is and wherever a stop falls.
use Rattle.std.specs.Prelude.{◌≡◌, ◌⊎◌, ◌<◌, ◌≤◌, ◌++◌, ℕ, true, List, [], ◌∷◌, Option, Some}
use Rattle.df_base.specs.{Image.{Image, IsImage}, Log.{Event, IsLeft, Log, Sync, now}, Moments.{EachMoment}}
use Rattle.df_disk.specs.{Adds.{after_all}, Told.{IsHonest, Told, did}}
use Rattle.df_format.specs.declared.kind.Kind.{Kind}
use Rattle.df_theory.specs.{Chance.{Distinct}, Copies.{IsChosen}, Found.{IsFound}, Shape.{Shape}, Units.{AnyUnit, Content, Message, Place, ReplyPlace, ReplyUnit, Units}, View.{View, boot_of, head}}
use Rattle.df_history.specs.Histories.{InHistoryPool, InHistoryPools, NoChanceOver}
use Rattle.df_units.specs.Bytes.{has}
use Rattle.df_damage.specs.{Anew.{IsStill, restarted, told_after}, Histories.{HasRaised, MayReopen, units_logs}, Hurt.{IsUnhurt}, Unrefused.{IsNotRefused}, Versions.{IsUnspent}}
use Rattle.df_opening.specs.Below.{DataFile, shape}
use Rattle.df_mirror.specs.{declared.status.Status.{Status}, declared.status.Status.TheVariants.{Done, Found}, Known.{AllShown, IsKnownAt, IsShownAs, rank_of_kind}}
use Rattle.df_mirror.specs.{Mends.{AreInOrder, AreMends, IsMend, Mend, mirrored_events, units_shown}, Outside.{Outside, Tell}, Run.{Mirrors}, Walks.{content_of_superblock}}

-- mends of what mends left go on with them
abbrev pub MendsGoOn : Type 0
MendsGoOn =
    (file : DataFile) (c : Content) (second : Image) (t : Told) (ms later : List Mend) → AreMends file c second t ms → AreMends file c second (told_after (mirrored_events file ms) t) later
    → AreMends file c second t (ms ++ later)

-- of two units that are mended one after the other the kind of the first is no later
abbrev pub UnitsComeInOrder : Type 0
UnitsComeInOrder = (front between back : List Mend) (m n : Mend) → AreInOrder (front ++ m ∷ between ++ n ∷ back) → rank_of_kind m.kind ≤ rank_of_kind n.kind

-- each known unit that an image shows is shown by the other one
abbrev pub KeepsShown : DataFile → Content → (image other : Image) → Type 0
KeepsShown file c image other =
    (kind : Kind) (place : Place) (sum : ℕ) → IsKnownAt (shape file) (units_shown file image) c kind place sum → IsShownAs (units_shown file image) kind place sum → IsShownAs (units_shown file other) kind place sum

-- each image that a stop may leave at this moment shows them
abbrev pub LeavesKnownShown : DataFile → Content → Image → Log → Type 0
LeavesKnownShown file c image log = (left : Image) → IsLeft log left → KeepsShown file c image left

-- At every moment each known unit that was shown is still shown, in what the disk shows and in whatever a stop leaves: those that are known and shown after some of the mends are shown through all that come later. The log is any over which the disk is
-- honest and of which nothing is loose, as the one that is restarted after the barrier.
abbrev pub KnownStays : Type 0
KnownStays =
    (file : DataFile) (c : Content) (second : Image) (t u : Told) (ms later : List Mend) → IsHonest t → IsStill t.log → IsImage t.shown → AreMends file c second t (ms ++ later) → u ≡ told_after (mirrored_events file ms) t
    → EachMoment u.log (told_after (mirrored_events file later) u).log (LeavesKnownShown file c u.shown)

-- What a run does after its barrier, by the log that begins there: these are mended, and then a part of one more is written, or none. From each whole mend on, and from the barrier on, the units that are known and shown then are shown, in whatever a stop leaves.
pub record KeepsKnown (file : DataFile) (c : Content) (t : Told) (new : Option Told) : Type 0 where
  pub mends : List Mend
  pub part : List Event
  pub told : new ≡ after_all (mirrored_events file mends ++ part) (Some (did Sync t))
  pub moments : (front back : List Mend) (u : Told) → mends ≡ front ++ back → u ≡ told_after (mirrored_events file front) (restarted t) → EachMoment u.log (told_after (mirrored_events file back ++ part) u).log (LeavesKnownShown file c u.shown)

-- So it is in each run, however it ends.
abbrev pub RunKeepsKnown : Type 0
RunKeepsKnown = (t o : Told) (old new : Outside) (status : Status) (is : Mirrors t o old new status) → Tell t o old → KeepsKnown is.base.file (content_of_superblock is.base) t new.first

-- Under no chance a mended unit is the one that was written there: where an image shows it at its place, as the second file's does, and the first one's after its write, it was written there in the history; and no other unit of its kind with its checksum
-- was ever written anywhere.
abbrev pub MendedWasWritten : Type 0
MendedWasWritten =
    (file : DataFile) (c : Content) (shown second image : Image) (logs : List Log) (m : Mend) → IsMend file c shown second m → units_shown file image m.place ≡ Some m.unit → NoChanceOver (units_logs file logs) (units_shown file image)
    → InHistoryPool (units_logs file logs) m.place m.unit × ((other : Place) (y : AnyUnit) → InHistoryPools (units_logs file logs) other y → Distinct y m.unit)

-- ---- what an open finds then

-- the sector is one of a place at which a unit is known
pub record IsOfKnown (file : DataFile) (c : Content) (image : Image) (sector : ℕ) : Type 0 where
  pub kind : Kind
  pub place : Place
  pub sum : ℕ
  pub known : IsKnownAt (shape file) (units_shown file image) c kind place sum
  pub has_it : has file.layout place sector ≡ true

-- whatever is hurt is a sector of the superblock, or of a unit that is known of what the log leaves
abbrev pub IsHurtKnown : DataFile → Content → Told → Type 0
IsHurtKnown file c t = (sector : ℕ) → IsUnhurt t sector ⊎ ((sector < 4) ⊎ IsOfKnown file c (now t.log) sector)

-- the newest log of a history is its first one, or its boot was raised since it began: so it is wherever the last open came to its end
abbrev pub HasWoken : DataFile → Log → List Log → Type 0
HasWoken file log [] = Unit {0}
HasWoken file log (before ∷ logs) = HasRaised file log before logs

-- No reply above those that the superblock records came back: each of its boot that is shown is of an op that the view has answered, no later than its head, and where the reply of its slot's session is stored it is that one. More isn't asked of
-- the slot of a session that still waits for its reply.
abbrev pub NoneCameBack : View → Units → Type 0
NoneCameBack view shown =
    (k : ℕ) (r : Message) → shown (ReplyPlace k) ≡ Some (ReplyUnit r) → r.header.boot ≡ boot_of view → view.checkpoint.content.replies < r.header.op
    → (r.header.op ≤ view.replies) × (r.header.mark ≤ head view) × ((stored : Message) → view.stored k ≡ Some stored → r ≡ stored)

-- that is necessary: it is so wherever an open finds the view
abbrev pub FoundHasNoneBack : Type 0
FoundHasNoneBack = (sh : Shape) (shown : Units) (view : View) → IsFound sh shown view → NoneCameBack view shown

-- and it is so where the view was found, and each reply of its boot above the recorded ones was left there
abbrev pub LeftIsNoneBack : Type 0
LeftIsNoneBack =
    (sh : Shape) (was shown : Units) (view : View) → IsFound sh was view
    → ((k : ℕ) (r : Message) → shown (ReplyPlace k) ≡ Some (ReplyUnit r) → r.header.boot ≡ boot_of view → view.checkpoint.content.replies < r.header.op → was (ReplyPlace k) ≡ Some (ReplyUnit r))
    → NoneCameBack view shown

-- Over a lived history nothing was hurt but the sectors of known units and what of the superblock an open may miss, and no unit of what is shown at the end came about by chance. Then the next open, with rooms of the file's layout, finds the view that the log
-- left, and isn't refused. So it is where the last open had come to its end. Where it was stopped before it raised the boot, a reply may come back that it hadn't found, of the superblock's boot and above those that are recorded: it hides the recorded one of
-- its slot, which isn't known then. It may be the only trace of a prepare that was acknowledged; so nothing is written over it, and the next open refuses. Where none came back the law holds too.
abbrev pub MirroredIsOpened : Type 0
MirroredIsOpened =
    (file : DataFile) (view : View) (c : Content) (second : Image) (t n : Told) (logs : List Log) (ms : List Mend)
    → IsFound (shape file) (units_shown file (now t.log)) view → IsUnspent 2 view → IsHurtKnown file view.checkpoint.content t → MayReopen file t.log logs n.shown
    → HasWoken file t.log logs ⊎ NoneCameBack view (units_shown file n.shown)
    → IsImage t.shown → IsChosen (units_shown file t.shown) c → AreMends file c second (did Sync t) ms → n ≡ told_after (mirrored_events file ms) (did Sync t) → AllShown (shape file) (units_shown file n.shown) c
    → IsFound (shape file) (units_shown file n.shown) view × IsNotRefused file n.shown

-- So it is after each run of the program that ends as Done or Found, of the file that the first file's superblock names, by any lived history of it. The history's newest log shows what the disk shows, whatever the disk tells beside it: it may be
-- the told one, or one that was restarted where the file was last opened after damage.
abbrev pub MendedIsOpened : Type 0
MendedIsOpened =
    (view : View) (base t o n : Told) (logs : List Log) (old new : Outside) (status : Status) (is : Mirrors t o old new status) → Tell t o old → base.shown ≡ t.shown → (status ≡ Done) ⊎ (status ≡ Found) → new.first ≡ Some n
    → IsFound (shape is.base.file) (units_shown is.base.file (now base.log)) view → IsUnspent 2 view → IsHurtKnown is.base.file view.checkpoint.content base → MayReopen is.base.file base.log logs n.shown
    → HasWoken is.base.file base.log logs ⊎ NoneCameBack view (units_shown is.base.file n.shown)
    → IsFound (shape is.base.file) (units_shown is.base.file n.shown) view × IsNotRefused is.base.file n.shown
