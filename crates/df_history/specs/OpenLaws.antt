-- What an open gives after damage before any number of opens, and that the history goes on.
use Rattle.std.specs.Prelude.{◌≡◌, ◌⊎◌, ◌<◌, ℕ, List, [], ◌∷◌, ◌++◌, Some, None}
use Rattle.df_theory.specs.{CopyPuts.{PutsCopies, update_steps}, Units.{AnyUnit, Content, CopyPlace, CopyUnit, Header, Place, Units}, Shape.{Shape}, Copies.{IsChosen}, View.{View, boot_of}}
use Rattle.df_theory.specs.{Holds.{Holds}, Next.{IsSameBare, MayBoot, booted}, UnitLog.{UnitLog, now}, Chance.{Distinct}, Grown.{Grown, IsSafe}, Rests.{IsDry, RestsOn}}
use Rattle.df_theory.specs.{Runs.{AtEach, Step, after_steps}, MendLaws.{MayMend, mend_steps}, Found.{AreOfPlaces, IsClean, IsFound}}
use Rattle.df_history.specs.{Lives.{Starts}, Histories.{IsBegunAnew, IsLived, IsLivedMoment, MayStart, WasSince}}

-- an open finds a view that the file had since the last open that raised its boot
abbrev pub FoundSinceLaw : Type 0
FoundSinceLaw = (sh : Shape) (log : UnitLog) (logs : List UnitLog) (shown : Units) (w : View) → IsLived sh (log ∷ logs) → MayStart log logs shown → IsFound sh shown w → WasSince sh (log ∷ logs) w

-- an image that may start the next log: the superblock that is chosen there is that of the view that the log before has now. Beside copy 0 no copy shows a content above it, to which a repair could be misled, and one checksum is one unit
pub record StartsWith (sh : Shape) (log : UnitLog) (image : Units) (c : Content) : Type 0 where
  pub view : View
  pub holds : Holds sh (now log) view
  pub content : c ≡ view.checkpoint.content
  pub clean : (w : View) → w.checkpoint.content ≡ c → IsClean image w
  pub distinct : (place other : Place) (x y : AnyUnit) → image place ≡ Some x → image other ≡ Some y → Distinct x y

abbrev pub ChoiceStaysLaw : Type 0
ChoiceStaysLaw = (sh : Shape) (log : UnitLog) (logs : List UnitLog) (image : Units) (c : Content) → IsLived sh (log ∷ logs) → MayStart log logs image → IsChosen image c → StartsWith sh log image c

-- the log that is begun there rests on the view, and the history with it is lived
abbrev pub BeginsLaw : Type 0
BeginsLaw =
    (sh : Shape) (log : UnitLog) (logs : List UnitLog) (shown : Units) (w : View) → IsLived sh (log ∷ logs) → MayStart log logs shown → AreOfPlaces sh shown → IsFound sh shown w
    → RestsOn sh (record { start = shown; events = [] }) w × IsLivedMoment sh (log ∷ logs) (record { start = shown; events = [] })

-- it stays so at each moment of the mending
abbrev pub MendLivedLaw : Type 0
MendLivedLaw =
    (sh : Shape) (log before : UnitLog) (logs : List UnitLog) (w : View) (table : ℕ → Header) (headers : List Units) (copies : List (ℕ × Units))
    → IsLived sh (log ∷ before ∷ logs) → MayMend sh log w table headers copies
    → AtEach (IsLivedMoment sh (before ∷ logs)) log (mend_steps headers copies)

-- and at each moment of the boot update; at its end the log rests on the same bare view with a raised boot
abbrev pub BootLivedLaw : Type 0
BootLivedLaw =
    (sh : Shape) (log before : UnitLog) (logs : List UnitLog) (w : View) (d : Content) (puts : PutsCopies d)
    → IsLived sh (log ∷ before ∷ logs) → RestsOn sh log w → IsDry log → MayBoot w d
    → ((n : ℕ) → n < 4 → now log (CopyPlace n) ≡ Some (CopyUnit w.checkpoint.content))
    → AtEach (IsLivedMoment sh (before ∷ logs)) log (update_steps puts) × RestsOn sh (after_steps (update_steps puts) log) (booted w d) × IsSameBare w (booted w d)

-- and at each moment of whatever a safe log goes on with, once its boot is raised
abbrev pub AwakeLivedLaw : Type 0
AwakeLivedLaw =
    (sh : Shape) (log before : UnitLog) (logs : List UnitLog) (begun : IsBegunAnew sh log before logs) → IsLived sh (before ∷ logs) → boot_of begun.view < boot_of begun.newest → (ss : List Step)
    → AtEach (IsSafe sh) log ss → AtEach (IsLivedMoment sh (before ∷ logs)) log ss

-- an open: its mending and its boot update, of a log that is restarted
pub record IsOpening (sh : Shape) (shown : Units) (w : View) (table : ℕ → Header) (headers : List Units) (copies : List (ℕ × Units)) (d : Content) : Type 0 where
  pub may_mend : MayMend sh (record { start = shown; events = [] }) w table headers copies
  pub may_boot : MayBoot w d

-- where an open finds a view, the history with its new log is lived at each moment of its mending and its boot update. At the end the log rests on the same bare view, with a raised boot;
-- and so it goes on at each moment of whatever keeps the log safe
abbrev pub OpenLivedLaw : Type 0
OpenLivedLaw =
    (sh : Shape) (log : UnitLog) (logs : List UnitLog) (shown : Units) (w : View) → IsLived sh (log ∷ logs) → MayStart log logs shown → AreOfPlaces sh shown → IsFound sh shown w
    → (table : ℕ → Header) (headers : List Units) (copies : List (ℕ × Units)) (d : Content) (puts : PutsCopies d) → IsOpening sh shown w table headers copies d
    → AtEach (IsLivedMoment sh (log ∷ logs)) (record { start = shown; events = [] }) (mend_steps headers copies ++ update_steps puts)
    × RestsOn sh (after_steps (mend_steps headers copies ++ update_steps puts) (record { start = shown; events = [] })) (booted w d)
    × IsSameBare w (booted w d)
    × ((ss : List Step) → AtEach (IsSafe sh) (after_steps (mend_steps headers copies ++ update_steps puts) (record { start = shown; events = [] })) ss
    → AtEach (IsLivedMoment sh (log ∷ logs)) (after_steps (mend_steps headers copies ++ update_steps puts) (record { start = shown; events = [] })) ss)

-- a log of a lived history that rests on a view: a sync and any stop keep the history lived. So it is after a stop, wherever it fell, and at the barrier of each open, one that refuses too
abbrev pub RestLivedLaw : Type 0
RestLivedLaw = (sh : Shape) (log before : UnitLog) (logs : List UnitLog) (v : View) → IsLived sh (log ∷ before ∷ logs) → RestsOn sh log v → IsLivedMoment sh (before ∷ logs) log

-- a history begins with a log that grew from the empty image, or from one whose units are older than its superblock
abbrev pub BeginsHistory : Shape → Units → Type 0
BeginsHistory sh image = ((place : Place) → image place ≡ None) ⊎ ((w : View) × Holds sh image w × Starts image [] w)

abbrev pub FirstGrownLaw : Type 0
FirstGrownLaw = (sh : Shape) (log : UnitLog) → Grown sh log → BeginsHistory sh log.start → IsLived sh (log ∷ [])

-- and so it is at each moment at which that log is safe
abbrev pub FirstLivedLaw : Type 0
FirstLivedLaw = (sh : Shape) (log : UnitLog) → IsSafe sh log → BeginsHistory sh log.start → IsLivedMoment sh [] log
