-- Histories: a list of logs, the newest first, each restarted at the image that an open found.
use Rattle.std.specs.Prelude.{◌≡◌, ◌⊎◌, ◌<◌, ℕ, List, [], ◌∷◌, ◌++◌, Some, None}
use Rattle.df_theory.specs.{Units.{AnyUnit, Content, CopyPlace, CopyUnit, Place, Units}, Shape.{Shape}, Copies.{Agree}, View.{View, boot_of}, Holds.{Holds}, Next.{IsSameBare}}
use Rattle.df_theory.specs.{UnitLog.{IsLeftBy, Stopped, Synced, UnitLog, add, now, settled}, Chance.{AreFair, Distinct, InPool, InPools, InWrites, NoChance}}
use Rattle.df_theory.specs.Grown.{AllInHistory, GoesOn, Grown, HasGrown}
use Rattle.df_history.specs.Lives.{Starts}

-- ---- what was settled, and what may show up

-- all settled images of the logs, the newest first
abbrev pub all_settled : List UnitLog → List Units
all_settled [] = []
all_settled (log ∷ logs) = settled log ++ all_settled logs

-- the pools of the logs together
abbrev pub InHistoryPool : List UnitLog → Place → AnyUnit → Type 0
InHistoryPool [] place x = ⊥
InHistoryPool (log ∷ logs) place x = InPool log place x ⊎ InHistoryPool logs place x

abbrev pub InHistoryPools : List UnitLog → Place → AnyUnit → Type 0
InHistoryPools [] place x = ⊥
InHistoryPools (log ∷ logs) place x = InPools log.start log.events place x ⊎ InHistoryPools logs place x

-- no unit of this image came about by chance, and no two units of the pools have one checksum
pub record NoChanceOver (logs : List UnitLog) (image : Units) : Type 0 where
  pub pooled : (place : Place) (x : AnyUnit) → image place ≡ Some x → InHistoryPool logs place x
  pub distinct : (place other : Place) (x y : AnyUnit) → InHistoryPools logs place x → InHistoryPools logs other y → Distinct x y

-- ---- where a log restarts

-- nothing is loose: the image as it is now is settled, and nothing is being written. So it is after a sync, as after the barrier of an open, and after a stop
pub record IsSettled (log : UnitLog) : Type 0 where
  pub older : List Units
  pub newest : settled log ≡ now log ∷ older
  pub writes : (place : Place) (x : AnyUnit) → InWrites log.events place x → ⊥

-- four equal copies, of which two are left
pub record KeepsTwo (was image : Units) : Type 0 where
  pub content : Content
  pub four : (n : ℕ) → n < 4 → was (CopyPlace n) ≡ Some (CopyUnit content)
  pub agreed : Agree image content

-- at most two superblock copies are hurt, and none where the four weren't equal
abbrev pub MayHurtCopies : Units → Units → Type 0
MayHurtCopies was image = ((n : ℕ) → n < 4 → image (CopyPlace n) ≡ was (CopyPlace n)) ⊎ KeepsTwo was image

-- the image may start the next log: it shows nothing by chance, and of the copies enough is left
pub record MayStart (before : UnitLog) (logs : List UnitLog) (image : Units) : Type 0 where
  pub settled_is : IsSettled before
  pub chance : NoChanceOver (before ∷ logs) image
  pub copies : MayHurtCopies (now before) image

-- where the boot is still that of the start, the next settled image has the same bare view
abbrev pub StaysBare : Shape → ℕ → List Units → Type 0
StaysBare sh b [] = Unit {0}
StaysBare sh b (j ∷ []) = Unit {0}
StaysBare sh b (j ∷ i ∷ images) = ((u v : View) → Holds sh i u → Holds sh j v → boot_of u ≡ b → IsSameBare u v) × StaysBare sh b (i ∷ images)

-- the images of a log that was restarted after these images: each has a view, next to the one before it, and shows units of the history or of its view, or what survived of it; what was settled before counts as in one log
abbrev pub GrowsOn : Shape → List Units → List Units → View → Type 0
GrowsOn sh rest [] v = ⊥
GrowsOn sh rest (image ∷ []) v = Holds sh image v
GrowsOn sh rest (image ∷ before ∷ images) v = Holds sh image v × AllInHistory ((before ∷ images) ++ rest) image v × ((u : View) × GoesOn ((before ∷ images) ++ rest) u v × GrowsOn sh rest (before ∷ images) u)

-- a log that was restarted after these logs: it grew, and its bare view stayed until its boot was raised
pub record IsBegunAnew (sh : Shape) (log before : UnitLog) (logs : List UnitLog) : Type 0 where
  pub start : MayStart before logs log.start
  pub view : View
  pub holds : Holds sh log.start view
  pub newest : View
  pub fair : AreFair log.start log.events
  pub grows : GrowsOn sh (all_settled (before ∷ logs)) (settled log) newest
  pub stays : StaysBare sh (boot_of view) (settled log)

-- the first log begins with the empty image, or with one whose units are all older than its superblock, as an upgrade leaves it
abbrev pub IsFirstLog : Shape → UnitLog → Type 0
IsFirstLog sh log = (Grown sh log × ((place : Place) → log.start place ≡ None)) ⊎ ((w v : View) × Holds sh log.start w × Starts log.start [] w × HasGrown sh log v)

-- what damage before any number of opens leaves true
abbrev pub IsLived : Shape → List UnitLog → Type 0
IsLived sh [] = ⊥
IsLived sh (log ∷ []) = IsFirstLog sh log
IsLived sh (log ∷ before ∷ logs) = IsBegunAnew sh log before logs × IsLived sh (before ∷ logs)

-- a moment of the newest log: the history is lived, and still so after a sync and after any stop
pub record IsLivedMoment (sh : Shape) (logs : List UnitLog) (log : UnitLog) : Type 0 where
  pub lived : IsLived sh (log ∷ logs)
  pub synced : IsLived sh (add Synced log ∷ logs)
  pub stopped : (image : Units) → IsLeftBy log image → NoChance log image → IsLived sh (add (Stopped image) log ∷ logs)

-- ---- since when

abbrev pub Among : List Units → Units → Type 0
Among [] image = ⊥
Among (i ∷ images) image = (image ≡ i) ⊎ Among images image

-- a settled image of the log had this view
abbrev pub HadBy : Shape → UnitLog → View → Type 0
HadBy sh log w = (image : Units) × Among (settled log) image × Holds sh image w

-- a settled image of the log has a boot above that of its start
abbrev pub RaisesBoot : Shape → UnitLog → Type 0
RaisesBoot sh log = (image : Units) × Among (settled log) image × (s u : View) × Holds sh log.start s × Holds sh image u × (boot_of s < boot_of u)

-- a settled image had this view, of the last log that raised its boot or of a later one, or of any log where none did
abbrev pub WasSince : Shape → List UnitLog → View → Type 0
WasSince sh [] w = ⊥
WasSince sh (log ∷ logs) w = HadBy sh log w ⊎ ((RaisesBoot sh log → ⊥) × WasSince sh logs w)
