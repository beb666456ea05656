-- A history that meets every premise: a file is made and opened, a prepare is appended, its every trace is lost, and the file is opened again.
use Rattle.std.specs.Prelude.{◌≡◌, ◌<◌, ◌+◌, ℕ, List, [], ◌∷◌, ◌++◌, Some, None}
use Rattle.df_theory.specs.{CopyPuts.{PutsCopies, update_steps}, Units.{Content, CopyPlace, CopyUnit, Header, HeaderPlace, HeaderUnit, Message, PreparePlace, PrepareUnit, Units}, Tails.{In}}
use Rattle.df_theory.specs.{Shape.{Shape}, View.{View, boot_of, head}, UnitLog.{UnitLog, now}, Grown.{IsSafe}, Rests.{RestsOn}, Runs.{AtEach, Step, after_steps}, MendLaws.{mend_steps}}
use Rattle.df_theory.specs.Found.{AreOfPlaces, IsFound}
use Rattle.df_history.specs.{Histories.{IsLived, MayStart, WasSince}, OpenLaws.{IsOpening}}

pub record HistorySampleLaw : Type 0 where
  pub shape : Shape
  pub made : UnitLog
  pub second : UnitLog
  pub kept : View
  pub shown : Units
  pub found : View
  pub third : UnitLog
  pub next : View
  pub lived : IsLived shape (second ∷ made ∷ [])
  pub rests : RestsOn shape second kept
  pub start : MayStart second (made ∷ []) shown
  pub finds : IsFound shape shown found
  pub lost : (head found + 1 ≡ head kept) × (boot_of found ≡ boot_of kept)
  pub had : WasSince shape (second ∷ made ∷ []) found
  pub goes : IsLived shape (third ∷ second ∷ made ∷ [])
  pub rests_next : RestsOn shape third next
  pub raised : (boot_of next ≡ boot_of found + 1) × (head next ≡ head found)

-- and one in which a survivor is passed over: a file is made and opened, and stopped within a group of two, of which the second one alone is left. The file is opened again, and the ops of the group are written anew. Every trace of these is lost, the survivor is shown again, and an open finds what was had after the last boot update
pub record PassedSampleLaw : Type 0 where
  pub shape : Shape
  pub made : UnitLog
  pub stopped : UnitLog
  pub view : View
  pub survivor : Message
  pub again : UnitLog
  pub kept : View
  pub shown : Units
  pub found : View
  pub lived : IsLived shape (stopped ∷ made ∷ [])
  pub start : MayStart stopped (made ∷ []) (now stopped)
  pub finds : IsFound shape (now stopped) view
  pub survives : (now stopped (PreparePlace 2) ≡ Some (PrepareUnit survivor)) × (head view < survivor.header.op) × (survivor.header.boot ≡ boot_of view)
  pub goes : IsLived shape (again ∷ stopped ∷ made ∷ [])
  pub rests : RestsOn shape again kept
  pub anew : (p : Message) × In p kept.tail × (p.header.op ≡ survivor.header.op) × (survivor.header.boot < p.header.boot)
  pub next_start : MayStart again (stopped ∷ made ∷ []) shown
  pub shows : (shown (PreparePlace 2) ≡ Some (PrepareUnit survivor)) × (head found < survivor.header.op)
  pub next_finds : IsFound shape shown found
  pub had : WasSince shape (again ∷ stopped ∷ made ∷ []) found

-- ---- and one that is damaged and opened three times

-- the log that an open begins at this image, after its mending and its boot update
abbrev pub opened : (d : Content) → Units → List Units → List (ℕ × Units) → PutsCopies d → UnitLog
opened d shown headers copies puts = after_steps (mend_steps headers copies ++ update_steps puts) (record { start = shown; events = [] })

-- a damaged file is opened again, and goes on: the premises of the laws on opens are met, and so is what they say
pub record IsReopened (sh : Shape) (logs : List UnitLog) (log : UnitLog) (shown : Units) (found : View) (next : UnitLog) (kept : View) : Type 0 where
  pub start : MayStart log logs shown
  pub places : AreOfPlaces sh shown
  pub finds : IsFound sh shown found
  pub had : WasSince sh (log ∷ logs) found
  pub table : ℕ → Header
  pub headers : List Units
  pub copies : List (ℕ × Units)
  pub content : Content
  pub puts : PutsCopies content
  pub opening : IsOpening sh shown found table headers copies content
  pub steps : List Step
  pub safe : AtEach (IsSafe sh) (opened content shown headers copies puts) steps
  pub next_is : next ≡ after_steps steps (opened content shown headers copies puts)
  pub lived : IsLived sh (next ∷ log ∷ logs)
  pub rests : RestsOn sh next kept

-- a file is made and opened, and a prepare appended. Its every trace is lost; the file is opened, and its op is appended anew. Two copies are lost and its header goes back to the one before; the file is opened, and mended.
-- The same two copies go back to an older superblock, and the header to that of the prepare that was lost at first; the file is opened, and mended again
pub record ThriceSampleLaw : Type 0 where
  pub shape : Shape
  pub made : UnitLog
  pub second : UnitLog
  pub third : UnitLog
  pub fourth : UnitLog
  pub fifth : UnitLog
  pub appended : View
  pub bare : View
  pub kept : View
  pub raised : View
  pub last : View
  pub lost : Units
  pub hurt : Units
  pub struck : Units
  pub old : Message
  pub anew : Message
  pub lived : IsLived shape (second ∷ made ∷ [])
  pub rests : RestsOn shape second appended
  pub once : IsReopened shape (made ∷ []) second lost bare third kept
  pub twice : IsReopened shape (second ∷ made ∷ []) third hurt kept fourth raised
  pub thrice : IsReopened shape (third ∷ second ∷ made ∷ []) fourth struck raised fifth last
  pub tails : (appended.tail ≡ old ∷ []) × (bare.tail ≡ []) × (kept.tail ≡ anew ∷ []) × (raised.tail ≡ anew ∷ []) × (last.tail ≡ anew ∷ [])
  pub boots : (boot_of bare ≡ 1) × (boot_of kept ≡ 2) × (boot_of raised ≡ 3) × (boot_of last ≡ 4)
  pub one_op : (old.header.op ≡ anew.header.op) × (old.header.boot < anew.header.boot)
  pub hurt_copies : (hurt (CopyPlace 2) ≡ None) × (hurt (CopyPlace 3) ≡ None)
  pub struck_copies : (c : Content) × (c.boot < boot_of raised) × (struck (CopyPlace 2) ≡ Some (CopyUnit c)) × (struck (CopyPlace 3) ≡ Some (CopyUnit c))
  pub struck_header : struck (HeaderPlace 1) ≡ Some (HeaderUnit old.header)
