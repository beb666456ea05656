-- How a file is made: from a blank disk to its first view.
use Rattle.std.specs.Prelude.{◌≡◌, ◌⊎◌, ◌<◌, ℕ, false, List, [], ◌∷◌, ◌++◌, Some, None}
use Rattle.df_theory.specs.{CopyPuts.{PutsCopies, update_steps}, Units.{AnyUnit, Content, CopyPlace, CopyUnit, Header, HeaderPlace, HeaderUnit, Place, Units, IsReserved}, Shape.{Shape}}
use Rattle.df_theory.specs.{Copies.{IsSplit}, View.{View}, Holds.{Held}, UnitLog.{PutsOne, Synced, UnitLog, add, loose, now, wrote}, Chance.{EachLeft, InWrites}}
use Rattle.df_theory.specs.{First.{IsFirst, IsFirstContent, IsMade, ShowsMade}, Grown.{HasMade, IsSafe}, Rests.{IsDry, RestsOn}, Runs.{AtEach, Puts, Step, Syncs, after_steps}}

-- a new disk shows nothing, and nothing has happened
abbrev pub blank_log : UnitLog
blank_log = record { start = λ place. None; events = [] }

-- a file is being made of this superblock: only reserved headers and its copy 0 are shown or being written
pub record IsMaking (sh : Shape) (log : UnitLog) (c : Content) : Type 0 where
  pub being : HasMade sh log c
  pub shows : ShowsMade c (now log)
  pub pending : (place : Place) (x : AnyUnit) → InWrites log.events place x → IsMade c place x
  pub firm : (n : ℕ) → 0 < n → loose log (CopyPlace n) ≡ false
  pub blank : (n : ℕ) → 0 < n → now log (CopyPlace n) ≡ None

-- reserved headers are put
abbrev pub PutsReserved : Units → Type 0
PutsReserved put = (place : Place) (y : AnyUnit) → put place ≡ Some y → (s : ℕ) × (h : Header) × (place ≡ HeaderPlace s) × (y ≡ HeaderUnit h) × IsReserved h

abbrev pub AllReserved : List Units → Type 0
AllReserved [] = Unit {0}
AllReserved (put ∷ puts) = PutsReserved put × AllReserved puts

-- these writes, one after the other
abbrev pub all_puts : List Units → List Step
all_puts [] = []
all_puts (put ∷ puts) = Puts put ∷ all_puts puts

-- what a stop leaves of a file that is being made: it has the first view, or no two copies agree
abbrev pub MayHold : Shape → Units → View → Type 0
MayHold sh image v = Held sh image v ⊎ IsSplit image

-- a blank disk is safe, and a file may be made on it
abbrev pub BlankLaw : Type 0
BlankLaw = (sh : Shape) (c : Content) → IsFirstContent sh c → IsMaking sh blank_log c × IsSafe sh blank_log

-- the second copy gives the file its view
abbrev pub SecondCopyLaw : Type 0
SecondCopyLaw =
    (sh : Shape) (log : UnitLog) (v : View) (put : Units)
    → IsFirst sh v → IsMaking sh log v.checkpoint.content → IsDry log → now log (CopyPlace 0) ≡ Some (CopyUnit v.checkpoint.content) → PutsOne put (CopyPlace 1) (CopyUnit v.checkpoint.content)
    → IsSafe sh (wrote put log) × EachLeft (wrote put log) (λ image. MayHold sh image v) × RestsOn sh (add Synced (wrote put log)) v

-- the header sectors, a sync, and the four copies with a sync after each
abbrev pub format_steps : {c : Content} → List Units → PutsCopies c → List Step
format_steps headers puts = all_puts headers ++ (Syncs ∷ update_steps puts)

-- a file that is made so is safe at each moment, and ends with its first view
abbrev pub FormatLaw : Type 0
FormatLaw =
    (sh : Shape) (log : UnitLog) (v : View) (headers : List Units) (puts : PutsCopies v.checkpoint.content) → IsMaking sh log v.checkpoint.content → IsFirst sh v → AllReserved headers
    → AtEach (IsSafe sh) log (format_steps headers puts) × RestsOn sh (after_steps (format_steps headers puts) log) v

-- a sync keeps a file in its making, as that of a barrier before it was found blank
abbrev pub MakingSyncLaw : Type 0
MakingSyncLaw = (sh : Shape) (log : UnitLog) (c : Content) → IsMaking sh log c → IsMaking sh (add Synced log) c × IsSafe sh log
