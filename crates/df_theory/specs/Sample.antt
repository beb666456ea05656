-- Files that meet every premise: one is made and each kind of command done to it, one is stopped within an append, one within an update and mended, and one has a hurt place.
use Rattle.std.specs.Prelude.{◌≡◌, ◌<◌, ◌+◌, ℕ, List, [], length, Some, None}
use Rattle.df_base.specs.declared.TheConstants.{FIRST_VERSION}
use Rattle.df_theory.specs.{Units.{Units, Content, CopyPlace, CopyUnit, Header, Message, Place, PreparePlace, PrepareUnit}, Tails.{In}, Shape.{Shape}, View.{View, head, sequence}, Holds.{Holds}}
use Rattle.df_theory.specs.{UnitLog.{IsLeftBy, UnitLog, add, Stopped, now}, Chance.{NoChance}, Grown.{IsSafe}, Rests.{RestsOn}, Runs.{AtEach, Command, Step, after_steps, view_after}}
use Rattle.df_theory.specs.{Copies.{Agree, rank_of}, Opens.{Damaged, Opens, Refused}, MendLaws.{MayMend}, MakingLaws.{blank_log}, Next.{booted}, Found.{IsClean, IsFound}}
use Rattle.df_theory.specs.{Upgrades.{MayRaise, of_version}, WholeLaws.{IsStanding}, TidyLaws.{IsTidy, KeepStanding, LeadTidily}}

-- a file is made, safe at each moment, and each kind of command is done to it, from one tidy state to the next, while the referenced blocks stand: it ends with a tail, a stored reply, a second checkpoint and a reference
pub record SampleLaw : Type 0 where
  pub shape : Shape
  pub first : View
  pub format : List Step
  pub commands : List Command
  pub safe : AtEach (IsSafe shape) blank_log format
  pub tidy : IsTidy shape (after_steps format blank_log) first
  pub standing : IsStanding (after_steps format blank_log) first
  pub lead : LeadTidily shape (after_steps format blank_log) first commands
  pub keep : KeepStanding shape (after_steps format blank_log) first commands
  pub some : (0 < length (view_after first commands).tail) × (0 < (view_after first commands).replies) × (sequence (view_after first commands) ≡ 2) × ((a : ℕ) × (c : ℕ) × ((view_after first commands).checkpoint.parts.references a ≡ Some c))

-- and a stop within an append: the log is safe, and of two images that the stop may leave, neither by chance, one holds the view before and the other the view after
pub record StopSampleLaw : Type 0 where
  pub shape : Shape
  pub log : UnitLog
  pub view : View
  pub next : View
  pub before : Units
  pub after : Units
  pub safe : IsSafe shape log
  pub before_left : IsLeftBy log before × NoChance log before × Holds shape before view
  pub after_left : IsLeftBy log after × NoChance log after × Holds shape after next
  pub one_more : head next ≡ head view + 1

-- and a stop within an update: what it leaves has copy 0 of the next content and copy 1 torn, holds the old view, and may be mended to a tidy file
pub record UpdateSampleLaw : Type 0 where
  pub shape : Shape
  pub log : UnitLog
  pub view : View
  pub next : View
  pub image : Units
  pub safe : IsSafe shape log
  pub left : IsLeftBy log image × NoChance log image × Holds shape image view
  pub copies : (image (CopyPlace 0) ≡ Some (CopyUnit next.checkpoint.content)) × (image (CopyPlace 1) ≡ None) × (sequence next ≡ sequence view + 1)
  pub table : ℕ → Header
  pub mends : List (ℕ × Units)
  pub may : MayMend shape (add (Stopped image) log) view table [] mends

-- and a file, of which nothing is loose, with a hurt place: the slot of its only prepare shows nothing, the header tells, and the open refuses, naming that slot
pub record HurtSampleLaw : Type 0 where
  pub shape : Shape
  pub log : UnitLog
  pub view : View
  pub shown : Units
  pub rests : RestsOn shape log view
  pub chance : NoChance log shown
  pub agreed : Agree shown view.checkpoint.content
  pub hurt : (place : Place) → (place ≡ PreparePlace 1 → ⊥) → shown place ≡ now log place
  pub refuses : Opens shape shown (Refused (Damaged (PreparePlace 1)))

-- and a stop within a group of two: what it leaves shows the second one above the head and holds the view before the group; the boot is raised, and a group writes that op anew
pub record SurvivorSampleLaw : Type 0 where
  pub shape : Shape
  pub log : UnitLog
  pub view : View
  pub image : Units
  pub survivor : Message
  pub safe : IsSafe shape log
  pub left : IsLeftBy log image × NoChance log image × Holds shape image view
  pub shows : (image (PreparePlace 2) ≡ Some (PrepareUnit survivor)) × (head view < survivor.header.op)
  pub rests : RestsOn shape (add (Stopped image) log) view
  pub commands : List Command
  pub lead : LeadTidily shape (add (Stopped image) log) view commands
  pub anew : (p : Message) × In p (view_after view commands).tail × (p.header.op ≡ survivor.header.op) × (survivor.header.boot < p.header.boot)

-- and a file of version 1 of which copy 2 shows a later content without a second vote: it may be upgraded. A stop within copy 2 of the update may leave that content there once more: the view is found, by version 2, and the next log doesn't begin clean
pub record UpgradeSampleLaw : Type 0 where
  pub shape : Shape
  pub image : Units
  pub view : View
  pub above : Content
  pub next : Content
  pub table : ℕ → Header
  pub mends : List (ℕ × Units)
  pub version : shape.version ≡ FIRST_VERSION
  pub may : MayRaise shape 2 image view table [] mends next
  pub shows : (image (CopyPlace 2) ≡ Some (CopyUnit above)) × (rank_of view.checkpoint.content < rank_of above)
  pub unclean : IsClean image view → ⊥
  pub log : UnitLog
  pub left : Units
  pub is_left : IsLeftBy log left × NoChance log left
  pub found : IsFound (of_version 2 shape) left (booted view next)
  pub dirty : (left (CopyPlace 2) ≡ Some (CopyUnit above)) × (IsClean left (booted view next) → ⊥)
