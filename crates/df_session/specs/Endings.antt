-- What is heard of an answer, and why a list of calls may end before its last one was answered.
use Rattle.std.specs.Prelude.{◌≡◌, Bool, true, false, if◌then◌else◌, Option, Some, None, Result, Ok, Err}
use Rattle.df_disk.specs.Told.{Told}
use Rattle.df_layout.specs.{declared.damage.Class.{Class}, declared.places.Place.{Place}, declared.places.Zone.TheVariants.{Superblock}}
use Rattle.df_model.specs.{Commands.{Advance, Answer as Answered, Command, Scrub}, declared.commands.Answer.{Answer}}
use Rattle.df_model.specs.declared.commands.Answer.TheVariants as answers
use Rattle.df_model.specs.declared.errors.StepError.TheVariants as step
use Rattle.df_replica.specs.Below.{State as Replica}
use Rattle.df_session.specs.{Calls.{IsExact, is_fault, machine_answer}, Links.{Makes}, declared.hearing.Fault.{Fault}, declared.hearing.Fault.TheVariants.{Disk, Damaged}}

-- ---- what is heard

-- the disk failed
abbrev pub is_disk_fault : Fault → Bool
is_disk_fault Disk = true
is_disk_fault (Damaged place class) = false

-- of an answer, where the disk didn't fail
abbrev pub unless_damaged : Answer → Result Answer Fault
unless_damaged (answers.Advance (Err (step.Damaged place class))) = Err (Damaged place class)
unless_damaged answer = Ok answer

-- the answer itself, or why no call may follow
abbrev pub heard : Answer → Result Answer Fault
heard answer = if is_fault answer then Err Disk else unless_damaged answer

-- ---- why calls end

-- The superblock that a step wrote isn't read back as it was written: the place is that of the first copy that isn't. Over a disk that tells what it shows it never comes.
pub record IsDamagedStep (command : Command) (told : Option Told) (place : Place) (class : Class) : Type 0 where
  pub step : command ≡ Advance
  pub copy : place.zone ≡ Superblock
  pub untold : told ≡ None

-- the disk failed in the last call, or that is a step that is damaged
abbrev pub EndsBy : Fault → Command → Option Told → Type 0
EndsBy Disk command told = Unit {0}
EndsBy (Damaged place class) command told = IsDamagedStep command told place class

-- ---- one call

-- it was made, and answered: exactly so, and the machine answers likewise
pub record GivesAnswer (command : Command) (s t : Replica) (old new : Option Told) (answer : Answer) : Type 0 where
  pub exact : IsExact command s t old new answer
  pub told : Answered
  pub in_words : machine_answer answer ≡ Some told
  pub makes : Makes command s t old new (Some told)

-- it was made, and this was heard of it: its answer, or it has none, and this ends the calls
abbrev pub MakesTo : Command → (s t : Replica) → (old new : Option Told) → Result Answer Fault → Type 0
MakesTo command s t old new (Ok answer) = GivesAnswer command s t old new answer
MakesTo command s t old new (Err fault) = Makes command s t old new None × EndsBy fault command new

-- a check in which the disk failed leaves the scrubber's tour where it was
abbrev pub KeepsTour : Command → (s t : Replica) → Result Answer Fault → Type 0
KeepsTour Scrub s t (Err fault) = t.tour ≡ s.tour
KeepsTour command s t result = Unit {0}
