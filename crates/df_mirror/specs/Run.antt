-- What the program promises of a mending.
use Rattle.std.specs.Prelude.{◌≡◌, ◌⊎◌, ℕ, List, Option, Some, Result, Ok, Err}
use Rattle.df_base.specs.Log.{Sync}
use Rattle.df_disk.specs.Told.{Told, after, did}
use Rattle.df_inspect.specs.Opening.{open_refusal}
use Rattle.df_model.specs.declared.errors.OpenError.{OpenError}
use Rattle.df_damage.specs.Surveys.{HasFile}
use Rattle.df_opening.specs.Below.{Refuses, shape}
use Rattle.df_mirror.specs.{declared.ending.Ending.{Ending}, declared.ending.Ending.TheVariants.{First, Neither, Second, Sink, Unopened}, declared.status.Status.{Status}}
use Rattle.df_mirror.specs.{declared.superblock.Superblock.{Superblock}, Known.{AllShown, PassesTrailer}, Mends.{AnswersMending, AreInOrder}, Outside.{Outside, PrintsError, Tell, Writes, ended}}
use Rattle.df_mirror.specs.{Texts.{count_text, neither_text}, Walks.{content_of_superblock, superblock_units}}
use Rattle.df_mirror.specs.declared.status.Status.TheVariants as ends

-- ---- a file that isn't mended

-- nothing was done but the barrier, if that
pub record IsUndone (old new : Outside) : Type 0 where
  pub written : new.written ≡ old.written
  pub told : (new.first ≡ old.first) ⊎ (new.first ≡ after Sync old.first)

-- memory was wanting, or the first disk failed before or after the barrier
pub record MirroredNothing (old new : Outside) (status : Status) : Type 0 where
  pub undone : IsUndone old new
  pub why : (status ≡ ends.Memory) ⊎ (status ≡ ends.DiskFault)

-- the superblock that the first file shows can't be used: its refusal is printed, after the barrier
pub record RefusesFirstSuperblock (t : Told) (old new : Outside) (status : Status) : Type 0 where
  pub error : OpenError
  pub is : Refuses t.shown error
  pub prints : Writes ends.WriteFault (open_refusal error) ends.Refused old.written new.written status
  pub barrier : new.first ≡ Some (did Sync t)

-- ---- one that is

-- what is printed last: how many units were mended, or why the run ends; of a fault nothing
abbrev pub TellsEnd : Result ℕ Ending → (old new : Option (List ℕ)) → Status → Type 0
TellsEnd (Ok count) old new status = Writes ends.WriteFault (count_text count) (ended count) old new status
TellsEnd (Err (Neither place class)) old new status = Writes ends.WriteFault (neither_text place class) ends.Refused old new status
TellsEnd (Err (Unopened e)) old new status = PrintsError ends.Refused ends.DiskFault ends.WriteFault e old new status
TellsEnd (Err First) old new status = (status ≡ ends.DiskFault) × (new ≡ old)
TellsEnd (Err Second) old new status = (status ≡ ends.DiskFault) × (new ≡ old)
TellsEnd (Err Sink) old new status = (status ≡ ends.WriteFault) × (new ≡ old)

-- Known units were mended, always the first that wasn't shown; and the line on that is the last. Where no disk and no sink failed and both files together show all that is known, all of it is shown then, and the trailer isn't refused; where it is, blocks of it alone were mended.
pub record Mirrored (b : Superblock) (t o : Told) (old new : Outside) (status : Status) : Type 0 where
  pub text : Option (List ℕ)
  pub result : Result ℕ Ending
  pub answers : AnswersMending b.file (content_of_superblock b) AreInOrder t o new.first old.written text result
  pub shown : (count : ℕ) (n : Told) → result ≡ Ok count → new.first ≡ Some n → AllShown (shape b.file) (superblock_units b n.shown) (content_of_superblock b)
  pub trailer : (count : ℕ) (n : Told) → result ≡ Ok count → new.first ≡ Some n → PassesTrailer (shape b.file) (superblock_units b n.shown) (content_of_superblock b)
  pub tells : TellsEnd result text new.written status

-- the superblock that the first file shows says what is known, and it is mended after the barrier
pub record Mirrors (t o : Told) (old new : Outside) (status : Status) : Type 0 where
  pub base : Superblock
  pub has : HasFile t.shown base.file base.content
  pub mirrored : Mirrored base (did Sync t) o old new status

-- ---- the program

abbrev pub MirrorOutcome : Told → Told → Outside → Outside → Status → Type 0
MirrorOutcome t o old new status = MirroredNothing old new status ⊎ RefusesFirstSuperblock t old new status ⊎ Mirrors t o old new status

abbrev pub RunsMirror : Outside → Outside → Status → Type 0
RunsMirror old new status = (t o : Told) → Tell t o old → MirrorOutcome t o old new status
