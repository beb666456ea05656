-- All that damage can do to the answer of an open: one record for a state that is found, and one for a refusal.
use Rattle.std.specs.Prelude.{◌≡◌, ◌⊎◌, ℕ, Option, Some, Result, Ok, Err}
use Rattle.df_base.specs.Log.{Sync, add}
use Rattle.df_disk.specs.Told.{Told}
use Rattle.df_layout.specs.{declared.layout.Layout.{Layout}, declared.places.Zone.TheVariants.{Superblock, WalHeaders}}
use Rattle.df_model.specs.{Work.{opened}, declared.errors.OpenError.{OpenError}, declared.errors.OpenError.TheVariants.{DiskFault}}
use Rattle.df_theory.specs.{Found.{IsFound}, View.{View}}
use Rattle.df_units.specs.Bytes.{unit_at}
use Rattle.df_recovery.specs.{Surveys.{SurveysAs}, Below.{DataFile, Represents, State, shape}}
use Rattle.df_damage.specs.{Anew.{MayRestart}, Disks.{HasEqualCopies, MayBeHurt, MayBeHurtAs}, Hurt.{HasTwoCopies, IsHurtFile, IsHurtInside, IsUnhurtZone}, Openings.{HasEachHeader}, Past.{WasHad}}
use Rattle.df_damage.specs.{Refusals.{BlamesHurt, MayBeOfDamage}, Versions.{IsUnspent}}

-- what is hurt isn't needed: copies, at most two of four equal ones, or header sectors
abbrev pub IsNeedless : DataFile → Told → Type 0
IsNeedless file t = (HasEqualCopies file t.log × HasTwoCopies t × IsHurtInside file.layout t Superblock) ⊎ IsHurtInside file.layout t WalHeaders

-- a state that is found: it is of this file, and stands for the view that is found in what is shown, which the file had; where that has the file's checkpoint, a log may be restarted there
pub record FindsHad (file : DataFile) (view : View) (t : Told) (s : State) : Type 0 where
  pub of : s.file ≡ file
  pub found : View
  pub is_found : IsFound (shape file) (unit_at file.layout file.cluster t.shown) found
  pub stands : Represents s (opened (shape file) (unit_at file.layout file.cluster t.shown) found)
  pub had : WasHad file (add Sync t.log) found
  pub checkpoint : HasEqualCopies file t.log → HasTwoCopies t → (found.checkpoint ≡ view.checkpoint)
  pub begins : (found.checkpoint ≡ view.checkpoint) → MayRestart file found t.shown
  pub headers : IsUnhurtZone file.layout t WalHeaders → HasEachHeader file t found
  pub whole : IsNeedless file t → (found ≡ view)

-- a refusal: it is of damage, and a sector of the file is hurt; where the four copies were equal and two stand, it blames what is hurt; and it doesn't come where what is hurt isn't needed
pub record RefusesHurt (file : DataFile) (view : View) (t : Told) (e : OpenError) : Type 0 where
  pub damage : MayBeOfDamage e
  pub hurt : IsHurtFile file.layout t
  pub blames : HasEqualCopies file t.log → HasTwoCopies t → BlamesHurt file view t e
  pub needed : IsNeedless file t → ⊥

-- the answer of an open with rooms of the file's layout, a fault of the disk in the open itself aside
abbrev pub AnswersHurt : DataFile → View → Told → Result State OpenError → Type 0
AnswersHurt file view t (Ok s) = FindsHad file view t s
AnswersHurt file view t (Err e) = (e ≡ DiskFault → ⊥) → RefusesHurt file view t e

-- so it is answered of each disk that may be hurt
abbrev pub AnswerIsOfHurt : Type 0
AnswerIsOfHurt =
    (version : ℕ) (file : DataFile) (view : View) (t : Told) (result : Result State OpenError) → MayBeHurtAs version file view t → IsUnspent version view → SurveysAs version file.layout t.shown result → AnswersHurt file view t result

-- so a survey with rooms of this layout answers, which asks for version 2, where the disk tells what it shows
abbrev pub TellsHurt : Layout → Option Told → Result State OpenError → Type 0
TellsHurt layout told result = (file : DataFile) (view : View) (t : Told) → told ≡ Some t → layout ≡ file.layout → MayBeHurt file view t → IsUnspent 2 view → AnswersHurt file view t result
