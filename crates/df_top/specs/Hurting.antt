-- What a word does with a file that may be hurt: sectors of it were damaged, lost or swapped before the open.
use Rattle.std.proofs.Common.{inl, inr}
use Rattle.std.specs.Prelude.{◌≡◌, ◌⊎◌, ◌<◌, ℕ, Some}
use Rattle.df_base.specs.declared.TheConstants.{GREATEST}
use Rattle.df_disk.specs.Told.{Told}
use Rattle.df_layout.specs.declared.layout.Layout.{Layout}
use Rattle.df_theory.specs.View.{View, boot_of}
use Rattle.df_model.specs.Work.{Work}
use Rattle.df_session.specs.{Begun.{begun_work}, Below.{DataFile, FindsHad, IsNeedless, RefusesHurt, HasEqualCopies, MayBeHurt, HasTwoCopies, IsHurtFile, MayBeOfDamage}, Found.{FoundFile}}
use Rattle.df_session.specs.Owning.{ReadsOwn}
use Rattle.df_top.specs.{Acknowledging.{run_calls, script_calls}, Outside.{Outside}, Run.{ComesTo, DidNothing, Does, RefusesSuperblockAs, Works}, declared.mode.Mode.{Mode}}
use Rattle.df_top.specs.{declared.mode.Mode.TheVariants.{Run, Workload, Paced}, declared.status.Status.{Status}}

-- ---- a word

-- the reads of a word's calls give what is the state's own
abbrev pub WordReadsOwn : (mode : Mode) → (layout : Layout) → (t : Told) → (found : FoundFile layout t) → (old new : Outside) → (status : Status) → Works mode layout t found old new status → Work → Type 0
WordReadsOwn Run layout t found old new status serves w = ReadsOwn (script_calls serves.session) w
WordReadsOwn (Paced pace) layout t found old new status serves w = ReadsOwn (script_calls serves.session) w
WordReadsOwn (Workload seed count) layout t found old new status works w = ReadsOwn (run_calls works.worked) w
WordReadsOwn mode layout t found old new status works w = Unit {0}

-- what becomes of the file is of damage: a refusal has its cause in a sector that is hurt, and the state that is found is one that the file had, from which on, after its boot update,
-- the reads give what is their own
abbrev pub ComesOfHurt : (file : DataFile) → (view : View) → (t : Told) → (layout : Layout) → (mode : Mode) → (old new : Outside) → (status : Status) → ComesTo mode layout t old new status → Type 0
ComesOfHurt file view t layout mode old new status (inl refuses) = RefusesHurt file view t refuses.error
ComesOfHurt file view t layout mode old new status (inr (inl fails)) = Unit {0}
ComesOfHurt file view t layout mode old new status (inr (inr works)) =
    (finds : FindsHad file view t works.0.found) × WordReadsOwn mode layout t works.0 old new status works.1 (begun_work file t.shown finds.found)

abbrev pub IsOfHurt : (file : DataFile) → (view : View) → (t : Told) → (layout : Layout) → (mode : Mode) → (old new : Outside) → (status : Status) → Does mode layout t old new status → Type 0
IsOfHurt file view t layout mode old new status does = ComesOfHurt file view t layout mode old new status does.1

-- it does something, and whatever it does is that
pub record ServesHurt (file : DataFile) (view : View) (t : Told) (mode : Mode) (old new : Outside) (status : Status) : Type 0 where
  pub does : Does mode file.layout t old new status
  pub of_hurt : IsOfHurt file view t file.layout mode old new status does

-- in rooms of the file's layout, while boots are left
abbrev pub ServesOverHurt : Mode → Layout → Outside → Outside → Status → Type 0
ServesOverHurt mode layout old new status = (file : DataFile) (view : View) (t : Told) → layout ≡ file.layout → old.told ≡ Some t → MayBeHurt file view t → boot_of view < GREATEST → ServesHurt file view t mode old new status

-- ---- the program

-- the superblock can't be used, where the version is asked for: that is of damage, and never comes where the four copies were equal and two stand, nor where what is hurt isn't needed
pub record RefusesCopiesAs (version : ℕ) (file : DataFile) (view : View) (t : Told) (old new : Outside) (status : Status) : Type 0 where
  pub refuses : RefusesSuperblockAs version t old new status
  pub damage : MayBeOfDamage refuses.error
  pub hurt : IsHurtFile file.layout t
  pub stood : HasEqualCopies file t.log → HasTwoCopies t → ⊥
  pub needed : IsNeedless file t → ⊥

abbrev pub RefusesCopies : DataFile → View → Told → Outside → Outside → Status → Type 0
RefusesCopies file view t old new status = RefusesCopiesAs 2 file view t old new status

-- while boots are left: memory was wanting or the disk failed in the first reads, or the superblock is refused for damage, or the word is carried out
abbrev pub RunsOverHurt : Mode → Outside → Outside → Status → Type 0
RunsOverHurt mode old new status = (file : DataFile) (view : View) (t : Told) → old.told ≡ Some t → MayBeHurt file view t → boot_of view < GREATEST
    → DidNothing old new status ⊎ RefusesCopies file view t old new status ⊎ ServesHurt file view t mode old new status
