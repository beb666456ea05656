-- What the word `upgrade` promises: a file of version 1 becomes one of version 2.
use Rattle.std.proofs.Common.{inl, inr}
use Rattle.std.specs.Prelude.{◌≡◌, ◌⊎◌, ℕ, Some}
use Rattle.df_base.specs.Image.{IsImage}
use Rattle.df_disk.specs.Told.{Told}
use Rattle.df_inspect.specs.Opening.{upgraded_text}
use Rattle.df_layout.specs.declared.layout.Layout.{Layout}
use Rattle.df_session.specs.Below.{DataFile, FindsHad, RefusesHurt}
use Rattle.df_theory.specs.View.{View}
use Rattle.df_upgrade.specs.{Below.{IsLayoutShownAs, MayBeHurtAs}, Upgraded.{StopsUpgrading, UpgradesAll}}
use Rattle.df_top.specs.{Hurting.{RefusesCopiesAs}, Opening.{IsSilent, RefusesFileAs}, Outside.{Outside, PrintsLine}, Run.{DidNothing, RefusesSuperblockAs}, declared.status.Status.{Status}}
use Rattle.df_top.specs.declared.status.Status.TheVariants.{DiskFault, Done}

-- ---- in rooms of a layout

-- The file is upgraded, and its sequence is printed, or a front of that line is where the sink failed. Nothing is read of the source.
pub record Upgrades (layout : Layout) (t : Told) (old new : Outside) (status : Status) : Type 0 where
  pub sequence : ℕ
  pub upgraded : UpgradesAll layout t sequence new.told
  pub prints : PrintsLine (upgraded_text sequence) Done old.written new.written status
  pub unread : new.left ≡ old.left

-- the disk failed: in the barrier, in a read after it, or within the upgrade, which leaves the bare view at each moment
pub record FailsToUpgrade (layout : Layout) (t : Told) (old new : Outside) (status : Status) : Type 0 where
  pub fault : status ≡ DiskFault
  pub silent : IsSilent old new
  pub disk : StopsUpgrading layout t new.told

-- the file is refused, where version 1 is asked for, or the disk fails, or the file is upgraded
abbrev pub ComesToUpgrade : Layout → Told → Outside → Outside → Status → Type 0
ComesToUpgrade layout t old new status = RefusesFileAs 1 layout t old new status ⊎ FailsToUpgrade layout t old new status ⊎ Upgrades layout t old new status

-- so it is over a disk that tells what it shows
abbrev pub UpgradesIn : Layout → Outside → Outside → Status → Type 0
UpgradesIn layout old new status = (t : Told) → old.told ≡ Some t → IsImage t.shown → ComesToUpgrade layout t old new status

-- ---- the program

-- rooms are taken for the layout that the superblock of version 1 names, and the file is upgraded in them
pub record UpgradesOwn (t : Told) (old new : Outside) (status : Status) : Type 0 where
  pub layout : Layout
  pub shown : IsLayoutShownAs 1 t.shown layout
  pub comes : ComesToUpgrade layout t old new status

-- what the word does over a disk that tells what it shows
abbrev pub RunsUpgrade : Outside → Outside → Status → Type 0
RunsUpgrade old new status = (t : Told) → old.told ≡ Some t → IsImage t.shown → DidNothing old new status ⊎ RefusesSuperblockAs 1 t old new status ⊎ UpgradesOwn t old new status

-- ---- over a disk that may be hurt

-- what becomes of the file is of damage: a refusal has its cause in a sector that is hurt, and the state that is found, and stays, is one that the file had
abbrev pub UpgradeIsOfHurt : (file : DataFile) → (view : View) → (t : Told) → (layout : Layout) → (old new : Outside) → (status : Status) → ComesToUpgrade layout t old new status → Type 0
UpgradeIsOfHurt file view t layout old new status (inl refuses) = RefusesHurt file view t refuses.error
UpgradeIsOfHurt file view t layout old new status (inr (inl fails)) = Unit {0}
UpgradeIsOfHurt file view t layout old new status (inr (inr upgrades)) = FindsHad file view t upgrades.upgraded.found

pub record UpgradesHurt (file : DataFile) (view : View) (t : Told) (old new : Outside) (status : Status) : Type 0 where
  pub comes : ComesToUpgrade file.layout t old new status
  pub of_hurt : UpgradeIsOfHurt file view t file.layout old new status comes

-- memory was wanting or the disk failed in the first reads, or the superblock is refused for damage, or the file is upgraded, or not
abbrev pub UpgradesOverHurt : Outside → Outside → Status → Type 0
UpgradesOverHurt old new status = (file : DataFile) (view : View) (t : Told) → old.told ≡ Some t → MayBeHurtAs 1 file view t
    → DidNothing old new status ⊎ RefusesCopiesAs 1 file view t old new status ⊎ UpgradesHurt file view t old new status
