-- What the making of a file answers, and what it does to the disk.
use Rattle.std.specs.Prelude.{◌≡◌, ◌⊎◌, ◌<◌, ℕ, true, false, List, Option, Some, None, Result, Ok, Err}
use Rattle.df_base.specs.{Image.{Image}, Log.{Event}}
use Rattle.df_disk.specs.{Told.{Told}, Adds.{AddsPart, after_all}}
use Rattle.df_format.specs.Copies.{is_blank_copy}
use Rattle.df_superblock.specs.Blank.{IsUnformatted}
use Rattle.df_model.specs.{declared.errors.FormatError.{FormatError}, declared.errors.FormatError.TheVariants.{ClusterZero, NotBlank, DiskFault}}

-- the first copy whose sector holds a byte other than zero
pub record IsFirstWritten (image : Image) (copy : ℕ) : Type 0 where
  pub inside : copy < 4
  pub written : is_blank_copy (image copy) ≡ false
  pub before : (n : ℕ) → n < copy → is_blank_copy (image n) ≡ true

-- what the sectors of the copies show, where the disk tells that: zeros alone, or which is the first that holds another byte
abbrev pub TellsBlank : {T : Type 0} → Option Told → Result T FormatError → Type 0
TellsBlank None result = Unit {0}
TellsBlank (Some t) (Ok x) = IsUnformatted t.shown
TellsBlank (Some t) (Err (NotBlank copy)) = IsFirstWritten t.shown copy
TellsBlank (Some t) (Err ClusterZero) = Unit {0}
TellsBlank (Some t) (Err DiskFault) = Unit {0}

-- the cluster is refused exactly where it is 0
abbrev pub RefusesCluster : {T : Type 0} → ℕ → Result T FormatError → Type 0
RefusesCluster cluster (Ok x) = 0 < cluster
RefusesCluster cluster (Err ClusterZero) = cluster ≡ 0
RefusesCluster cluster (Err (NotBlank copy)) = 0 < cluster
RefusesCluster cluster (Err DiskFault) = 0 < cluster

-- nothing was done to the disk, or the sectors of the copies showed zeros alone
abbrev pub OnlyOnBlank : Option Told → Option Told → Type 0
OnlyOnBlank None new = Unit {0}
OnlyOnBlank (Some t) new = (new ≡ Some t) ⊎ IsUnformatted t.shown

-- all these events are added, a part of them, from the first on, where the disk failed, and none at a refusal; and none ever where the disk wasn't blank
abbrev pub AddsFormat : {T : Type 0} → List Event → Option Told → Option Told → Result T FormatError → Type 0
AddsFormat events old new (Ok x) = new ≡ after_all events old
AddsFormat events old new (Err DiskFault) = AddsPart events old new × OnlyOnBlank old new
AddsFormat events old new (Err ClusterZero) = new ≡ old
AddsFormat events old new (Err (NotBlank copy)) = new ≡ old
