-- Why a stop is refused.
use Rattle.std.specs.Prelude.{◌≡◌, ℕ, Option, Some, None}
use Rattle.df_memdisk.specs.{declared.change.StopError.{StopError}, declared.change.StopError.TheVariants.{NotLoose, OutOfMemory}}

-- NotLoose names the first sector that isn't loose, and want of memory is answered only where there is none
abbrev pub IsFirstFirm : StopError → Option ℕ → Type 0
IsFirstFirm (NotLoose sector) firm = firm ≡ Some sector
IsFirstFirm OutOfMemory firm = firm ≡ None
