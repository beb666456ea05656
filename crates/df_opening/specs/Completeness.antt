-- A file on which a disk may be opened is refused for no reason, while boots are left: what is left is that the disk fails.
use Rattle.std.specs.Prelude.{◌<◌}
use Rattle.df_base.specs.{declared.TheConstants.{GREATEST}, Image.{IsImage}}
use Rattle.df_disk.specs.Told.{Told}
use Rattle.df_damage.specs.{Unrefused.{IsNotRefused}, Below.{DataFile}}
use Rattle.df_theory.specs.View.{View, boot_of}
use Rattle.df_opening.specs.Following.{MayOpen}

-- what a disk shows on which a file may be opened isn't refused, while boots are left
abbrev pub SafeIsNotRefused : Type 0
SafeIsNotRefused = (file : DataFile) (view : View) (t : Told) → MayOpen file view t → boot_of view < GREATEST → IsImage t.shown × IsNotRefused file t.shown
