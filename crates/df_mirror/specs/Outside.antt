-- What a mending has around it, and how it ends: that of any program over two files, with this one's statuses.
use Rattle.std.specs.{Prelude.{◌≡◌, ◌==◌, ℕ, if◌then◌else◌}, Prelude.{Some}}
use Rattle.df_base.specs.Image.{IsImage}
use Rattle.df_disk.specs.Told.{Told}
use Rattle.df_mirror.specs.{declared.status.Status.{Status}, declared.status.Status.TheVariants.{Done, Found}}
pub use Rattle.df_program.specs.{Telling.{Blames, PrintsError, Writes}, Two.{Faults, HasCausesOfTwo, Outside, around, counts}}
use Rattle.df_program.specs.Two.{Outside}

-- both files tell what they show, in whole sectors
pub record Tell (t o : Told) (outside : Outside) : Type 0 where
  pub first : outside.first ≡ Some t
  pub second : outside.second ≡ Some o
  pub whole : IsImage t.shown
  pub other : IsImage o.shown

-- Found exactly where something was mended
abbrev pub ended : ℕ → Status
ended count = if count == 0 then Done else Found
