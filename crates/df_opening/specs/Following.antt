-- What an open asks of a disk is left by a making, by calls, and by a stop at any moment of them: sessions follow one another.
use Rattle.std.specs.Prelude.{◌≡◌, ℕ, List}
use Rattle.df_base.specs.{declared.TheConstants.{VERSION}, Image.{changed}, Log.{AreLoose, IsLeft, IsLog, Stop, now}}
use Rattle.df_disk.specs.Told.{IsHonest, Told, did}
use Rattle.df_damage.specs.{Anew.{MayRestart, restarted}, Below.{DataFile, shape}}
use Rattle.df_theory.specs.{Device.{IsSafeDisk, NoChanceOf, units_log}, Found.{IsFound}, Holds.{Held}, TidyLaws.{IsTidy}, View.{View}}
use Rattle.df_units.specs.Bytes.{unit_at}
use Rattle.df_opening.specs.Keeping.{format}

-- a disk that is safe to open, with a file of version 2: this view is found in what its log leaves, it shows that, and none of its units came about by chance
pub record MayOpen (file : DataFile) (view : View) (t : Told) : Type 0 where
  pub version : file.version ≡ VERSION
  pub safe : IsSafeDisk (format file) (shape file) t.log
  pub honest : IsHonest t
  pub found : IsFound (shape file) (unit_at file.layout file.cluster (now t.log)) view
  pub no_chance : NoChanceOf (format file) t.log (now t.log)

-- a tidy file may be opened, where none of its units came about by chance
abbrev pub TidyMayOpen : Type 0
TidyMayOpen =
    (file : DataFile) (view : View) (t : Told) → file.version ≡ VERSION → IsLog t.log → IsHonest t → IsTidy (shape file) (units_log (format file) t.log) view → NoChanceOf (format file) t.log (now t.log) → MayOpen file view t

-- so may a file after a stop at a moment at which its log was safe, with the view that the stop left
abbrev pub StoppedMayOpen : Type 0
StoppedMayOpen =
    (file : DataFile) (view : View) (t : Told) (changes : List (ℕ × List ℕ)) → file.version ≡ VERSION → IsSafeDisk (format file) (shape file) t.log → IsHonest t → AreLoose t.log.events changes
    → NoChanceOf (format file) t.log (changed changes (now t.log)) → Held (shape file) ((format file).unit_at (changed changes (now t.log))) view → MayOpen file view (did (Stop changes) t)

-- so may a file on which the disk failed, with no stop after it: what it shows is one of the images that a stop might have left
abbrev pub FaultedMayOpen : Type 0
FaultedMayOpen =
    (file : DataFile) (view : View) (t : Told) → file.version ≡ VERSION → IsSafeDisk (format file) (shape file) t.log → IsHonest t → NoChanceOf (format file) t.log (now t.log)
    → (IsLeft t.log (now t.log) → Held (shape file) ((format file).unit_at (now t.log)) view) → MayOpen file view t

-- and so may any file that shows a view from which a log may begin, by the log restarted there, whatever was done to it before
abbrev pub BegunMayOpen : Type 0
BegunMayOpen = (file : DataFile) (view : View) (t : Told) → file.version ≡ VERSION → MayRestart file view t.shown → MayOpen file view (restarted t)
