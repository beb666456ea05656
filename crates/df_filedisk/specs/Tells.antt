-- What a disk over a file tells, which contracts see as its count of faults.
use Rattle.std.specs.Prelude.{ℕ, Option, None}
use Rattle.df_disk.specs.Told.{Told}

-- nothing: no contract can say what a file holds
abbrev pub tells : ℕ → Option Told
tells faults = None
