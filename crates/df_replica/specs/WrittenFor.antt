-- What was written of a state of the machine: all that a read of it may give, whatever the disk shows.
use Rattle.std.specs.Prelude.{◌≡◌, ℕ, Option, Some, None}
use Rattle.df_base.specs.Log.{Log}
use Rattle.df_disk.specs.Told.{Told}
use Rattle.df_opening.specs.Below.{IsWritten, WasWritten, DataFile}
use Rattle.df_model.specs.Work.{Running, Work, kept}
use Rattle.df_theory.specs.{Device.{units_log}, Trailer.{InChain}, Units.{Block, BlockPlace, BlockUnit}}
use Rattle.df_units.specs.Format.{format_of}

-- each unit that its view needs was written at its place, and so was each block of the running trailer, as far as it is written
pub record IsWrittenFor (file : DataFile) (log : Log) (w : Work) : Type 0 where
  pub view : WasWritten file log (kept w)
  pub trailer : (r : Running) → w.running ≡ Some r → (a : ℕ) (b : Block) → InChain a b r.written → IsWritten (units_log (format_of file.layout file.cluster) log) (BlockPlace a) (BlockUnit b)

-- where the disk tells its log
abbrev pub IsWrittenIn : DataFile → Option Told → Work → Type 0
IsWrittenIn file None w = Unit {0}
IsWrittenIn file (Some t) w = IsWrittenFor file t.log w

-- where it was so of one state, it is so of the next
abbrev pub WritesOn : DataFile → (old new : Option Told) → (w u : Work) → Type 0
WritesOn file old new w u = IsWrittenIn file old w → IsWrittenIn file new u
