-- How far a checkpoint's trailer is written, for the tests.
use Rattle.std.specs.Prelude.{◌≡◌, ℕ, length}
use Rattle.df_model.specs.Blocks.{Blocks}

-- this many blocks are written, and this many are still to come
pub record AreLeftToWrite (written left : ℕ) (b : Blocks) : Type 0 where
  pub done : length b.written ≡ written
  pub more : length b.left ≡ left
