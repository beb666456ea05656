-- What contracts see of the source and the sink in memory.
use Rattle.std.specs.Prelude.{ℕ, List}
use Rattle.df_base.specs.Plan.{Plan}

-- the bytes still to come, and the calls
pub record SourceState : Type 0 where
  pub left : List ℕ
  pub plan : Plan

-- the bytes written so far, the calls, and how many growths were refused
pub record SinkState : Type 0 where
  pub written : List ℕ
  pub plan : Plan
  pub refused : ℕ
