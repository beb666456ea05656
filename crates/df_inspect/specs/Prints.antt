-- What a call that prints a text has written.
use Rattle.std.specs.Prelude.{ℕ, List, Option, Result, OnOk, OnErr}
use Rattle.df_base.specs.Streams.{Appends, AppendsPart}

-- the text stands after what the sink had; where the call failed, a front of the text does
pub record Prints {T E : Type 0} (text : List ℕ) (old new : Option (List ℕ)) (result : Result T E) : Type 0 where
  pub whole : OnOk result (Appends old new text)
  pub part : OnErr result (AppendsPart old new text)
