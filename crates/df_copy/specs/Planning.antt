-- What is found of a source before the target is touched: that it is refused, or how long the copy's trailer is to be.
use Rattle.std.specs.Prelude.{◌≡◌, Some, None, Result, Ok, Err}
use Rattle.df_layout.specs.declared.layout.Layout.{Layout}
use Rattle.df_model.specs.Refusals.{first_refusal}
use Rattle.df_opening.specs.Below.{State, memory}
use Rattle.df_copy.specs.{declared.ending.Ending.{Ending}, declared.plan.Plan.{Plan}, Tests.{rest_tests, trailer_blocks, trailer_size}}

-- this many blocks, with a text of this many bytes
pub record IsCopyPlan (layout : Layout) (s : State) (plan : Plan) : Type 0 where
  pub blocks : plan.blocks ≡ trailer_blocks layout (memory s)
  pub size : plan.size ≡ trailer_size layout (memory s)

-- none of the tests that read nothing holds; or the first that does is answered
abbrev pub IsCopyTested : Layout → State → Result Plan Ending → Type 0
IsCopyTested layout s (Ok plan) = (first_refusal (rest_tests layout (memory s)) ≡ None) × IsCopyPlan layout s plan
IsCopyTested layout s (Err e) = first_refusal (rest_tests layout (memory s)) ≡ Some e
