-- The tests that a trailer whose blocks are shown has to pass: it is refused with the first one that fails.
use Rattle.std.specs.Prelude.{◌≡◌, ◌⊎◌, ℕ}
use Rattle.df_layout.specs.{declared.fields.Field.{Field}, declared.fields.Field.TheVariants.{Pending, TrailerChain}}
use Rattle.df_theory.specs.{Units.{Content}, Shape.{Shape}}
use Rattle.df_model.specs.Supply.{Shown}
use Rattle.df_checkpoint.specs.{Chain.{IsBroken}, Reads.{IsBadText, IsReferenced}, Waiting.{IsUntracked}}

-- the first test that the trailer fails: of a link, of the text, of the addresses of the chain, or of the ops that wait; each passed those before
abbrev pub FailsTest : Shape → Shown → Content → Field → ℕ → Type 0
FailsTest sh shown c field value =
    ((field ≡ TrailerChain) × IsBroken sh shown c value) ⊎ (IsBadText sh shown c field value ⊎ (((field ≡ TrailerChain) × IsReferenced sh shown c value) ⊎ ((field ≡ Pending) × IsUntracked sh shown c value)))
