use Rattle.std.{proofs.Common.{◌≡◌, ◌+◌, ◌-◌, ◌==◌, ℕ, List, Option, drop, take, not, ap, ◌∙◌}, specs.Prelude.{option_map, position}}
use Rattle.df_format.specs.Copies.{nonzero_between}
use Rattle.df_format.proofs.super_codec.nonzero_between.Goals as goal

from_start : (at end : ℕ) (o : Option ℕ) (bytes : List ℕ)
    → o ≡ position (λ b. not (b == 0)) (take (end - at) (drop at bytes)) → option_map (λ i. at + i) o ≡ nonzero_between at end bytes
from_start at end o bytes is = ap (λ (x : Option ℕ). option_map (λ i. at + i) x) is

pub returns-in_err-behind : goal.returns-in_err-behind
returns-in_err-behind c = c.from_residual.ensures ∙ from_start c.args.at c.args.end _ c.args.bytes.now c.in_err-behind.ensures.value

pub returns : goal.returns
returns c = from_start c.args.at c.args.end _ c.args.bytes.now c.in_ok-behind.ensures.value
