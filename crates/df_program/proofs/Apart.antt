-- Of the statuses that each program has no two are one.
use Rattle.{std.proofs.Common.{◌≡◌, ◌∙◌, ap, arith, sym}, df_program.specs.{Ends.{Statuses, shared_in}, declared.shared.Shared.{Shared}}}

-- a refusal is no failing sink
pub refused_apart : {S : Type 0} (s : Statuses S) (x : Shared S) → x ≡ shared_in s → x.refused ≡ s.write_fault → ⊥
refused_apart {S} s x same is = let one : s.refused ≡ s.write_fault = sym (ap (λ (y : Shared S). y.refused) same) ∙ is in
    omega (arith, sym s.refused_is ∙ ap s.number one ∙ s.sink_is)
