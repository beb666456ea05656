use Rattle.{std.proofs.Common.{◌≡◌, ◌<◌, ℕ, Some}, df_quorum.specs.Quorum.{copies_of, content_of_copy}}
use Rattle.df_quorum.proofs.votes.has_second.Given as goal

abbrev pub invariant-loop-other : goal.invariant-loop-other
invariant-loop-other l = (k : ℕ) → k < l.other → (k ≡ l.number → ⊥) → copies_of l.copies k ≡ Some (content_of_copy l.wanted) → ⊥
