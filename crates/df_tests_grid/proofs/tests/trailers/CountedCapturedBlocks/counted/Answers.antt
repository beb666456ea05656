-- As many of the first addresses are referenced as there are up to the last one that is.
use Rattle.std.{proofs.{Common.{◌≡◌, ℕ, zero, suc, ◌*◌, ◌%◌, ◌<◌, ◌≤◌, Bool, true, false, Option, Some, None, ◌∷◌, ap, sym, ◌∙◌, arith}, lemmas.Bool.{le-leb, lt-leb}}, specs.Prelude.{if◌then◌else◌, map, min, nat_le, replicate}}
use Rattle.{df_base.specs.Fields.{field_at}, df_trailer.specs.{Spelling.{is_referenced, listed}, Text.{ones}, Writing.{referenced_among}}}
use Rattle.df_tests_grid.proofs.tests.trailers.CountedCapturedBlocks.counted.Goals as goal

-- where those at the first places are referenced, and no others
among : (f : ℕ → Option ℕ) (most n : ℕ) → ((k : ℕ) → k < most → is_referenced (f k) ≡ true)
    → ((k : ℕ) → most ≤ k → is_referenced (f k) ≡ false) → ones (map is_referenced (listed f n)) ≡ min n most
among f most zero up past = omega arith
among f zero (suc n) up past = let rest : ones (map is_referenced (listed (λ k. f (suc k)) n)) ≡ min n zero =
    among (λ k. f (suc k)) zero n (λ k h. absurd (omega arith)) (λ k h. past (suc k) (omega arith)) in
    ap (λ (b : Bool). ones (b ∷ map is_referenced (listed (λ k. f (suc k)) n))) (past 0 (omega arith)) ∙ rest ∙ none n
  where
    none : (n : ℕ) → min n 0 ≡ min (suc n) 0
    none n = omega arith
among f (suc most) (suc n) up past = let rest : ones (map is_referenced (listed (λ k. f (suc k)) n)) ≡ min n most =
    among (λ k. f (suc k)) most n (λ k h. up (suc k) (omega arith)) (λ k h. past (suc k) (omega arith)) in
    ap (λ (b : Bool). ones (b ∷ map is_referenced (listed (λ k. f (suc k)) n))) (up 0 (omega arith)) ∙ ap suc rest ∙ more n most
  where
    more : (n most : ℕ) → suc (min n most) ≡ min (suc n) (suc most)
    more n most = omega arith

-- where the lowest addresses are referenced
lowest : (most n : ℕ) (checksum : ℕ → ℕ)
    → referenced_among (λ address. if nat_le address most then Some (checksum address) else None) n ≡ min n most
lowest most n checksum = among (λ k. if nat_le (suc k) most then Some (checksum (suc k)) else None) most n
    (λ k h. ap (λ (b : Bool). is_referenced (if b then Some (checksum (suc k)) else None)) (le-leb (suc k) most (omega arith)))
    (λ k h. ap (λ (b : Bool). is_referenced (if b then Some (checksum (suc k)) else None)) (lt-leb (suc k) most (omega arith)))

pub returns : goal.returns
returns c = let count : ℕ = c.args.self.now.lowest.count in let is : c.min.result ≡ min (256 * c.args.groups) count = omega arith in
    is ∙ sym (lowest count (256 * c.args.groups) (λ address. field_at 16 0 (replicate 16 (address % 256))))
