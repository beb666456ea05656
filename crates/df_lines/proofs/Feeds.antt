-- The first byte 10 as `memchr` gives it, and as `position` does.
use Rattle.std.{proofs.{Common.{◌≡◌, ◌<◌, ℕ, Bool, true, false, cond, nat_lt, List, length, refl, arith}, lemmas.List.Sums.{position_or_len_is}, lemmas.Bool.Decides.{nat_tests}}, specs.{Prelude.{Option, None, Some}, List.{position_or_len, position}}}
use Rattle.{memchr.specs.Find.{IsFirstByte, is_byte}, df_lines.specs.Window.{is_feed}}

not_true : (b : Bool) → ¬ (b ≡ true) → b ≡ false
not_true true fails = absurd (fails refl)
not_true false fails = refl

none_at : (m n : ℕ) → m ≡ n → None ≡ cond (nat_lt m n) (Some m) None
none_at m n is = grind (arith, nat_tests)

some_at : (m n k : ℕ) → m ≡ k → k < n → Some k ≡ cond (nat_lt m n) (Some m) None
some_at m n k is within = grind (arith, nat_tests)

pub first_feed_is : (bytes : List ℕ) (r : Option ℕ) → IsFirstByte (is_byte 10) bytes r → r ≡ position is_feed bytes
first_feed_is bytes None nowhere = none_at (position_or_len is_feed bytes) (length bytes)
    (position_or_len_is is_feed bytes (length bytes) 0 (omega arith) (λ k within.
    not_true _ (nowhere k (omega arith) within)) (λ past. absurd (omega arith)))
first_feed_is bytes (Some k) found = some_at (position_or_len is_feed bytes) (length bytes) k
    (position_or_len_is is_feed bytes k 0 (omega (arith, found.0.high)) (λ j within.
    not_true _ (found.0.before j (omega arith) within)) (λ past. found.1)) found.0.high
